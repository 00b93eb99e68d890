use Rattle.threshold.specs.Held.{AreBestIn, Narrows}
use Rattle.threshold.proofs.held.narrow_rows.Given as goal

-- in the rows so far no state gains more
abbrev pub invariant-loop-line : goal.invariant-loop-line
invariant-loop-line l = Narrows (AreBestIn l.nought l.one l.states l.rows l.line) l.fn.held l.held

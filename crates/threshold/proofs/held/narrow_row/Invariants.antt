use Rattle.std.proofs.Common.{ℕ, ◌<◌}
use Rattle.threshold.specs.Held.{IsNotBelow, Narrows, lead_in}
use Rattle.threshold.proofs.held.narrow_row.Given as goal

-- the states so far gain no more
abbrev pub invariant-loop-state : goal.invariant-loop-state
invariant-loop-state l = Narrows (λ num den. (s : ℕ) → s < l.state → IsNotBelow (lead_in l.nought l.states l.choice s l.line) (lead_in l.one l.states l.choice s l.line) num den) l.fn.held l.held

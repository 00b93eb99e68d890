use Rattle.std.proofs.Common.{subst, arith}
use Rattle.threshold.specs.Held.{AreBestIn, IsBestIn, Narrows, choice_at}
use Rattle.threshold.proofs.Narrowing.{narrows_more}
use Rattle.threshold.proofs.held.narrow_rows.Goals as goal

pub loop-line-preserved : goal.loop-line-preserved
loop-line-preserved c =
    narrows_more (λ line. IsBestIn c.args.nought.now c.args.one.now c.args.states (choice_at c.args.rows.now line) line) c.loop-line.line c.args.held c.loop-line.held c.narrow_row-held.result c.loop-line.invariant c.narrow_row-held.ensures

pub returns : goal.returns
returns c =
    let t = c.loop-line-test.false in
    let end = c.loop-line.auto.line-end in
    subst (λ n. Narrows (AreBestIn c.args.nought.now c.args.one.now c.args.states c.args.rows.now n) c.args.held c.loop-line.held) (omega arith) c.loop-line.invariant

use Rattle.std.proofs.Common.{below_more}
use Rattle.std.proofs.Math.Nat.{pos_of_ne-zero}
use Rattle.weight_scale.proofs.Pivots.{nought_row, total_positive}
use Rattle.weight_scale.proofs.scaling.first_zero_row.Goals as goal

pub returns-then-finest-eq0-clause-some : goal.returns-then-finest-eq0-clause-some
returns-then-finest-eq0-clause-some c =
    let row = rw c.row_at.ensures.row at (nought_row _ _ _ c.finest.ensures c.if-finest-eq0.true) in
    record { within = c.loop-r-test.true; zero_row = row; first = c.loop-r.invariant }

pub loop-r-preserved : goal.loop-r-preserved
loop-r-preserved c =
    let row = rw c.row_at.ensures.row at (total_positive _ _ _ c.finest.ensures (pos_of_ne-zero c.if-finest-eq0.false)) in
    below_more _ _ c.loop-r.invariant row

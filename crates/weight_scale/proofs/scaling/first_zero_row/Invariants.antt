use Rattle.weight_scale.specs.Scaling.{NoZeroRow}
use Rattle.weight_scale.proofs.scaling.first_zero_row.Given as goal

abbrev pub invariant-loop-r : goal.invariant-loop-r
invariant-loop-r l = NoZeroRow l.rows l.states l.r

use Rattle.weight_scale.specs.Rows.{WeighsRows}
use Rattle.weight_scale.proofs.scaling.weigh_rows.Given as goal

abbrev pub invariant-loop-r : goal.invariant-loop-r
invariant-loop-r l = WeighsRows l.reduced l.states l.total l.r l.weights.items

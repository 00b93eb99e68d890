use Rattle.std.proofs.Common.{◌≤◌}
use Rattle.maid_model.specs.Diagrams.{greatest_number}
use Rattle.weight_scale.specs.Rows.{ReducesRows}
use Rattle.weight_scale.proofs.scaling.reduce_rows.Given as goal

abbrev pub invariant-loop-r : goal.invariant-loop-r
invariant-loop-r l = record {
  reduces : ReducesRows l.rows l.states l.r l.numbers.items l.total;
  small : l.total ≤ greatest_number;
}

use Rattle.std.proofs.Common.{◌≡◌, ◌*◌, ◌≤◌}
use Rattle.std.specs.List.{range_with_len}
use Rattle.finite_sums.specs.Sums.{nat_sum_over}
use Rattle.diagram_graph.specs.Room.{rule_cells_at}
use Rattle.maid_model.specs.declared.limits.TheConstants.{MOST_CELLS}
use Rattle.diagram_graph.proofs.room.rule_cells.Given as goal

abbrev pub invariant-loop-v : goal.invariant-loop-v
invariant-loop-v l = record { sum : l.cells ≡ nat_sum_over (rule_cells_at l.diagram.nodes) (range_with_len 0 l.v); few : l.cells ≤ l.v * MOST_CELLS }

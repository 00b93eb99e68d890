use Rattle.std.proofs.Common.{◌≡◌, ◌+◌, ◌*◌}
use Rattle.maid_model.specs.Nodes.{states_of}
use Rattle.threshold.specs.Weights.{new_cells}
use Rattle.threshold.proofs.weights.new_table.Given as goal

-- the cells of the rows so far, and of the states so far of the next row
abbrev pub invariant-loop-state : goal.invariant-loop-state
invariant-loop-state l = l.cells.items ≡ new_cells l.diagram.nodes l.place l.scales (l.row * states_of l.diagram.nodes l.place.node + l.state)

abbrev pub invariant-loop-row : goal.invariant-loop-row
invariant-loop-row l = l.cells.items ≡ new_cells l.diagram.nodes l.place l.scales (l.row * states_of l.diagram.nodes l.place.node)

use Rattle.std.proofs.Common.{◌≡◌, ◌<◌, ◌++◌, drop}
use Rattle.maid_model.specs.Nodes.{rows_under, states_of}
use Rattle.maid_model.specs.Reports.{parent_states, state_labels}
use Rattle.report_text.proofs.report.push_states.Given as goal

-- `below` counts the rows under the parents still to come, and `rest` is the row among those; the
-- labels so far and those to come are all
abbrev pub invariant-loop-parent : goal.invariant-loop-parent
invariant-loop-parent l =
    (l.below ≡ rows_under (states_of l.diagram.nodes) (drop l.parent-index l.parents))
    × (l.rest < l.below)
    × (l.out.items ++ state_labels l.names (drop l.parent-index l.parents) (parent_states (states_of l.diagram.nodes) (drop l.parent-index l.parents) l.rest) ≡ l.fn.out.items ++ state_labels l.names l.parents (parent_states (states_of l.diagram.nodes) l.parents l.row))

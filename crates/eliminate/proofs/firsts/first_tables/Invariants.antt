use Rattle.std.proofs.Common.{◌-◌, ◌≤◌, ◌++◌, length, take, option_to_list}
use Rattle.node_sets.specs.Sets.{holds}
use Rattle.factor_core.specs.Operations.{cells_by}
use Rattle.eliminate.specs.Steps.{Lists, first_nodes}
use Rattle.eliminate.proofs.Starting.{from_node}
use Rattle.eliminate.proofs.firsts.first_tables.Given as goal

abbrev pub invariant-tables : goal.invariant-tables
invariant-tables g l =
    Lists (cells_by g.C.Cell.ring g.C.Cell.of_weight g.C.Cell.of_value) l.play.diagram.now.nodes l.play.profile.now l.fn.work l.work (take l.count l.live) (from_node (holds l.ruled) l.next (length l.play.diagram.now.nodes) ++ option_to_list l.plan.plan.utility) (first_nodes l.play.diagram.now.nodes l.plan.plan)
    × (l.count ≤ length l.live)
    × (l.next ≤ length l.play.diagram.now.nodes)

abbrev pub decreases-tables : goal.decreases-tables
decreases-tables g l = length l.play.diagram.now.nodes - l.next

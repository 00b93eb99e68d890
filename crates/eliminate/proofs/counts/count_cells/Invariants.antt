use Rattle.std.proofs.Common.{◌-◌, ◌≤◌}
use Rattle.node_sets.specs.Sets.{holds}
use Rattle.eliminate.proofs.Factors.{CountsOn}
use Rattle.eliminate.proofs.counts.count_cells.Given as goal

abbrev pub invariant-nodes : goal.invariant-nodes
invariant-nodes l = CountsOn l.diagram.nodes (holds l.scope) l.next l.cells × (l.next ≤ 256)

abbrev pub decreases-nodes : goal.decreases-nodes
decreases-nodes l = 256 - l.next

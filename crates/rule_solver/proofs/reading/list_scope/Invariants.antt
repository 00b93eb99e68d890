use Rattle.std.proofs.Common.{◌≡◌, ◌≤◌, ◌-◌, filter, length}
use Rattle.std.specs.List.{range_with_len}
use Rattle.node_sets.specs.Sets.{holds}
use Rattle.rule_solver.proofs.reading.list_scope.Given as goal

-- the nodes below `from`
abbrev pub invariant-listing : goal.invariant-listing
invariant-listing l = (l.nodes.items ≡ filter (holds l.scope) (range_with_len 0 l.from)) × (l.from ≤ length l.diagram.nodes)

abbrev pub decreases-listing : goal.decreases-listing
decreases-listing l = length l.diagram.nodes - l.from

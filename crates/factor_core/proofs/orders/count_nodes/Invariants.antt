use Rattle.std.proofs.Common.{◌≡◌, ◌-◌, ◌≤◌, ◌+◌, length}
use Rattle.node_sets.specs.Sets.{holds}
use Rattle.factor_core.specs.Tables.{listed}
use Rattle.factor_core.proofs.orders.count_nodes.Given as goal

abbrev pub invariant-nodes : goal.invariant-nodes
invariant-nodes l = (l.n + length (listed (holds l.scope) l.next (l.count - l.next)) ≡ length (listed (holds l.scope) 0 l.count)) × (l.n ≤ l.next) × (l.next ≤ l.count)

abbrev pub decreases-nodes : goal.decreases-nodes
decreases-nodes l = l.count - l.next

use Rattle.std.proofs.Common.{◌≡◌, ◌-◌, ◌≤◌, ◌++◌, length, take}
use Rattle.node_sets.specs.Sets.{holds}
use Rattle.factor_core.specs.Tables.{listed}
use Rattle.factor_core.proofs.orders.list_nodes.Given as goal

abbrev pub invariant-nodes : goal.invariant-nodes
invariant-nodes l = (take l.n l.order ++ listed (holds l.scope) l.next (l.count - l.next) ≡ listed (holds l.scope) 0 l.count) × (l.n ≤ length l.fn.order) × (length l.order ≡ length l.fn.order) × (l.next ≤ l.count)

abbrev pub decreases-nodes : goal.decreases-nodes
decreases-nodes l = l.count - l.next

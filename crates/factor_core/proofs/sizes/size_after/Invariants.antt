use Rattle.std.proofs.Common.{◌≡◌, ◌-◌, ◌*◌, ◌≤◌, length}
use Rattle.node_sets.specs.Sets.{holds}
use Rattle.factor_core.specs.Tables.{states_in, size_from}
use Rattle.factor_core.proofs.sizes.size_after.Given as goal

abbrev pub invariant-nodes : goal.invariant-nodes
invariant-nodes l = (l.size * size_from (states_in l.counts) (holds l.scope) l.next (length l.counts - l.next) ≡ size_from (states_in l.counts) (holds l.scope) l.from (length l.counts - l.from)) × (l.next ≤ length l.counts)

abbrev pub decreases-nodes : goal.decreases-nodes
decreases-nodes l = length l.counts - l.next

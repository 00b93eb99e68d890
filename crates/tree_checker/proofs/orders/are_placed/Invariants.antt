use Rattle.std.proofs.Common.{ℕ, ◌<◌, get_or}
use Rattle.node_sets.specs.Sets.{IsIn}
use Rattle.tree_checker.proofs.orders.are_placed.Given as goal

-- the nodes so far are in the set
abbrev pub invariant-loop-v : goal.invariant-loop-v
invariant-loop-v l = (k : ℕ) → k < l.v-index → IsIn l.placed (get_or l.list k 0)

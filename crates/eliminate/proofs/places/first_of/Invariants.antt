use Rattle.std.proofs.Common.{◌≡◌, ◌<◌, ◌≤◌, ◌-◌, ℕ}
use Rattle.node_sets.specs.Sets.{IsIn}
use Rattle.eliminate.specs.Places.{rank_of}
use Rattle.eliminate.proofs.places.first_of.Given as goal

-- no node so far has a lower rank than the least, which is that of the first one where it is one of
-- the steps'
abbrev pub invariant-nodes : goal.invariant-nodes
invariant-nodes l =
    (l.least ≤ l.order.count)
    × (l.least < l.order.count → IsIn l.scope l.first × (rank_of l.order.ranks.now l.order.count l.first ≡ l.least))
    × ((u : ℕ) → u < l.next → IsIn l.scope u → l.least ≤ rank_of l.order.ranks.now l.order.count u)
    × (l.next ≤ 256)

abbrev pub decreases-nodes : goal.decreases-nodes
decreases-nodes l = 256 - l.next

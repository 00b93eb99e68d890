use Rattle.std.proofs.Common.{◌≡◌, ◌≤◌, ◌-◌, take, length}
use Rattle.node_sets.specs.Sets.{holds}
use Rattle.eliminate.specs.Places.{slots_from}
use Rattle.eliminate.proofs.places.gather.Given as goal

abbrev pub invariant-places : goal.invariant-places
invariant-places l =
    (take l.n l.found ≡ slots_from (holds l.places) 0 (take l.next l.slots))
    × (l.n ≤ l.next)
    × (l.next ≤ length l.slots)
    × (length l.found ≡ length l.fn.found)

abbrev pub decreases-places : goal.decreases-places
decreases-places l = length l.slots - l.next

use Rattle.std.proofs.Common.{◌≡◌, ◌-◌, ◌<◌, ◌≤◌, ℕ, length}
use Rattle.node_sets.specs.Sets.{IsIn}
use Rattle.size_precheck.specs.Families.{IsNarrowedAt}
use Rattle.size_precheck.specs.Joints.{counted_in, HasPlaces}
use Rattle.size_precheck.proofs.starts.list_narrowed.Given as goal

-- the nodes so far have places, and their tables are left
abbrev pub invariant-nodes : goal.invariant-nodes
invariant-nodes l = record {
  within : l.from ≤ 256;
  len : length l.known.places.items ≡ 256;
  few : length l.known.held.items ≤ l.from;
  places : HasPlaces (λ y. IsIn l.waiting y × (y < l.from)) l.known;
  narrowed : (y : ℕ) → IsIn l.waiting y × (y < l.from) → IsNarrowedAt l.planner l.ruled y (counted_in l.known y);
}

abbrev pub decreases-nodes : goal.decreases-nodes
decreases-nodes l = 256 - l.from

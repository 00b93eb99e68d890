use Rattle.std.proofs.Common.{◌≡◌, ◌-◌, ◌<◌, ◌≤◌, ℕ, Bool, true}
use Rattle.node_sets.specs.Sets.{IsIn}
use Rattle.size_precheck.specs.Classes.{AreClasses}
use Rattle.size_precheck.specs.Joints.{cells_in, joint_in, HasPlaces, IsCountedIn, IsPut, KeepsPlaces}
use Rattle.size_precheck.proofs.Placed.{KeepsRest}
use Rattle.size_precheck.proofs.simulation.put_made.Given as goal

-- the nodes so far have the table and are counted, and the others are as they were
abbrev pub invariant-nodes : goal.invariant-nodes
invariant-nodes l = record {
  within : l.from ≤ 256;
  places : KeepsPlaces l.initial.known l.known;
  put : (y : ℕ) → y < l.from → IsIn l.at y → IsPut l.table (IsIn l.gone) (IsIn l.out) (joint_in l.initial.known y) (joint_in l.known y);
  counted : (y : ℕ) → y < l.from → IsIn l.at y → IsCountedIn l.states l.initial.known y → IsCountedIn l.states l.known y;
  classes : (waits : ℕ → Bool) → ((y : ℕ) → IsIn l.at y → waits y ≡ true) → HasPlaces (λ y. waits y ≡ true) l.initial.known
      → AreClasses (cells_in l.initial.known) waits l.initial.classes.items → AreClasses (cells_in l.known) waits l.classes.items;
  rest : KeepsRest l.at l.from l.initial.known l.known;
}

abbrev pub decreases-nodes : goal.decreases-nodes
decreases-nodes l = 256 - l.from

use Rattle.std.proofs.Common.{◌-◌, ◌<◌, ◌≤◌, ℕ}
use Rattle.node_sets.specs.Sets.{IsIn}
use Rattle.size_precheck.specs.Joints.{joint_in, IsCountedIn, IsPut, KeepsPlaces}
use Rattle.size_precheck.proofs.Placed.{KeepsRest}
use Rattle.size_precheck.proofs.simulation.put_first.Given as goal

-- the nodes so far have the table and are counted, and the others are as they were
abbrev pub invariant-nodes : goal.invariant-nodes
invariant-nodes l = record {
  within : l.from ≤ 256;
  places : KeepsPlaces l.initial.known l.known;
  put : (y : ℕ) → y < l.from → IsIn l.at y → IsPut l.table (IsIn l.none) (IsIn l.none) (joint_in l.initial.known y) (joint_in l.known y);
  counted : (y : ℕ) → y < l.from → IsIn l.at y → IsCountedIn l.states l.initial.known y → IsCountedIn l.states l.known y;
  rest : KeepsRest l.at l.from l.initial.known l.known;
}

abbrev pub decreases-nodes : goal.decreases-nodes
decreases-nodes l = 256 - l.from

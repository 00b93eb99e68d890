use Rattle.std.proofs.Common.{◌≡◌, ◌-◌, ◌<◌, ◌≤◌, ◌⊎◌, ℕ, length}
use Rattle.node_sets.specs.Sets.{IsIn}
use Rattle.size_precheck.specs.Joints.{joint_at, IsPut}
use Rattle.size_precheck.proofs.joints.put_table.Given as goal

-- the nodes so far have the table, and the others are as they were
abbrev pub invariant-nodes : goal.invariant-nodes
invariant-nodes l = record {
  within : l.from ≤ 256;
  len : length l.joints ≡ length l.initial.joints;
  put : (y : ℕ) → y < l.from → IsIn l.at y → IsPut l.table (IsIn l.gone) (IsIn l.out) (joint_at l.initial.joints y) (joint_at l.joints y);
  same : (y : ℕ) → (l.from ≤ y) ⊎ (IsIn l.at y → ⊥) → joint_at l.joints y ≡ joint_at l.initial.joints y;
}

abbrev pub decreases-nodes : goal.decreases-nodes
decreases-nodes l = 256 - l.from

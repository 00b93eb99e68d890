use Rattle.std.proofs.Common.{◌≡◌, ◌<◌, ℕ, length}
use Rattle.size_precheck.specs.Families.{IsJointAmong, IsRuledBelow}
use Rattle.size_precheck.specs.Joints.{joint_at}
use Rattle.size_precheck.proofs.planners.list_joints.Given as goal

-- the tables of the nodes so far
abbrev pub invariant-loop-v : goal.invariant-loop-v
invariant-loop-v l = record {
  len : length l.joints.items ≡ length l.diagram.nodes;
  joined : (y : ℕ) → y < length l.diagram.nodes → IsJointAmong l.diagram.nodes (IsRuledBelow l.diagram.nodes l.v) y (joint_at l.joints.items y);
}

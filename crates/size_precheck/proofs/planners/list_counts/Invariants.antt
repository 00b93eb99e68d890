use Rattle.std.proofs.Common.{◌≡◌, ◌<◌, ℕ, length}
use Rattle.size_precheck.specs.Joints.{IsCountedAt}
use Rattle.size_precheck.proofs.planners.list_counts.Given as goal

-- the counts so far
abbrev pub invariant-loop-joint : goal.invariant-loop-joint
invariant-loop-joint l = record {
  len : length l.counts.items ≡ l.joint-index;
  counted : (y : ℕ) → y < l.joint-index → IsCountedAt l.states l.joints l.counts.items y;
}

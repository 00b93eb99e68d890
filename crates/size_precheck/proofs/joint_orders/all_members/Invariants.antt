use Rattle.std.proofs.Common.{◌↔◌, ℕ, take}
use Rattle.node_sets.specs.Sets.{IsIn}
use Rattle.size_precheck.specs.Decisions.{IsNodeOf}
use Rattle.size_precheck.proofs.joint_orders.all_members.Given as goal

-- the nodes of the plans so far
abbrev pub invariant-loop-plan : goal.invariant-loop-plan
invariant-loop-plan l = (v : ℕ) → IsIn l.members v ↔ IsNodeOf (take l.plan-index l.plans) v

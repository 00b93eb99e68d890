use Rattle.std.proofs.Common.{◌↔◌, ℕ, take}
use Rattle.node_sets.specs.Sets.{IsIn}
use Rattle.size_precheck.specs.Decisions.{IsStepOf}
use Rattle.size_precheck.proofs.joint_orders.all_steps.Given as goal

-- the steps of the plans so far
abbrev pub invariant-loop-plan : goal.invariant-loop-plan
invariant-loop-plan l = (v : ℕ) → IsIn l.steps v ↔ IsStepOf (take l.plan-index l.plans) v

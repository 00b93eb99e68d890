use Rattle.std.proofs.Common.{◌≡◌, map, take}
use Rattle.rule_solver.specs.Together.{goal_in}
use Rattle.rule_solver.proofs.joint_goals.list_goals.Given as goal

-- the utilities of the plans so far
abbrev pub invariant-loop-plan : goal.invariant-loop-plan
invariant-loop-plan l = l.goals.items ≡ map goal_in (take l.plan-index l.plans)

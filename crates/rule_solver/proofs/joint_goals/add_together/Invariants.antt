use Rattle.std.proofs.Common.{◌≡◌, ◌-◌, ◌≤◌, length, take}
use Rattle.rule_solver.specs.Sums.{HasGoals}
use Rattle.rule_solver.proofs.joint_goals.add_together.Given as goal

-- the gains are what the goals so far give; the workspace is as it was
abbrev pub invariant-parts : goal.invariant-parts
invariant-parts l = (l.done ≤ length l.goals) × HasGoals l.setting.diagram.now.nodes l.setting.base.now l.setting.decision (take l.done l.goals) l.gains × (l.work ≡ l.fn.work) × (length l.gains ≡ length l.fn.gains)

abbrev pub decreases-parts : goal.decreases-parts
decreases-parts l = length l.goals - l.done

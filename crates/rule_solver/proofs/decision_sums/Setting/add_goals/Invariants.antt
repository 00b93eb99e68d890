use Rattle.std.proofs.Common.{◌≡◌, length, take}
use Rattle.rule_solver.specs.Sums.{HasGoals}
use Rattle.rule_solver.proofs.decision_sums.Setting.add_goals.Given as goal

-- the gains are what the goals so far give; the workspaces are as they were
abbrev pub invariant-loop-place : goal.invariant-loop-place
invariant-loop-place l = HasGoals l.self.diagram.now.nodes l.self.base.now l.self.decision (take l.place l.goals) l.gains × (l.spaces ≡ l.fn.spaces) × (length l.gains ≡ length l.fn.gains)

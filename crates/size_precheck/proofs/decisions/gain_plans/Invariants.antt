use Rattle.std.proofs.Common.{map, take}
use Rattle.std.specs.List.{AllZip}
use Rattle.plan_sums.specs.Plans.{gain_plan}
use Rattle.size_precheck.specs.Sizes.{IsPlanned}
use Rattle.size_precheck.proofs.decisions.gain_plans.Given as goal

-- the plans of the goals so far
abbrev pub invariant-loop-goal : goal.invariant-loop-goal
invariant-loop-goal l = AllZip (IsPlanned l.diagram.nodes) (map (λ u. gain_plan l.diagram.nodes l.decision u) (take l.goal-index l.goals)) l.plans.items

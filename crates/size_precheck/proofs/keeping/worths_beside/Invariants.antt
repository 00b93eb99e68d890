use Rattle.std.proofs.Common.{map, take}
use Rattle.std.specs.List.{AllZip}
use Rattle.size_precheck.specs.Sizes.{SizedPlan, IsPlanned}
use Rattle.size_precheck.proofs.keeping.worths_beside.Given as goal

-- the plans so far are those of the same worths
abbrev pub invariant-loop-plan : goal.invariant-loop-plan
invariant-loop-plan l = AllZip (IsPlanned l.diagram.nodes) (map (λ (p : SizedPlan). p.plan) (take l.plan-index l.before)) l.plans.items

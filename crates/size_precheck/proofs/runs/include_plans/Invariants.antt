use Rattle.std.proofs.Common.{List, take, ◌≤◌, ◌^◌}
use Rattle.std.specs.List.{AllZip}
use Rattle.maid_model.specs.Views.{NodeView}
use Rattle.plan_sums.specs.Plans.{PlanView}
use Rattle.size_precheck.specs.Runs.{Includes}
use Rattle.size_precheck.specs.Sizes.{IsPlanned}
use Rattle.size_precheck.proofs.runs.include_plans.Given as goal

abbrev pub invariant-loop-plan : goal.invariant-loop-plan
invariant-loop-plan l =
    (l.sum.work ≤ 10 ^ 18)
    × ((nodes : List NodeView) (asked : List PlanView) → AllZip (IsPlanned nodes) asked l.plans → Includes nodes (take l.plan-index asked) l.fn.size l.sum)

use Rattle.std.proofs.Common.{ℕ, List, map, take, ◌≤◌, ◌^◌}
use Rattle.std.specs.Prelude.{flat_map}
use Rattle.maid_model.specs.Views.{NodeView}
use Rattle.plan_sums.specs.Plans.{gain_plan}
use Rattle.size_precheck.specs.Decisions.{ArePlans}
use Rattle.size_precheck.specs.Runs.{Includes}
use Rattle.size_precheck.specs.Sizes.{goal_list}
use Rattle.size_precheck.proofs.runs.include_all_goals.Given as goal

abbrev pub invariant-loop-decision : goal.invariant-loop-decision
invariant-loop-decision l =
    (l.sum.work ≤ 10 ^ 18)
    × ((nodes : List NodeView) (order : List ℕ) → ArePlans nodes order l.plans → Includes nodes (flat_map (λ d. map (λ u. gain_plan nodes d u) (goal_list nodes d)) (take l.decision-index order)) l.fn.size l.sum)

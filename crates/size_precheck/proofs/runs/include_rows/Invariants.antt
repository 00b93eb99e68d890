use Rattle.std.proofs.Common.{ℕ, List, map, take, ◌≤◌, ◌^◌}
use Rattle.maid_model.specs.Views.{NodeView}
use Rattle.plan_sums.specs.Plans.{row_plan}
use Rattle.size_precheck.specs.Decisions.{ArePlans}
use Rattle.size_precheck.specs.Runs.{Includes}
use Rattle.size_precheck.proofs.runs.include_rows.Given as goal

abbrev pub invariant-loop-decision : goal.invariant-loop-decision
invariant-loop-decision l =
    (l.sum.work ≤ 10 ^ 18)
    × ((nodes : List NodeView) (order : List ℕ) → ArePlans nodes order l.plans → Includes nodes (map (λ d. row_plan nodes d) (take l.decision-index order)) l.fn.size l.sum)

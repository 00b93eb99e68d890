-- What the steps of measuring a run promise one another. Only private functions cite this file.
use Rattle.std.specs.Prelude.{◌≡◌, ◌+◌, ℕ, List, map, flat_map, max, sum_by}
use Rattle.std.specs.List.{AllZip}
use Rattle.maid_model.specs.Views.{NodeView}
use Rattle.plan_sums.specs.Plans.{PlanView, row_plan, gain_plan}
use Rattle.size_precheck.specs.declared.decisions.DecisionPlans.{DecisionPlans}
use Rattle.size_precheck.specs.declared.sizes.Size.{Size}
use Rattle.maid_model.specs.Bounds.{stopped}
use Rattle.size_precheck.specs.Decisions.{ArePlans}
use Rattle.size_precheck.specs.Sizes.{HasSize, SizedPlan, IsPlanned, IsSizeOfRun, ArePlansOfWorths, goal_list, greatest}

-- the size after these plans are counted with those before
pub record Includes
    (nodes : List NodeView) (plans : List PlanView) (before after : Size) : Type 0 where
  pub sizes : List Size
  pub each : AllZip (HasSize nodes) plans sizes
  pub cells : after.cells ≡ max before.cells (greatest (map (λ s. s.cells) sizes))
  pub work : after.work ≡ stopped (before.work + sum_by (λ s. s.work) sizes)

-- the greater cells of two sizes, and their work together
abbrev pub joined_size : Size → Size → Size
joined_size size other = record {
  cells = max size.cells other.cells;
  work = stopped (size.work + other.work);
}

-- these plans are counted in, whatever was asked for
abbrev pub IncludesPlans : List SizedPlan → Size → Size → Type 0
IncludesPlans plans before after =
    (nodes : List NodeView) (asked : List PlanView) → AllZip (IsPlanned nodes) asked plans
    → Includes nodes asked before after

-- the plans of the decisions' rows are counted in, whichever decisions these are
abbrev pub IncludesRows : List DecisionPlans → Size → Size → Type 0
IncludesRows plans before after =
    (nodes : List NodeView) (order : List ℕ) → ArePlans nodes order plans
    → Includes nodes (map (λ d. row_plan nodes d) order) before after

-- and those of their states
abbrev pub IncludesGains : List DecisionPlans → Size → Size → Type 0
IncludesGains plans before after =
    (nodes : List NodeView) (order : List ℕ) → ArePlans nodes order plans
    → Includes nodes (flat_map (λ d. map (λ u. gain_plan nodes d u) (goal_list nodes d)) order)
    before after

-- the size of the run that has these plans
abbrev pub IsSizeOfRunWith : List DecisionPlans → List SizedPlan → Size → Type 0
IsSizeOfRunWith decisions worths size =
    (nodes : List NodeView) (order : List ℕ) → ArePlans nodes order decisions
    → ArePlansOfWorths nodes worths → IsSizeOfRun nodes order size

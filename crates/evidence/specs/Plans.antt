-- The plans of a diagram under evidence, made and kept. Only private functions cite it.
use Rattle.std.specs.Prelude.{◌≡◌, ◌≢◌, ℕ, ◌<◌, ◌≤◌, List, length, slice_index_or, Option, Some, None, MatchOption}
use Rattle.maid_model.specs.declared.diagrams.Kind.TheVariants.{Utility}
use Rattle.maid_model.specs.declared.limits.TheConstants.{MOST_PLAN_CELLS}
use Rattle.maid_model.specs.Nodes.{node_at}
use Rattle.maid_model.specs.Views.{NodeView}
use Rattle.rule_solver.specs.Rooms.{HasRoomForRun}
use Rattle.size_precheck.specs.Decisions.{ArePlans}
use Rattle.size_precheck.specs.Sizes.{IsPlanned, SizedPlan, ArePlansOfWorths}
use Rattle.evidence.specs.declared.measures.GivenPlans.{GivenPlans}
use Rattle.evidence.specs.Sizes.{HasRoomGiven, plan_given}

-- this is the plan that keeps x, perhaps with a utility
abbrev pub IsPlanGiven : List NodeView → ℕ → Option ℕ → SizedPlan → Type 0
IsPlanGiven nodes x utility plan = IsPlanned nodes (plan_given x utility) plan

-- the plan that keeps x and has the utility v, or nothing where v is no utility
abbrev pub IsPlanIf : List NodeView → ℕ → ℕ → Option SizedPlan → Type 0
IsPlanIf nodes x v found = MatchOption found ((node_at nodes v).kind ≢ Utility)
    (λ plan. ((node_at nodes v).kind ≡ Utility) × IsPlanGiven nodes x (Some v) plan)

-- for each node the plan that keeps x and has it, where it is a utility
pub record HasUtilityPlans (nodes : List NodeView) (x : ℕ) (plans : List (Option SizedPlan)) : Type
    0 where
  pub count : length plans ≡ length nodes
  pub each :
      (v : ℕ) → v < length nodes → IsPlanIf nodes x v (slice_index_or plans v None)

-- the plans of the run in this order
pub record HasRunPlans (nodes : List NodeView) (order : List ℕ) (plans : GivenPlans) : Type 0 where
  pub decisions : ArePlans nodes order plans.run.decisions.items
  pub worths : ArePlansOfWorths nodes plans.run.worths.items

-- the further ones
pub record HasFurtherPlans (nodes : List NodeView) (x : ℕ) (plans : GivenPlans) : Type 0 where
  pub alone : IsPlanGiven nodes x None plans.alone
  pub utilities : HasUtilityPlans nodes x plans.utilities.items

-- so many cells are room for all of them
pub record HasRoomForAll (nodes : List NodeView) (x cells : ℕ) : Type 0 where
  pub run : HasRoomForRun nodes cells
  pub given : HasRoomGiven nodes x cells

-- all plans of a run under evidence, none of which has more cells than a plan may have
pub record HasAllPlans
    (nodes : List NodeView) (order : List ℕ) (x : ℕ) (plans : GivenPlans) : Type 0 where
  pub run : HasRunPlans nodes order plans
  pub further : HasFurtherPlans nodes x plans
  pub room : HasRoomForAll nodes x plans.size.cells
  pub limit : plans.size.cells ≤ MOST_PLAN_CELLS

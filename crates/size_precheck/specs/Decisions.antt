-- The plans of decisions, kept together.
use Rattle.std.specs.Prelude.{◌↔◌, ◌<◌, ℕ, List, Contains, length}
use Rattle.std.specs.List.{AllZip}
use Rattle.maid_model.specs.Graph.{AllDifferent}
use Rattle.maid_model.specs.Views.{NodeView}
use Rattle.plan_sums.specs.Plans.{row_plan}
use Rattle.size_precheck.specs.declared.decisions.DecisionPlans.{DecisionPlans}
use Rattle.size_precheck.specs.Sizes.{ArePlansOfGoals, IsMember, IsPlanned, SizedPlan}

-- one of the plans eliminates the node
abbrev pub IsStepOf : List SizedPlan → ℕ → Type 0
IsStepOf plans v = (plan : SizedPlan) × Contains plans plan × Contains plan.steps v

-- one of the plans keeps the node or eliminates it
abbrev pub IsNodeOf : List SizedPlan → ℕ → Type 0
IsNodeOf plans v = (plan : SizedPlan) × Contains plans plan × IsMember plan v

-- all nodes of the plans are below the count
abbrev pub HaveNodesBelow : ℕ → List SizedPlan → Type 0
HaveNodesBelow count plans = (v : ℕ) → IsNodeOf plans v → v < count

-- the order lists the numbers that are so, each once
pub record ListsOnce (Is : ℕ → Type 0) (order : List ℕ) : Type 0 where
  pub once : AllDifferent order
  pub all : (v : ℕ) → Contains order v ↔ Is v

-- where the order has a number, it lists those that are so, each once
abbrev pub ListsOnceOrNone : (ℕ → Type 0) → List ℕ → Type 0
ListsOnceOrNone Is order = 0 < length order → ListsOnce Is order

-- where the order has a node, it lists the steps of the plans, each once
abbrev pub ListsStepsOrNone : List SizedPlan → List ℕ → Type 0
ListsStepsOrNone plans order = ListsOnceOrNone (IsStepOf plans) order

-- the plans of the decision: that of its rows, those of its states, one for each of its goals, and
-- where the joint order has a node, it lists the steps of the goals' plans, each once
pub record AreDecisionPlans (nodes : List NodeView) (d : ℕ) (plans : DecisionPlans) : Type 0 where
  pub of_rows : IsPlanned nodes (row_plan nodes d) plans.rows
  pub of_goals : ArePlansOfGoals nodes d plans.goals.items
  pub order : ListsStepsOrNone plans.goals.items plans.joint_order.items

-- the plans of each decision of the order, one after the other
abbrev pub ArePlans : List NodeView → List ℕ → List DecisionPlans → Type 0
ArePlans nodes order plans = AllZip (AreDecisionPlans nodes) order plans

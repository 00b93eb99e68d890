-- How large plans are, and a run of them.
use Rattle.std.specs.Prelude.{◌≡◌, ◌⊎◌, ◌↔◌, ◌<◌, Option, None, Some, Contains, ℕ, ◌+◌, ◌*◌, ◌&&◌, Bool, List, [], ◌∷◌, ◌++◌, map, filter, flat_map, length, max, sum_by}
use Rattle.std.specs.List.{AllZip}
use Rattle.maid_model.specs.Graph.{AllDifferent, Arc, Descends, descends}
use Rattle.maid_model.specs.Nodes.{IsDecision, agent_of, node_at, numbers_of, is_utility, is_utility_of}
use Rattle.maid_model.specs.Views.{NodeView}
use Rattle.ring_sums.specs.Tables.{joined_without, scopes_one, scopes_after}
use Rattle.plan_sums.specs.Laws.{IsOrderOfPlan}
use Rattle.plan_sums.specs.Plans.{PlanView, has, plan_nodes, row_plan, gain_plan, worth_plan}
use Rattle.plan_sums.specs.Sizes.{IsPlan}
use Rattle.size_precheck.specs.declared.sizes.Size.{Size}
use Rattle.maid_model.specs.Bounds.{stopped}
use Rattle.size_precheck.specs.Counts.{counted_cells}
use Rattle.size_precheck.specs.Greedy.{first_scopes, holding, joined_set, IsGreedyOrder}

-- the cells of the tables that the steps make: each time those of the joined set without the node
abbrev pub made_cells : List NodeView → List ℕ → List (ℕ → Bool) → ℕ
made_cells nodes [] scopes = 0
made_cells nodes (v ∷ vs) scopes = counted_cells nodes (joined_without v (holding v scopes))
    + made_cells nodes vs (scopes_one v scopes)

-- the work of the steps: each time the cells of the joined set times the number of tables joined
abbrev pub steps_work : List NodeView → List ℕ → List (ℕ → Bool) → ℕ
steps_work nodes [] scopes = 0
steps_work nodes (v ∷ vs) scopes = counted_cells nodes (joined_set v scopes)
    * length (holding v scopes) + steps_work nodes vs (scopes_one v scopes)

-- the cells of a plan with these steps: of all first tables, of each table that a step makes, and
-- of the last table over the kept nodes
abbrev pub plan_cells : List NodeView → PlanView → List ℕ → ℕ
plan_cells nodes plan steps =
    let scopes = first_scopes nodes plan in
    stopped (sum_by (λ s. counted_cells nodes s) scopes + made_cells nodes steps scopes
    + counted_cells nodes (has plan.keep))

-- the work of a plan with these steps: that of the steps, and at the end the cells of the kept
-- nodes times the number of live tables
abbrev pub plan_work : List NodeView → PlanView → List ℕ → ℕ
plan_work nodes plan steps =
    let scopes = first_scopes nodes plan in
    stopped (steps_work nodes steps scopes
    + counted_cells nodes (has plan.keep) * length (scopes_after steps scopes))

-- a plan that may be asked for: different chance or decision nodes are kept, the utility is one,
-- and the rule that is left out is that of a kept decision from which a path of arcs leads to the
-- utility or to another kept node
pub record CanBePlanned (nodes : List NodeView) (plan : PlanView) : Type 0 where
  pub is_plan : IsPlan nodes plan
  pub known : (u : ℕ) → plan.utility ≡ Some u → u < length nodes
  pub decision : (d : ℕ) → plan.without ≡ Some d → IsDecision nodes d
  pub leads : (d : ℕ) → plan.without ≡ Some d
      → (t : ℕ) × ((plan.utility ≡ Some t) ⊎ Contains plan.keep t) × Descends (Arc nodes) d t

-- what a plan is seen as: what is kept, left out and summed, the nodes that it eliminates in their
-- order, and its size
pub record SizedPlan : Type 0 where
  pub plan : PlanView
  pub steps : List ℕ
  pub size : Size

-- what is asked for: which nodes are kept, whose rule is left out, and which utility is summed
abbrev pub plan_of : List ℕ → Option ℕ → Option ℕ → PlanView
plan_of keep without utility = record { keep = keep; without = without; utility = utility }

-- v is a node of the plan: it keeps v or eliminates it
abbrev pub IsMember : SizedPlan → ℕ → Type 0
IsMember sized v = Contains sized.plan.keep v ⊎ Contains sized.steps v

-- v is a node of a plan that keeps these nodes and has that utility
abbrev pub IsOfPlan : List NodeView → List ℕ → Option ℕ → ℕ → Type 0
IsOfPlan nodes keep utility v = Contains (plan_nodes nodes (plan_of keep None utility)) v

-- the plan with its greedy order, which takes each of its nodes once, and the size of that
pub record IsMade (nodes : List NodeView) (asked : PlanView) (made : SizedPlan) : Type 0 where
  pub plan : made.plan ≡ asked
  pub greedy : IsGreedyOrder nodes asked made.steps
  pub order : IsOrderOfPlan nodes asked made.steps
  pub cells : made.size.cells ≡ plan_cells nodes asked made.steps
  pub work : made.size.work ≡ plan_work nodes asked made.steps

-- the plan may be asked for, and this is what is made of it
pub record IsPlanned (nodes : List NodeView) (plan : PlanView) (result : SizedPlan) : Type 0 where
  pub asked : CanBePlanned nodes plan
  pub made : IsMade nodes plan result

-- the plan of a decision's rows may be asked for
abbrev pub CanPlanRows : List NodeView → ℕ → Type 0
CanPlanRows nodes d = CanBePlanned nodes (row_plan nodes d)

-- the plan of a decision's states for a goal may be asked for
abbrev pub CanPlanGain : List NodeView → ℕ → ℕ → Type 0
CanPlanGain nodes d u = CanBePlanned nodes (gain_plan nodes d u)

-- what is made of that of its states
abbrev pub IsGainPlan : List NodeView → ℕ → ℕ → SizedPlan → Type 0
IsGainPlan nodes d u made = IsMade nodes (gain_plan nodes d u) made

-- ---- a run
-- u is a goal of the decision: a utility of its agent that descends from it
abbrev pub is_goal : List NodeView → ℕ → ℕ → Bool
is_goal nodes d u = descends nodes d u && is_utility_of nodes (agent_of nodes d) u

-- the decision's goals in text order
abbrev pub goal_list : List NodeView → ℕ → List ℕ
goal_list nodes d = filter (λ u. is_goal nodes d u) (numbers_of nodes)

-- a plan of a decision's states for each of these goals
abbrev pub AreGainPlans : List NodeView → ℕ → List ℕ → List SizedPlan → Type 0
AreGainPlans nodes d goals plans =
    AllZip (IsPlanned nodes) (map (λ u. gain_plan nodes d u) goals) plans

-- a plan for each goal of a decision, in text order
abbrev pub ArePlansOfGoals : List NodeView → ℕ → List SizedPlan → Type 0
ArePlansOfGoals nodes d plans = AreGainPlans nodes d (goal_list nodes d) plans

-- the utilities in text order
abbrev pub utility_list : List NodeView → List ℕ
utility_list nodes = filter (λ u. is_utility (node_at nodes u).kind) (numbers_of nodes)

-- the plans of the worths of all utilities, in text order
abbrev pub ArePlansOfWorths : List NodeView → List SizedPlan → Type 0
ArePlansOfWorths nodes plans =
    AllZip (IsPlanned nodes) (map (λ u. worth_plan u) (utility_list nodes)) plans

-- the plans of a run: for each decision in the order that of its rows, for each and each of its
-- goals that of its states, and for each utility that of its worth
abbrev pub run_plans : List NodeView → List ℕ → List PlanView
run_plans nodes order =
    map (λ d. row_plan nodes d) order
    ++ flat_map (λ d. map (λ u. gain_plan nodes d u) (goal_list nodes d)) order
    ++ map (λ u. worth_plan u) (utility_list nodes)

-- the size of the plan
abbrev pub HasSize : List NodeView → PlanView → Size → Type 0
HasSize nodes plan size =
    (steps : List ℕ) × IsMade nodes plan (record { plan = plan; steps = steps; size = size })

-- the greatest number of a list, 0 where it is empty
abbrev pub greatest : List ℕ → ℕ
greatest [] = 0
greatest (x ∷ xs) = max x (greatest xs)

-- the greatest cells of these plans, and their work added up
pub record IsSizeOfAll (nodes : List NodeView) (plans : List PlanView) (size : Size) : Type 0 where
  pub sizes : List Size
  pub each : AllZip (HasSize nodes) plans sizes
  pub cells : size.cells ≡ greatest (map (λ s. s.cells) sizes)
  pub work : size.work ≡ stopped (sum_by (λ s. s.work) sizes)

-- the order lists each decision once
pub record ListsDecisions (nodes : List NodeView) (order : List ℕ) : Type 0 where
  pub once : AllDifferent order
  pub all : (v : ℕ) → Contains order v ↔ IsDecision nodes v

-- the size of a run
abbrev pub IsSizeOfRun : List NodeView → List ℕ → Size → Type 0
IsSizeOfRun nodes order size = IsSizeOfAll nodes (run_plans nodes order) size

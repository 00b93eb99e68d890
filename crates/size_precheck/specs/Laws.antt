-- Laws of plans and of their counts.
use Rattle.std.specs.Prelude.{◌≡◌, ℕ, ◌+◌, ◌*◌, List}
use Rattle.maid_model.specs.Views.{NodeView, RuleView}
use Rattle.ring_sums.specs.Tables.{scopes_of}
use Rattle.plan_sums.specs.Laws.{IsOrderOfPlan}
use Rattle.plan_sums.specs.Plans.{Cells, PlanView, first_tables}
use Rattle.size_precheck.specs.declared.sizes.Size.{Size}
use Rattle.maid_model.specs.Bounds.{stopped}
use Rattle.size_precheck.specs.Greedy.{first_scopes, IsGreedyOrder}
use Rattle.size_precheck.specs.Sizes.{IsSizeOfAll}

-- a sum or a product that stops at each step is one that stops at the end
pub record StopsAtTheEnd : Type 0 where
  pub sum : (a b : ℕ) → stopped (stopped a + stopped b) ≡ stopped (a + b)
  pub product : (a b : ℕ) → stopped (stopped a * stopped b) ≡ stopped (a * b)

-- the first tables of a plan have the same scopes for every kind of cell and for all rules
abbrev pub OneListOfScopes : {C : Type 0} → Cells C → Type 0
OneListOfScopes c = (nodes : List NodeView) (p : List RuleView) (plan : PlanView)
    → scopes_of (first_tables c nodes p plan) ≡ first_scopes nodes plan

-- a plan has a greedy order
abbrev pub HasGreedyOrder : Type 0
HasGreedyOrder =
    (nodes : List NodeView) (plan : PlanView) → (steps : List ℕ) × IsGreedyOrder nodes plan steps

-- and only one
abbrev pub OneGreedyOrder : Type 0
OneGreedyOrder = (nodes : List NodeView) (plan : PlanView) (a b : List ℕ)
    → IsGreedyOrder nodes plan a → IsGreedyOrder nodes plan b → a ≡ b

-- it takes each node that the plan eliminates, once
abbrev pub GreedyOrdersAreOrders : Type 0
GreedyOrdersAreOrders = (nodes : List NodeView) (plan : PlanView) (steps : List ℕ)
    → IsGreedyOrder nodes plan steps → IsOrderOfPlan nodes plan steps

-- plans have one size in all
abbrev pub OneSize : Type 0
OneSize = (nodes : List NodeView) (plans : List PlanView) (a b : Size) → IsSizeOfAll nodes plans a
    → IsSizeOfAll nodes plans b → a ≡ b

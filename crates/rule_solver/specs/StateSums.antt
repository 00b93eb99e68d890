-- What plans sum to at a state of a node.
use Rattle.std.specs.Prelude.{◌≡◌, ℕ, List, ℤ}
use Rattle.finite_sums.specs.Sums.{World, InRange}
use Rattle.maid_model.specs.Nodes.{states_of}
use Rattle.maid_model.specs.Views.{NodeView, RuleView}
use Rattle.plan_sums.specs.Plans.{PlanView, gain_cells, plan_sum}

-- the number is what the plan sums to in each world with this state at x
abbrev pub IsSumAt : List NodeView → List RuleView → PlanView → ℕ → ℕ → ℤ → Type 0
IsSumAt nodes p plan x state sum = (q : World) → InRange (states_of nodes) q → q x ≡ state
    → sum ≡ plan_sum gain_cells nodes p plan q

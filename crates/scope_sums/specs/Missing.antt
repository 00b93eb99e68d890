-- The totals that a plan lacks of some nodes, as those of a scope.
use Rattle.std.specs.Prelude.{ℕ, not, ◌==◌, if◌then◌else◌, List, filter}
use Rattle.maid_model.specs.Views.{NodeView, RuleView}
use Rattle.finite_sums.specs.Sums.{nat_product_over}
use Rattle.maid_model.specs.Tables.{weight_total}
use Rattle.plan_sums.specs.Plans.{PlanView, in_plan}

-- those of the nodes that the plan lacks
abbrev pub lacking_in : List NodeView → List ℕ → PlanView → List ℕ
lacking_in nodes kept plan = filter (λ v. not (in_plan nodes plan v)) kept

-- the product of their tables' and rules' totals
abbrev pub missing_in : List NodeView → List RuleView → List ℕ → PlanView → ℕ
missing_in nodes p kept plan = nat_product_over (weight_total nodes p) (lacking_in nodes kept plan)

-- the same without the decision's own
abbrev pub missing_in_without : List NodeView → List RuleView → ℕ → List ℕ → PlanView → ℕ
missing_in_without nodes p d kept plan = nat_product_over
    (λ v. if v == d then 1 else weight_total nodes p v) (lacking_in nodes kept plan)

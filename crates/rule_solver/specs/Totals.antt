-- The totals of tables and rules, listed.
use Rattle.std.specs.Prelude.{◌≡◌, ◌↔◌, ℕ, ◌<◌, ◌≤◌, ◌*◌, Bool, IsTrue, List, length, slice_index, if◌then◌else◌}
use Rattle.std.specs.List.{range_with_len}
use Rattle.cell_rings.specs.Rings.{small_size}
use Rattle.eliminate.specs.Results.{plan_total}
use Rattle.finite_sums.specs.Sums.{nat_product_over}
use Rattle.maid_model.specs.Tables.{weight_total}
use Rattle.maid_model.specs.Views.{NodeView, RuleView}
use Rattle.node_sets.specs.declared.sets.NodeSet.{NodeSet}
use Rattle.node_sets.specs.Sets.{holds}
use Rattle.plan_sums.specs.Plans.{PlanView}

-- the list has the total of each node's table or rule
pub record HasTotals (nodes : List NodeView) (p : List RuleView) (totals : List ℕ) : Type 0 where
  pub count : length totals ≡ length nodes
  pub each : (v : ℕ) → v < length nodes → slice_index totals v ≡ weight_total nodes p v

-- in a profile with these totals, all numbers in a run of the plan fit the size
abbrev pub FitsByTotals : List NodeView → List ℕ → PlanView → ℕ → Type 0
FitsByTotals nodes totals plan size = (p : List RuleView) × HasTotals nodes p totals
    × (2 * plan_total nodes p plan ≤ size)

-- in every profile with these totals, the test tells whether they fit small cells
abbrev pub TellsSmall : List NodeView → List ℕ → PlanView → Bool → Type 0
TellsSmall nodes totals plan small = (p : List RuleView) → HasTotals nodes p totals
    → IsTrue small ↔ (2 * plan_total nodes p plan ≤ small_size)

-- the product of the listed totals of the set's members
abbrev pub product_in : List ℕ → NodeSet → ℕ
product_in totals set = nat_product_over (λ v. if holds set v then slice_index totals v else 1)
    (range_with_len 0 (length totals))

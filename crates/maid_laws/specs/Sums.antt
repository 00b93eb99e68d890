-- The laws of totals and of products.
use Rattle.std.specs.Prelude.{◌≡◌, ◌↔◌, ℕ, List, ◌++◌, Contains, ℤ, pos, ◌*ℤ◌}
use Rattle.maid_model.specs.Views.{NodeView, RuleView}
use Rattle.maid_model.specs.Nodes.{states_of}
use Rattle.maid_model.specs.Graph.{IsGraph, AllDifferent}
use Rattle.finite_sums.specs.Sums.{World, InRange, sum_over, product_over, nat_product_over}
use Rattle.finite_sums.specs.Looks.{IgnoresAll}
use Rattle.maid_model.specs.Tables.{HasChanceTables, table, weight_total}
use Rattle.maid_model.specs.Profiles.{IsProfile}
use Rattle.maid_model.specs.Gains.{sum_worlds, weight, mass}

-- The law of totals: summed over any nodes, the product of their tables and rules is the product of
-- their totals, and a factor that looks at none of them comes out of the sum.
abbrev pub LawOfTotals : Type 0
LawOfTotals = (nodes : List NodeView) (p : List RuleView) (vs : List ℕ) (f : World → ℤ) (w : World)
    → IsGraph nodes → HasChanceTables nodes → IsProfile nodes p → AllDifferent vs
    → IgnoresAll (states_of nodes) f vs → InRange (states_of nodes) w
    → sum_over (states_of nodes) vs (λ x. f x *ℤ product_over (λ v. table nodes p v x) vs) w
    ≡ f w *ℤ pos (nat_product_over (weight_total nodes p) vs)

-- The weights of all worlds add up to the mass of the profile.
abbrev pub WeightsAddUp : Type 0
WeightsAddUp = (nodes : List NodeView) (p : List RuleView) → IsGraph nodes → HasChanceTables nodes
    → IsProfile nodes p → sum_worlds nodes (weight nodes p) ≡ pos (mass nodes p)

-- The law of products: a sum over two lists of nodes of two factors, neither of which looks at the
-- other's list, is a product of two sums.
abbrev pub LawOfProducts : Type 0
LawOfProducts =
    (count : ℕ → ℕ) (us vs : List ℕ) (f g : World → ℤ) (w : World)
    → IgnoresAll count f vs → IgnoresAll count g us → InRange count w
    → sum_over count (us ++ vs) (λ x. f x *ℤ g x) w ≡ sum_over count us f w *ℤ sum_over count vs g w

-- Nodes may be summed in any order.
abbrev pub SumsInAnyOrder : Type 0
SumsInAnyOrder =
    (count : ℕ → ℕ) (xs ys : List ℕ) (f : World → ℤ) (w : World)
    → AllDifferent xs → AllDifferent ys → ((v : ℕ) → Contains xs v ↔ Contains ys v)
    → sum_over count xs f w ≡ sum_over count ys f w

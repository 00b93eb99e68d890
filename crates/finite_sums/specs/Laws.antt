-- Laws of finite sums.
use Rattle.std.specs.Prelude.{◌≡◌, ℕ, List, ◌++◌, ℤ, ◌*ℤ◌}
use Rattle.finite_sums.specs.Sums.{World, InRange, sum_over, product_over}
use Rattle.finite_sums.specs.Looks.{IgnoresAll, IgnoresLater, HaveTotals}
use Rattle.finite_sums.specs.Members.{Shuffled}

-- Lists with the same members, each as often, have the same sum: nodes may be summed in any order.
abbrev pub ShuffledSums : Type 0
ShuffledSums =
    (count : ℕ → ℕ) (f : World → ℤ) (xs ys : List ℕ) (w : World) → Shuffled xs ys
    → sum_over count xs f w ≡ sum_over count ys f w

-- A sum over two lists of two factors, neither of which looks at the other's list, is a product of
-- two sums.
abbrev pub SumsMultiply : Type 0
SumsMultiply = (count : ℕ → ℕ) (us vs : List ℕ) (f g : World → ℤ) → IgnoresAll count f vs
    → IgnoresAll count g us → (w : World) → InRange count w
    → sum_over count (us ++ vs) (λ x. f x *ℤ g x) w ≡ sum_over count us f w *ℤ sum_over count vs g w

-- Tables none of which looks at a later node of the list, summed over the list, leave their totals.
abbrev pub TotalsComeOut : Type 0
TotalsComeOut =
    (count : ℕ → ℕ) (table : ℕ → World → ℤ) (total : ℕ → ℤ) (vs : List ℕ)
    → IgnoresLater count table vs → HaveTotals count table total vs → (w : World) → InRange count w
    → sum_over count vs (λ x. product_over (λ v. table v x) vs) w ≡ product_over total vs

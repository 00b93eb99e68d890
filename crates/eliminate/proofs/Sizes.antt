-- Counts that did not stop are exact.
use Rattle.std.proofs.Common.{◌≡◌, ◌∙◌, ℕ, ◌+◌, ◌*◌, ◌<◌, ◌≤◌, Bool, true, false, cond, filter, List, [], ◌∷◌, refl, sym, ap, arith}
use Rattle.std.specs.List.{sum_by}
use Rattle.std.proofs.lemmas.List.Sums.{sum_by-cons}
use Rattle.finite_sums.specs.Sums.{nat_product_over}
use Rattle.maid_model.specs.declared.limits.TheConstants.{COUNT_END}
use Rattle.maid_model.specs.Bounds.{stopped}
use Rattle.maid_model.specs.Nodes.{states_of, numbers_of, rows_under}
use Rattle.maid_model.specs.Views.{NodeView}
use Rattle.factor_core.specs.Slots.{cells_over}
use Rattle.size_precheck.specs.Counts.{counted_cells}

module _ (count : ℕ → ℕ) (h : ℕ → Bool) where
  -- the product over the nodes of the scope
  product_held : (xs : List ℕ) → nat_product_over (λ u. cond (h u) (count u) 1) xs ≡ rows_under count (filter h xs)
  product_held [] = refl
  product_held (x ∷ xs) = go (h x) (product_held xs)
    where
      one : (a : ℕ) → 1 * a ≡ a
      one a = omega arith

      go : (b : Bool) → nat_product_over (λ u. cond (h u) (count u) 1) xs ≡ rows_under count (filter h xs)
          → cond b (count x) 1 * nat_product_over (λ u. cond (h u) (count u) 1) xs ≡ rows_under count (cond b (x ∷ filter h xs) (filter h xs))
      go true e = ap (λ n. count x * n) e
      go false e = one _ ∙ e

not_stopped : (n : ℕ) → stopped n < COUNT_END → stopped n ≡ n
not_stopped n l = omega (arith, l)

pub cells_exact : (nodes : List NodeView) (h : ℕ → Bool) → counted_cells nodes h < COUNT_END → counted_cells nodes h ≡ cells_over nodes h
cells_exact nodes h l = not_stopped (nat_product_over (λ u. cond (h u) (states_of nodes u) 1) (numbers_of nodes)) l ∙ product_held (states_of nodes) h (numbers_of nodes)

pub counted_below : (nodes : List NodeView) (h : ℕ → Bool) → counted_cells nodes h ≤ cells_over nodes h
counted_below nodes h = omega (arith, product_held (states_of nodes) h (numbers_of nodes))

pub sum_exact : (n : ℕ) → stopped n < COUNT_END → n ≡ stopped n
sum_exact n l = sym (not_stopped n l)

-- each of several counts that add up to less
pub sums_exact : {X : Type 0} (nodes : List NodeView) (scope : X → ℕ → Bool) (xs : List X) → sum_by (λ x. counted_cells nodes (scope x)) xs < COUNT_END
    → sum_by (λ x. counted_cells nodes (scope x)) xs ≡ sum_by (λ x. cells_over nodes (scope x)) xs
sums_exact nodes scope [] l = refl
sums_exact nodes scope (x ∷ xs) l =
    let split = sum_by-cons (λ y. counted_cells nodes (scope y)) x xs in
    let rest = sums_exact nodes scope xs (less (sum_by (λ y. counted_cells nodes (scope y)) xs) (counted_cells nodes (scope x)) (sum_by (λ y. counted_cells nodes (scope y)) (x ∷ xs)) split l) in
    let here = cells_exact nodes (scope x) (first (sum_by (λ y. counted_cells nodes (scope y)) xs) (counted_cells nodes (scope x)) (sum_by (λ y. counted_cells nodes (scope y)) (x ∷ xs)) split l) in
    split ∙ (λ i. here i + rest i) ∙ sym (sum_by-cons (λ y. cells_over nodes (scope y)) x xs)
  where
    less : (a b n : ℕ) → n ≡ b + a → n < COUNT_END → a < COUNT_END
    less a b n e l = omega (arith, e, l)

    first : (a b n : ℕ) → n ≡ b + a → n < COUNT_END → b < COUNT_END
    first a b n e l = omega (arith, e, l)

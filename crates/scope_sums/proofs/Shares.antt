-- By what the shares of agents in a scope are added: sums and products over listed nodes, and that
-- their numbers have room in 128 bits.
use Rattle.std.proofs.Common.{◌≡◌, ◌∙◌, ℕ, zero, suc, ◌+◌, ◌*◌, ◌^◌, ◌<◌, ◌≤◌, max, mul-add, Bool, true, false, cond, filter, List, [], ◌∷◌, refl, ap, subst, inl, inr, arith, FitsSigned, ℤ, pos, nat_abs, to_z, of_z, ◌+ℤ◌, ◌*ℤ◌}
use Rattle.std.specs.Int.{w128}
use Rattle.std.specs.List.{range_with_len}
use Rattle.std.proofs.lemmas.Int.{ints, to_z-of_z, to_z_pos, fits_signed_from_abs}
use Rattle.std.proofs.Math.Nat.{mul-le-mul, mul-le-mul_left, one-le-pow}
use Rattle.cell_rings.specs.RingLaws.{abs_add}
use Rattle.cell_rings.specs.Rings.{most_size}
use Rattle.finite_sums.specs.Members.{Among}
use Rattle.finite_sums.specs.Sums.{nat_product_over, nat_sum_over, sum_each}
use Rattle.maid_model.specs.Diagrams.{greatest_number}
use Rattle.maid_model.specs.Gains.{greatest_abs}
use Rattle.maid_model.specs.Nodes.{node_at}
use Rattle.maid_model.specs.Scopes.{greatest_of}
use Rattle.maid_model.specs.Views.{NodeView}

-- ---- sums
-- one term more
one_more : (f : ℕ → ℤ) (k n : ℕ) → sum_each f (range_with_len k n) +ℤ f (k + n) ≡ sum_each f (range_with_len k (suc n))
one_more f k zero = at_zero (f k) (f (k + 0)) (ap f (zero_more k))
  where
    zero_more : (k : ℕ) → k + 0 ≡ k
    zero_more k = omega arith

    at_zero : (a b : ℤ) → b ≡ a → pos 0 +ℤ b ≡ a +ℤ pos 0
    at_zero a b e = omega (arith, ints, e)
one_more f k (suc n) = regroup (f k) (sum_each f (range_with_len (k + 1) n)) (f (k + suc n)) (f (k + 1 + n)) (ap f (next k n)) ∙ ap (λ x. f k +ℤ x) (one_more f (k + 1) n)
  where
    next : (k n : ℕ) → k + suc n ≡ k + 1 + n
    next k n = omega arith

    regroup : (a b c e : ℤ) → c ≡ e → (a +ℤ b) +ℤ c ≡ a +ℤ (b +ℤ e)
    regroup a b c e h = omega (arith, ints, h)

-- sizes that count where a test holds
pub passing_sizes : (a : ℕ → Bool) (f : ℕ → ℕ) (vs : List ℕ) → nat_sum_over (λ v. cond (a v) (f v) 0) vs ≡ nat_sum_over f (filter a vs)
passing_sizes a f [] = refl
passing_sizes a f (v ∷ vs) = go (a v) (passing_sizes a f vs)
  where
    nought : (x y : ℕ) → x ≡ y → 0 + x ≡ y
    nought x y e = omega (arith, e)

    go : (b : Bool) → nat_sum_over (λ u. cond (a u) (f u) 0) vs ≡ nat_sum_over f (filter a vs) → cond b (f v) 0 + nat_sum_over (λ u. cond (a u) (f u) 0) vs ≡ nat_sum_over f (cond b (v ∷ filter a vs) (filter a vs))
    go true e = ap (λ x. f v + x) e
    go false e = nought _ _ e

-- the first terms are no more than all
pub first_terms : (f : ℕ → ℕ) (k n m : ℕ) → n ≤ m → nat_sum_over f (range_with_len k n) ≤ nat_sum_over f (range_with_len k m)
first_terms f k zero m h = omega arith
first_terms f k (suc n) zero h = absurd (omega (arith, h))
first_terms f k (suc n) (suc m) h = let rest = first_terms f (k + 1) n m (omega (arith, h)) in add _ _ _ rest
  where
    add : (a b c : ℕ) → b ≤ c → a + b ≤ a + c
    add a b c l = omega (arith, l)

-- a sum of terms that are each within P times a number is within P times these numbers' sum
pub sum_within : (f : ℕ → ℤ) (g : ℕ → ℕ) (most : ℕ) (vs : List ℕ) → ((v : ℕ) → Among v vs → nat_abs (f v) ≤ most * g v) → nat_abs (sum_each f vs) ≤ most * nat_sum_over g vs
sum_within f g most [] h = omega arith
sum_within f g most (v ∷ vs) h = step (nat_abs (f v +ℤ sum_each f vs)) _ _ most (g v) (nat_sum_over g vs) (abs_add (f v) (sum_each f vs)) (h v (inl refl)) (sum_within f g most vs (λ u m. h u (inr m)))
  where
    step : (s a b p x y : ℕ) → s ≤ a + b → a ≤ p * x → b ≤ p * y → s ≤ p * (x + y)
    step s a b p x y h k l = omega (arith, h, k, l, mul-add p x y)

-- ---- products
-- what is part of a product is no more
pub part_of_product : (a b m : ℕ) → 0 < b → a * b ≤ m → a ≤ m
part_of_product a b m h k = omega (arith, mul-le-mul_left a h, k)

-- a product over the members that pass a test
pub tested_product : (f : ℕ → ℕ) (q : ℕ → Bool) (vs : List ℕ) → nat_product_over f (filter q vs) ≡ nat_product_over (λ v. cond (q v) (f v) 1) vs
tested_product f q [] = refl
tested_product f q (v ∷ vs) = go (q v) (tested_product f q vs)
  where
    one_times : (n : ℕ) → n ≡ 1 * n
    one_times n = omega arith

    go : (b : Bool) → nat_product_over f (filter q vs) ≡ nat_product_over (λ u. cond (q u) (f u) 1) vs → nat_product_over f (cond b (v ∷ filter q vs) (filter q vs)) ≡ cond b (f v) 1 * nat_product_over (λ u. cond (q u) (f u) 1) vs
    go true h = ap (λ n. f v * n) h
    go false h = h ∙ one_times (nat_product_over (λ u. cond (q u) (f u) 1) vs)

-- a power of ten is positive
pub scale_some : (k : ℕ) → 0 < 10 ^ k
scale_some k = let ten : 0 < 10 = omega arith in one-le-pow k 10 ten

-- ---- numbers in 128 bits
-- a number within the bound
pub fits_number : (z : ℤ) → nat_abs z ≤ greatest_number → FitsSigned w128 z
fits_number z h = fits_signed_from_abs w128 z (omega (arith, h))

-- a natural within it, read as signed
pub fits_natural : (n : ℕ) → n ≤ greatest_number → to_z w128 n ≡ pos n
fits_natural n h = to_z_pos w128 n (omega (arith, h))

-- a number times a natural
pub product_value : (z : ℤ) (n m : ℕ) → FitsSigned w128 z → n ≡ m → m ≤ greatest_number → to_z w128 (of_z w128 z) *ℤ to_z w128 n ≡ z *ℤ pos m
product_value z n m f e h = λ i. to_z-of_z w128 z f i *ℤ (ap (to_z w128) e ∙ fits_natural m h) i

-- a sum and its next term
pub sum_next : (f : ℕ → ℤ) (v : ℕ) (sum term : ℤ) → sum ≡ sum_each f (range_with_len 0 v) → FitsSigned w128 term → term ≡ f v → sum +ℤ to_z w128 (of_z w128 term) ≡ sum_each f (range_with_len 0 (v + 1))
sum_next f v sum term e fits h = (λ i. e i +ℤ (to_z-of_z w128 term fits ∙ h ∙ ap f (from_zero v)) i) ∙ one_more f 0 v ∙ ap (λ n. sum_each f (range_with_len 0 n)) (next v)
  where
    from_zero : (v : ℕ) → v ≡ 0 + v
    from_zero v = omega arith

    next : (v : ℕ) → suc v ≡ v + 1
    next v = omega arith

-- a utility of the list is no greater than all of them together
pub one_of_greatest : (nodes : List NodeView) (us : List ℕ) (u : ℕ) → Among u us → greatest_abs (node_at nodes u).cells ≤ greatest_of nodes us
one_of_greatest nodes [] u m = absurd m
one_of_greatest nodes (v ∷ us) u (inl e) = subst (λ x. greatest_abs (node_at nodes u).cells ≤ greatest_abs (node_at nodes x).cells + greatest_of nodes us) e (first (greatest_abs (node_at nodes u).cells) (greatest_of nodes us))
  where
    first : (a b : ℕ) → a ≤ a + b
    first a b = omega arith
one_of_greatest nodes (v ∷ us) u (inr m) = let rest = one_of_greatest nodes us u m in later _ _ _ rest
  where
    later : (a b c : ℕ) → a ≤ c → a ≤ b + c
    later a b c h = omega (arith, h)

-- twice what is within the bound is within 128 bits
twice : (x : ℕ) → x ≤ greatest_number → 2 * x ≤ most_size
twice x h = omega (arith, h)

-- tables within P, and a utility within S: together within the bound
pub tables_fit : (tables missing product scale utility all : ℕ) → 0 < missing → tables * missing ≤ product → 0 < scale → utility ≤ all → product * max scale all ≤ greatest_number → 2 * (tables * max 1 utility) ≤ most_size
tables_fit tables missing product scale utility all some within one less bound =
    let few : tables ≤ product = part_of_product tables missing product some within in
    let value : max 1 utility ≤ max scale all = greater utility scale all one less in
    twice (tables * max 1 utility) (chain _ _ (mul-le-mul few value) bound)
  where
    greater : (u s a : ℕ) → 0 < s → u ≤ a → max 1 u ≤ max s a
    greater u s a h k = omega (arith, h, k)

    chain : (a b : ℕ) → a ≤ b → b ≤ greatest_number → a ≤ greatest_number
    chain a b h k = omega (arith, h, k)

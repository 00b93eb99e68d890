-- Products over the first numbers.
use Rattle.std.proofs.Common.{◌≡◌, ◌∙◌, ℕ, zero, suc, ◌+◌, ◌-◌, ◌*◌, ◌<◌, ◌≤◌, List, Bool, true, false, cond, length, slice_index, refl, sym, ap, arith}
use Rattle.std.proofs.Math.Nat.{mul-le-mul_left, mul-pos, mul_assoc}
use Rattle.std.specs.List.{range_with_len}
use Rattle.finite_sums.specs.Sums.{nat_product_over}
use Rattle.node_sets.specs.declared.sets.NodeSet.{NodeSet}
use Rattle.node_sets.specs.Sets.{holds}
use Rattle.rule_solver.specs.Totals.{product_in}

-- positive factors have a positive product
positive_product : (f : ℕ → ℕ) (k n : ℕ) → ((v : ℕ) → v < k + n → 0 < f v) → 0 < nat_product_over f (range_with_len k n)
positive_product f k zero h = omega arith
positive_product f k (suc n) h = mul-pos (h k (omega arith)) (positive_product f (k + 1) n (λ v l. h v (omega arith)))

-- the same factors have the same product
pub same_products : (f g : ℕ → ℕ) (k n : ℕ) → ((v : ℕ) → v < k + n → f v ≡ g v) → nat_product_over f (range_with_len k n) ≡ nat_product_over g (range_with_len k n)
same_products f g k zero h = refl
same_products f g k (suc n) h = λ i. h k (omega arith) i * same_products f g (k + 1) n (λ v l. h v (omega arith)) i

-- a member's total, and 1 at another node
abbrev pub factor_in : List ℕ → NodeSet → ℕ → ℕ
factor_in totals set v = cond (holds set v) (slice_index totals v) 1

-- the product from v on
abbrev pub product_from : List ℕ → NodeSet → ℕ → ℕ
product_from totals set v = nat_product_over (factor_in totals set) (range_with_len v (length totals - v))

module _ (totals : List ℕ) (set : NodeSet) where
  -- the product so far and the rest are the whole, after one factor more as before it
  pub one_factor : (m v : ℕ) → v < length totals → m * product_from totals set v ≡ product_in totals set → m * factor_in totals set v * product_from totals set (v + 1) ≡ product_in totals set
  one_factor m v h e =
      group m (factor_in totals set v) (product_from totals set (v + 1))
      ∙ ap (λ n. m * nat_product_over (factor_in totals set) (range_with_len v n)) (sym (one (length totals) v h)) ∙ e
    where
      one : (n v : ℕ) → v < n → n - v ≡ suc (n - (v + 1))
      one n v l = omega arith

      group : (a b c : ℕ) → a * b * c ≡ a * (b * c)
      group a b c = simp mul_assoc

  -- since the rest is positive, the product so far is at most the whole
  pub so_far : ((v : ℕ) → v < length totals → 0 < slice_index totals v) → (m v : ℕ) → v ≤ length totals → m * product_from totals set v ≡ product_in totals set → m ≤ product_in totals set
  so_far some m v h e = chain m (m * product_from totals set v) (product_in totals set) (grow m (product_from totals set v) (positive_product (factor_in totals set) v (length totals - v) (λ u l. positive u (within (length totals) v u h l)))) e
    where
      within : (n v u : ℕ) → v ≤ n → u < v + (n - v) → u < n
      within n v u h l = omega arith

      positive : (u : ℕ) → u < length totals → 0 < factor_in totals set u
      positive u l = go (holds set u) (some u l)
        where
          go : (b : Bool) → 0 < slice_index totals u → 0 < cond b (slice_index totals u) 1
          go true h = h
          go false h = omega arith

      grow : (a r : ℕ) → 0 < r → a * 1 ≤ a * r
      grow a r k = mul-le-mul_left a k

      chain : (a b w : ℕ) → a * 1 ≤ b → b ≡ w → a ≤ w
      chain a b w h e = omega (arith, h, e)

  -- nodes that the set lacks change no product
  pub gap : (n from : ℕ) → from + n ≤ length totals → ((w : ℕ) → from ≤ w → w < from + n → holds set w ≡ true → ⊥) → product_from totals set from ≡ product_from totals set (from + n)
  gap zero from l none = ap (product_from totals set) (nought from)
    where
      nought : (a : ℕ) → a ≡ a + 0
      nought a = omega arith
  gap (suc n) from l none =
      ap (λ k. nat_product_over (factor_in totals set) (range_with_len from k)) (one (length totals) from (omega arith))
      ∙ ap (λ f. f * product_from totals set (from + 1)) (lacking (holds set from) (none from (omega arith) (omega arith)))
      ∙ unit (product_from totals set (from + 1))
      ∙ gap n (from + 1) (omega arith) (λ w a b. none w (omega arith) (omega arith))
      ∙ ap (product_from totals set) (further from n)
    where
      one : (n v : ℕ) → v < n → n - v ≡ suc (n - (v + 1))
      one n v l = omega arith

      lacking : (b : Bool) → (b ≡ true → ⊥) → cond b (slice_index totals from) 1 ≡ 1
      lacking true h = absurd (h refl)
      lacking false h = refl

      unit : (a : ℕ) → 1 * a ≡ a
      unit a = omega arith

      further : (a b : ℕ) → a + 1 + b ≡ a + suc b
      further a b = omega arith

  -- the product so far and the rest are the whole, after the next member as before it
  pub next_member : (m from v : ℕ) → from ≤ v → v < length totals → holds set v ≡ true → ((w : ℕ) → from ≤ w → w < v → holds set w ≡ true → ⊥) → m * product_from totals set from ≡ product_in totals set
      → m * slice_index totals v * product_from totals set (v + 1) ≡ product_in totals set
  next_member m from v a l inside none e =
      ap (λ b. m * cond b (slice_index totals v) 1 * product_from totals set (v + 1)) (sym inside)
      ∙ one_factor m v l (ap (λ n. m * n) (sym (passed (v - from) (reach v from a))) ∙ e)
    where
      reach : (v from : ℕ) → from ≤ v → from + (v - from) ≡ v
      reach v from h = omega (arith, h)

      passed : (n : ℕ) → from + n ≡ v → product_from totals set from ≡ product_from totals set v
      passed n is = gap n from (omega (arith, l, is)) (λ w b c. none w b (omega (arith, c, is))) ∙ ap (product_from totals set) is

  -- where no member is left the product so far is the whole
  pub last_members : (m from : ℕ) → from ≤ length totals → ((w : ℕ) → from ≤ w → w < length totals → holds set w ≡ true → ⊥) → m * product_from totals set from ≡ product_in totals set → m ≡ product_in totals set
  last_members m from a none e = times_one m ∙ ap (λ n. m * n) (sym (rest ∙ nothing)) ∙ e
    where
      reach : (v from : ℕ) → from ≤ v → from + (v - from) ≡ v
      reach v from h = omega (arith, h)

      times_one : (a : ℕ) → a ≡ a * 1
      times_one a = omega arith

      rest : product_from totals set from ≡ product_from totals set (length totals)
      rest = gap (length totals - from) from (omega (arith, a)) (λ w b c. none w b (omega (arith, c, a))) ∙ ap (product_from totals set) (reach (length totals) from a)

      none_left : (n : ℕ) → n - n ≡ 0
      none_left n = omega arith

      nothing : product_from totals set (length totals) ≡ 1
      nothing = ap (λ k. nat_product_over (factor_in totals set) (range_with_len (length totals) k)) (none_left (length totals))

-- Differences of fractions.
use Rattle.std.proofs.Common.{◌≡◌, ◌∙◌, ℕ, ◌*◌, ◌<◌, refl, sym, ap, subst, ℤ, pos, ◌+ℤ◌, ◌-ℤ◌, ◌*ℤ◌, ◌≤ℤ◌, ◌<ℤ◌, arith}
use Rattle.std.proofs.lemmas.Int.{ints}
use Rattle.std.proofs.Math.Nat.{mul-pos, one-dvd}
use Rattle.std.proofs.lemmas.Nat.Gcd.{dvd_refl}
use Rattle.maid_model.specs.declared.answers.Ratio.{Ratio}
use Rattle.maid_model.specs.Answers.{IsFraction}
use Rattle.maid_model.specs.Values.{IsDifference}
use Rattle.maid_model.proofs.Adding.{product_not_negative}
use Rattle.finite_sums.proofs.Ints.{zero_mul, mul_one, add_mul, products}
use Rattle.arc_laws.specs.Worths.{nought_ratio}
use Rattle.maid_laws.proofs.Best.{cancel_le}
use Rattle.maid_laws.proofs.Fractions.{fraction_of, one_fraction, same_fraction, cancel}

-- a natural as a positive number
positive : (n : ℕ) → 0 < n → pos 0 <ℤ pos n
positive n l = omega (arith, ints)

module _ (r a b : Ratio) where
  -- the products across
  abbrev left : ℤ
  left = a.num *ℤ pos b.den

  abbrev right : ℤ
  right = b.num *ℤ pos a.den

  regroup : b.num *ℤ pos (a.den * r.den) ≡ right *ℤ pos r.den
  regroup = move b.num (pos a.den) (pos r.den)
    where
      move : (x y z : ℤ) → x *ℤ (y *ℤ z) ≡ (x *ℤ y) *ℤ z
      move x y z = simp products

  shift : a.num *ℤ pos (r.den * b.den) ≡ left *ℤ pos r.den
  shift = move a.num (pos r.den) (pos b.den)
    where
      move : (x y z : ℤ) → x *ℤ (y *ℤ z) ≡ (x *ℤ z) *ℤ y
      move x y z = simp products

  split : (left -ℤ right) *ℤ pos r.den +ℤ (right *ℤ pos r.den) ≡ left *ℤ pos r.den
  split = sym (add_mul (pos r.den) (left -ℤ right) right) ∙ ap (λ z. z *ℤ pos r.den) (join left right)
    where
      join : (x y : ℤ) → (x -ℤ y) +ℤ y ≡ x
      join x y = omega (arith, ints)

  -- a difference is the fraction of the difference of these products
  pub as_fraction : IsDifference r a b → IsFraction r (a.num *ℤ pos b.den -ℤ b.num *ℤ pos a.den) (a.den * b.den)
  as_fraction h = record { reduced = h.reduced; same = last (r.num *ℤ pos (a.den * b.den)) ((left -ℤ right) *ℤ pos r.den) (b.num *ℤ pos (a.den * r.den)) (a.num *ℤ pos (r.den * b.den)) (right *ℤ pos r.den) (left *ℤ pos r.den) h.same regroup shift split }
    where
      last : (x y u v c d : ℤ) → x +ℤ u ≡ v → u ≡ c → v ≡ d → y +ℤ c ≡ d → x ≡ y
      last x y u v c d h i j k = omega (arith, ints)

  pub from_fraction : IsFraction r (a.num *ℤ pos b.den -ℤ b.num *ℤ pos a.den) (a.den * b.den) → IsDifference r a b
  from_fraction h = record { reduced = h.reduced; same = last (r.num *ℤ pos (a.den * b.den)) ((left -ℤ right) *ℤ pos r.den) (b.num *ℤ pos (a.den * r.den)) (a.num *ℤ pos (r.den * b.den)) (right *ℤ pos r.den) (left *ℤ pos r.den) h.same regroup shift split }
    where
      last : (x y u v c d : ℤ) → x ≡ y → u ≡ c → v ≡ d → y +ℤ c ≡ d → x +ℤ u ≡ v
      last x y u v c d h i j k = omega (arith, ints)

  -- it is not below nought where b is not above a
  pub not_below : 0 < a.den → 0 < b.den → IsDifference r a b → (b.num *ℤ pos a.den) ≤ℤ (a.num *ℤ pos b.den) → pos 0 ≤ℤ r.num
  not_below ha hb h l =
      cancel_le (pos 0) r.num (pos (a.den * b.den)) (positive (a.den * b.den) (mul-pos ha hb))
      (subst (λ z. z ≤ℤ (r.num *ℤ pos (a.den * b.den))) (sym (zero_mul (pos (a.den * b.den))))
      (subst (λ z. pos 0 ≤ℤ z) (sym (as_fraction h).same) (product_not_negative (left -ℤ right) (pos r.den) (less left right l) (natural r.den))))
    where
      less : (x y : ℤ) → y ≤ℤ x → pos 0 ≤ℤ (x -ℤ y)
      less x y k = omega (arith, ints)

      natural : (n : ℕ) → pos 0 ≤ℤ pos n
      natural n = omega (arith, ints)

-- there is one
pub difference_of : (a b : Ratio) → 0 < a.den → 0 < b.den → (r : Ratio) × IsDifference r a b
difference_of a b ha hb =
    let r = fraction_of (a.num *ℤ pos b.den -ℤ b.num *ℤ pos a.den) (a.den * b.den) (mul-pos ha hb) in
    (r.0, from_fraction r.0 a b r.1)

-- and only one
pub one_difference : (r s a b : Ratio) → 0 < a.den → 0 < b.den → IsDifference r a b → IsDifference s a b → r ≡ s
one_difference r s a b ha hb h k =
    same_fraction r s (a.num *ℤ pos b.den -ℤ b.num *ℤ pos a.den) (a.num *ℤ pos b.den -ℤ b.num *ℤ pos a.den) (a.den * b.den) (a.den * b.den) (mul-pos ha hb) (mul-pos ha hb) (as_fraction r a b h) (as_fraction s a b k) refl

-- it is nought where they are one
pub no_difference : (r a b : Ratio) → 0 < a.den → 0 < b.den → IsDifference r a b → a ≡ b → r ≡ nought_ratio
no_difference r a b ha hb h e =
    one_fraction r nought_ratio h.reduced (record { positive = omega arith; coprime = (one-dvd 0, dvd_refl 1, λ d p q. q) })
    (mul_one r.num ∙ num_zero ∙ sym (zero_mul (pos r.den)))
  where
    none : (x y : ℤ) → x ≡ y → x -ℤ y ≡ pos 0
    none x y f = omega (arith, ints)

    equal : a.num *ℤ pos b.den ≡ b.num *ℤ pos a.den
    equal = λ i. (e i).num *ℤ pos (sym e i).den

    num_zero : r.num ≡ pos 0
    num_zero = cancel r.num (pos 0) (pos (a.den * b.den)) (positive (a.den * b.den) (mul-pos ha hb))
        ((as_fraction r a b h).same ∙ ap (λ z. z *ℤ pos r.den) (none (a.num *ℤ pos b.den) (b.num *ℤ pos a.den) equal) ∙ zero_mul (pos r.den) ∙ sym (zero_mul (pos (a.den * b.den))))

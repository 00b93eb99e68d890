-- Which decimal a numeral is, by its number, its decimals and its exponent.
use Rattle.std.proofs.Common.{◌≡◌, ◌≤◌, ◌<◌, ◌+◌, ◌-◌, ◌*◌, ◌^◌, ℕ, pos, unsigned_abs, Bool, true, false, cond, arith, refl, sym, ap, ◌∙◌, Option, IfSome, IfNone}
use Rattle.std.proofs.Math.Nat.{pow-le-pow_right, add-zero, zero-mul, eq_of_mul-eq-mul_right, mul-le-mul_left, mul-le-mul_right, mul-pos}
use Rattle.std.proofs.lemmas.Nat.{pow-add}
use Rattle.weight_scale.specs.declared.decimal.Decimal.{Decimal}
use Rattle.weight_scale.specs.Numeral.{signed, IsDecimalOf, IsLeastDecimalOf}
use Rattle.weight_scale.specs.Significant.{IsSignificand, HasTooManyDigits}
use Rattle.weight_scale.proofs.Signs.{fraction_from_sizes, sizes_from_fraction, same_fraction}
use Rattle.weight_scale.proofs.Tens.{tens_positive, by_tens, some_of_same, none_of_same}

placed : (down : Bool) (number decimals exponent size above below : ℕ) → IsSignificand number decimals size above below →
    (size * 10 ^ (above + cond down 0 exponent)) * (10 ^ decimals * cond down (10 ^ exponent) 1) ≡ (number * cond down 1 (10 ^ exponent)) * 10 ^ (below + cond down exponent 0)
placed true number decimals exponent size above below is =
    let value : number * 10 ^ below ≡ size * (10 ^ decimals * 10 ^ above) = is.value ∙ ap (λ x. size * x) (pow-add 10 decimals above) in
    let lower : 10 ^ (below + exponent) ≡ 10 ^ below * 10 ^ exponent = pow-add 10 below exponent in
    rw (lower, add-zero) (omega (arith, ap (λ x. x * 10 ^ exponent) value))
placed false number decimals exponent size above below is =
    let value : number * 10 ^ below ≡ size * (10 ^ decimals * 10 ^ above) = is.value ∙ ap (λ x. size * x) (pow-add 10 decimals above) in
    let higher : 10 ^ (above + exponent) ≡ 10 ^ above * 10 ^ exponent = pow-add 10 above exponent in
    rw (higher, add-zero) (omega (arith, ap (λ x. x * 10 ^ exponent) value))

-- nought, below nought or not
signed_nought : (minus : Bool) → signed minus 0 ≡ pos 0
signed_nought true = refl
signed_nought false = refl

out_of_reach : (down : Bool) (exponent size above below k m : ℕ) → 0 < size → above < 2 ^ 64 → below < 2 ^ 64 → (exponent < 2 ^ 126 → ⊥) → m < 2 ^ 126 → k ≤ 30 →
    (below + cond down exponent 0 ≤ above + cond down 0 exponent + k) → m ≡ size * 10 ^ (above + cond down 0 exponent + k - (below + cond down exponent 0)) → ⊥
out_of_reach true exponent size above below k m some near_above near_below far small few le m_is = omega arith
out_of_reach false exponent size above below k m some near_above near_below far small few le m_is =
    let tens = above + exponent + k - (below + 0) in
    omega (arith, pow-le-pow_right {n = 10} (omega arith) {i = 39} {j = tens} (omega arith), mul-le-mul_right {m = 1} {n = size} (10 ^ tens) some)

module _ (minus : Bool) (number decimals : ℕ) (down : Bool) (exponent : ℕ) where
  abbrev above_by : ℕ → ℕ
  above_by above = above + cond down 0 exponent

  abbrev below_by : ℕ → ℕ
  below_by below = below + cond down exponent 0

  abbrev num : ℕ
  num = number * cond down 1 (10 ^ exponent)

  abbrev den : ℕ
  den = 10 ^ decimals * cond down (10 ^ exponent) 1

  pub den_positive : 0 < den
  den_positive = elim down as (λ b. 0 < 10 ^ decimals * cond b (10 ^ exponent) 1) [ true ↦ mul-pos (tens_positive decimals) (tens_positive exponent) | false ↦ omega (arith, tens_positive decimals) ]

  -- the numeral is its significant digits with the tens of their place and of the exponent
  same_value : (size above below : ℕ) → IsSignificand number decimals size above below → (size * 10 ^ above_by above) * den ≡ num * 10 ^ below_by below
  same_value size above below is = placed down number decimals exponent size above below is

  size_of : (size above below : ℕ) → IsSignificand number decimals size above below → 0 < size → (d : Decimal) → IsDecimalOf (signed minus num) den d →
      (below_by below ≤ above_by above + d.k) × (unsigned_abs d.m ≡ size * 10 ^ (above_by above + d.k - below_by below))
  size_of size above below is some d value =
      let moved = same_fraction minus d.m (10 ^ d.k) num den (size * 10 ^ above_by above) (10 ^ below_by below) den_positive (sym (same_value size above below is)) value in
      let sizes = sizes_from_fraction minus d.m (10 ^ d.k) (size * 10 ^ above_by above) (10 ^ below_by below) (tens_positive (below_by below)) moved in
      by_tens (unsigned_abs d.m) size (above_by above) (below_by below) d.k (is.last some) sizes.1

  -- too many digits
  pub too_long : HasTooManyDigits number decimals → (d : Decimal) → IsDecimalOf (signed minus num) den d → ⊥
  too_long (size, above, below, is, wide) d value =
      let m_is = (size_of size above below is (omega arith) d value).1 in
      omega (arith, d.small, m_is, mul-le-mul_left {m = 1} size (tens_positive (above_by above + d.k - below_by below)))

  -- no digit but noughts
  pub is_nought : (size above below : ℕ) → IsSignificand number decimals size above below → size ≡ 0 → (d : Decimal) → d.m ≡ pos 0 → d.k ≡ 0 → IsLeastDecimalOf (signed minus num) den d
  is_nought size above below is none d m k =
      let across : number * 10 ^ below ≡ 0 * 10 ^ below = omega (arith, rw none at is.value) in
      let nought : number ≡ 0 = eq_of_mul-eq-mul_right (10 ^ below) (tens_positive below) number 0 across in
      let empty : 0 * den ≡ num * 10 ^ d.k = simp (nought, zero-mul) in
      record {
        value = rw (m ∙ sym (signed_nought minus)) (fraction_from_sizes minus 0 (10 ^ d.k) num den empty);
        least = λ other _. omega (arith, k);
      }

  -- an exponent so far out that no decimal can be the value
  pub too_far : (size above below : ℕ) → IsSignificand number decimals size above below → 0 < size → above < 2 ^ 64 → below < 2 ^ 64 → (exponent < 2 ^ 126 → ⊥) → (d : Decimal) → IsDecimalOf (signed minus num) den d → ⊥
  too_far size above below is some near_above near_below far d value =
      let at = size_of size above below is some d value in
      out_of_reach down exponent size above below d.k (unsigned_abs d.m) some near_above near_below far (let small = d.small in omega (arith, small)) d.few at.0 at.1

  -- what the significant digits with their tens are, the numeral is
  pub some_of_significand : (size above below : ℕ) → IsSignificand number decimals size above below → (r : Option Decimal) →
      IfSome r (λ d. IsLeastDecimalOf (signed minus (size * 10 ^ above_by above)) (10 ^ below_by below) d) → IfSome r (λ d. IsLeastDecimalOf (signed minus num) den d)
  some_of_significand size above below is = some_of_same minus (size * 10 ^ above_by above) (10 ^ below_by below) num den (tens_positive (below_by below)) den_positive (same_value size above below is)

  pub none_of_significand : (size above below : ℕ) → IsSignificand number decimals size above below → (r : Option Decimal) →
      IfNone r ((d : Decimal) → IsDecimalOf (signed minus (size * 10 ^ above_by above)) (10 ^ below_by below) d → ⊥) → IfNone r ((d : Decimal) → IsDecimalOf (signed minus num) den d → ⊥)
  none_of_significand size above below is = none_of_same minus (size * 10 ^ above_by above) (10 ^ below_by below) num den (tens_positive (below_by below)) den_positive (same_value size above below is)

-- A fraction divided by the greatest common divisor of its parts.
use Rattle.std.proofs.Common.{⊎_elim, of_z, FitsSigned, ◌^◌, ◌-◌, ◌≡◌, ◌<◌, ◌*◌, ◌/◌, ℕ, zero, suc, refl, sym, ap, ◌∙◌, arith, ℤ, pos, negsuc, neg_ℤ, ◌*ℤ◌, unsigned_abs, int_div}
use Rattle.std.proofs.Math.Nat.{zero-mul, pos_of_ne-zero, le_of_dvd}
use Rattle.std.specs.Int.{w128, cast_signed, cast_unsigned, ◌∣◌}
use Rattle.std.proofs.lemmas.Bool.{cases_eq}
use Rattle.std.proofs.lemmas.Int.{ints, quot_is, quot_fits, fits_signed_from_abs}
use Rattle.whole_num.specs.Divisors.{IsGcd}
use Rattle.whole_num.specs.Fractions.{IsSameFraction, IsInLowestTerms}
use Rattle.whole_num.proofs.Multiples.{gcd_positive, cross, coprime, quotient_positive}

-- a product with a number below nought
pub neg_mul : (q d : ℕ) → neg_ℤ (pos q) *ℤ pos d ≡ neg_ℤ (pos (q * d))
neg_mul zero d = rw zero-mul refl
neg_mul (suc q) d = refl

-- the size of a number below nought
pub abs_neg : (q : ℕ) → unsigned_abs (neg_ℤ (pos q)) ≡ q
abs_neg zero = refl
abs_neg (suc q) = refl

pub abs_of_quotient : (num : ℤ) (g : ℕ) → unsigned_abs (int_div num (pos g)) ≡ unsigned_abs num / g
abs_of_quotient (pos n) g = refl
abs_of_quotient (negsuc n) g = abs_neg (suc n / g)

pub same_value : (num : ℤ) (den g : ℕ) → IsGcd (unsigned_abs num) den g → IsSameFraction num den (int_div num (pos g)) (den / g)
same_value (pos n) den g is = ap pos (sym (cross n den g is.0 is.1))
same_value (negsuc n) den g is = ap (λ z. neg_ℤ (pos z)) (sym (cross (suc n) den g is.0 is.1)) ∙ sym (neg_mul (suc n / g) den)

pub reduced : (num : ℤ) (den g : ℕ) → 0 < den → IsGcd (unsigned_abs num) den g → IsInLowestTerms (int_div num (pos g)) (den / g)
reduced num den g h is = (quotient_positive den g h is.1, rw (abs_of_quotient num g) (coprime (unsigned_abs num) den g (gcd_positive (unsigned_abs num) den g is (omega arith)) is))

size_positive : (num : ℤ) → (of_z w128 num ≡ 0 → ⊥) → 0 < unsigned_abs num
size_positive (pos n) h = pos_of_ne-zero h
size_positive (negsuc n) h = omega arith

size_small : (num : ℤ) → FitsSigned w128 num → (num ≡ negsuc (2 ^ 127 - 1) → ⊥) → unsigned_abs num < 2 ^ 127
size_small (pos n) f h = omega (arith, f.sfits)
size_small (negsuc n) f h = ⊎_elim (λ e. absurd (h (ap negsuc e))) (λ (ne : n ≡ 2 ^ 127 - 1 → ⊥). omega (arith, f.sfits)) (cases_eq n (2 ^ 127 - 1))

pub divisor_small : (num : ℤ) (g : ℕ) → FitsSigned w128 num → (num ≡ negsuc (2 ^ 127 - 1) → ⊥) → (of_z w128 num ≡ 0 → ⊥) → g ∣ unsigned_abs num → g < 2 ^ 127
divisor_small num g f least nought d = omega (arith, size_small num f least, le_of_dvd (size_positive num nought) d)

-- what the code's `num / divisor` gives
pub divided : (num : ℤ) (g : ℕ) → FitsSigned w128 num → g < 2 ^ 127 → 0 < g → cast_signed w128 (cast_unsigned w128 (int_div (cast_signed w128 (cast_unsigned w128 num)) (cast_signed w128 g))) ≡ int_div num (pos g)
divided num g f small positive = quot_is w128 num (pos g) f (fits_signed_from_abs w128 (pos g) small) (quot_fits w128 num (pos g) f (omega (arith, ints)))

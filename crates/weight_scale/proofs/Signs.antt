-- A fraction by its sign and its sizes.
use Rattle.std.proofs.Common.{◌≡◌, ◌<◌, ◌*◌, ℕ, zero, suc, ℤ, pos, negsuc, neg_ℤ, ◌*ℤ◌, unsigned_abs, Bool, true, false, refl, sym, ap, ◌∙◌, arith}
use Rattle.std.proofs.Math.Nat.{zero-mul, mul-pos, eq_of_mul-eq-mul_right}
use Rattle.std.proofs.lemmas.Int.{ints}
use Rattle.whole_num.specs.Fractions.{IsSameFraction}
use Rattle.weight_scale.specs.Numeral.{signed}

neg_mul : (q d : ℕ) → neg_ℤ (pos q) *ℤ pos d ≡ neg_ℤ (pos (q * d))
neg_mul zero d = rw zero-mul refl
neg_mul (suc q) d = refl

signed_mul : (minus : Bool) (q d : ℕ) → signed minus q *ℤ pos d ≡ signed minus (q * d)
signed_mul true q d = neg_mul q d
signed_mul false q d = refl

pub fraction_from_sizes : (minus : Bool) (size k num den : ℕ) → size * den ≡ num * k → IsSameFraction (signed minus size) k (signed minus num) den
fraction_from_sizes minus size k num den e = signed_mul minus size den ∙ ap (signed minus) e ∙ sym (signed_mul minus num k)

pub sizes_from_fraction : (minus : Bool) (m : ℤ) (k num den : ℕ) → 0 < den → IsSameFraction m k (signed minus num) den → (m ≡ signed minus (unsigned_abs m)) × (unsigned_abs m * den ≡ num * k)
sizes_from_fraction false (pos n) k num den h e = (refl, omega (arith, ints, e))
sizes_from_fraction false (negsuc n) k num den h e = absurd (omega (arith, ints, e, mul-pos {m = suc n} {n = den} (omega arith) h))
sizes_from_fraction true (pos zero) k num den h e = (refl, omega (arith, ints, e, neg_mul num k))
sizes_from_fraction true (pos (suc n)) k num den h e = absurd (omega (arith, ints, e, neg_mul num k, mul-pos {m = suc n} {n = den} (omega arith) h))
sizes_from_fraction true (negsuc n) k num den h e = (refl, omega (arith, ints, e, neg_mul num k))

-- a decimal that is a fraction is each equal fraction, too
pub same_fraction : (minus : Bool) (m : ℤ) (k num den num' den' : ℕ) → 0 < den → num * den' ≡ num' * den → IsSameFraction m k (signed minus num) den → IsSameFraction m k (signed minus num') den'
same_fraction minus m k num den num' den' h same e =
    let s = sizes_from_fraction minus m k num den h e in
    let size = unsigned_abs m in
    let across : (size * den') * den ≡ (num' * k) * den = omega (arith, ap (λ x. x * den') s.1, ap (λ x. x * k) same) in
    rw s.0 (fraction_from_sizes minus size k num' den' (eq_of_mul-eq-mul_right den h _ _ across))

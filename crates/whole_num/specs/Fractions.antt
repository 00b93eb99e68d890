-- Fractions of a whole number over a positive one.
use Rattle.std.specs.Prelude.{◌≡◌, ◌<◌, ◌*◌, ◌*ℤ◌, ℕ, ℤ, pos, unsigned_abs}
use Rattle.std.specs.Ordering.{nat_cmp}
use Rattle.std.specs.declared.cmp.Ordering.{Ordering}
use Rattle.whole_num.specs.Divisors.{IsGcd}

-- two fractions have one value: the products across are equal
abbrev pub IsSameFraction : ℤ → ℕ → ℤ → ℕ → Type 0
IsSameFraction num den num' den' = num *ℤ pos den' ≡ num' *ℤ pos den

-- the denominator is positive and shares no divisor but 1 with the numerator
abbrev pub IsInLowestTerms : ℤ → ℕ → Type 0
IsInLowestTerms num den = (0 < den) × IsGcd (unsigned_abs num) den 1

-- the order of a/b and c/d is that of their products across
abbrev pub fraction_order : ℕ → ℕ → ℕ → ℕ → Ordering
fraction_order a b c d = nat_cmp (a * d) (c * b)

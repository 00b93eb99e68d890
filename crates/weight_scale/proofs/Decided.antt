-- A numeral's decimal, or that it has none: the fewest tens that make the value whole are looked
-- for among 0 to 30, and only the number that they make can be the decimal.
use Rattle.std.proofs.Common.{◌≡◌, ◌<◌, ◌≤◌, ◌+◌, ◌-◌, ◌*◌, ◌/◌, ◌^◌, ◌⊎◌, ⊎_elim, inl, inr, ℕ, zero, suc, unsigned_abs, Bool, true, false, List, length, refl, sym, ap, ◌∙◌, subst, arith}
use Rattle.std.specs.Int.{◌∣◌}
use Rattle.std.proofs.Math.Decide.{dec_dvd}
use Rattle.std.proofs.Math.Nat.{div-mul_cancel, dvd-mul_left, eq_of_mul-eq-mul_right, mul-le-mul_left}
use Rattle.std.proofs.lemmas.Bool.{cases_lt}
use Rattle.std.proofs.lemmas.Nat.{pow-add}
use Rattle.maid_model.specs.Diagrams.{greatest_number}
use Rattle.weight_scale.specs.declared.decimal.Decimal.{Decimal}
use Rattle.weight_scale.specs.Numeral.{signed, numerator, denominator, is_minus, decimal_digits, exponent_of, exponent_size, IsDecimalOf, IsLeastDecimalOf}
use Rattle.weight_scale.proofs.Signs.{fraction_from_sizes, sizes_from_fraction}
use Rattle.weight_scale.proofs.Tens.{tens_positive}
use Rattle.weight_scale.proofs.Value.{den_positive}

-- the first number below n of which that holds, or that it holds of none
first_or_none : (P : ℕ → Type 0) → ((k : ℕ) → Dec (P k)) → (n : ℕ) → ((k : ℕ) × (k < n) × P k × ((j : ℕ) → j < k → P j → ⊥)) ⊎ ((k : ℕ) → k < n → P k → ⊥)
first_or_none P decide zero = inr (λ k l. absurd (omega arith))
first_or_none P decide (suc n) = go (first_or_none P decide n) (decide n)
  where
    go : ((k : ℕ) × (k < n) × P k × ((j : ℕ) → j < k → P j → ⊥)) ⊎ ((k : ℕ) → k < n → P k → ⊥) → Dec (P n) → ((k : ℕ) × (k < suc n) × P k × ((j : ℕ) → j < k → P j → ⊥)) ⊎ ((k : ℕ) → k < suc n → P k → ⊥)
    go (inl (k, l, p, first)) d = inl (k, omega (arith, l), p, first)
    go (inr none) (yes p) = inl (n, omega arith, p, none)
    go (inr none) (no q) = inr (λ k l p. elim (cases_lt k n) as (λ _. ⊥) [ inl a ↦ none k a p | inr b ↦ let e : k ≡ n = omega arith in q (subst P e p) ])

size_signed : (minus : Bool) (q : ℕ) → unsigned_abs (signed minus q) ≡ q
size_signed true zero = refl
size_signed true (suc q) = refl
size_signed false q = refl

module _ (minus : Bool) (size den : ℕ) (positive : 0 < den) where
  -- so many tens make the value whole
  abbrev IsWhole : ℕ → Type 0
  IsWhole k = den ∣ size * 10 ^ k

  sizes : (d : Decimal) → IsDecimalOf (signed minus size) den d → unsigned_abs d.m * den ≡ size * 10 ^ d.k
  sizes d is = (sizes_from_fraction minus d.m (10 ^ d.k) size den positive is).1

  -- a decimal's tens do
  is_whole : (d : Decimal) → IsDecimalOf (signed minus size) den d → IsWhole d.k
  is_whole d is = subst (λ n. den ∣ n) (sizes d is) (dvd-mul_left den (unsigned_abs d.m))

  module _ (k : ℕ) (few : k < 31) (whole : IsWhole k) (first : (j : ℕ) → j < k → IsWhole j → ⊥) where
    abbrev share : ℕ
    share = size * 10 ^ k / den

    share_is : share * den ≡ size * 10 ^ k
    share_is = div-mul_cancel den whole

    no_fewer : (d : Decimal) → IsDecimalOf (signed minus size) den d → k ≤ d.k
    no_fewer d is = ⊎_elim (λ less. absurd (first d.k less (is_whole d is))) (λ le. le) (cases_lt d.k k)

    made : share ≤ greatest_number → (d : Decimal) × IsLeastDecimalOf (signed minus size) den d
    made small = (
      record { m = signed minus share; k = k; small = subst (λ n. n ≤ greatest_number) (sym (size_signed minus share)) small; few = omega (arith, few) },
      record { value = fraction_from_sizes minus share (10 ^ k) size den share_is; least = λ other is. no_fewer other is },
    )

    -- each other decimal's number is that one times tens
    no_less : (d : Decimal) → IsDecimalOf (signed minus size) den d → share ≤ unsigned_abs d.m
    no_less d is =
        let more = d.k - k in
        let split : 10 ^ d.k ≡ 10 ^ k * 10 ^ more = ap (λ n. 10 ^ n) (rest (no_fewer d is)) ∙ pow-add 10 k more in
        let across : unsigned_abs d.m * den ≡ (share * 10 ^ more) * den = omega (arith, sizes d is, ap (λ n. size * n) split, ap (λ n. n * 10 ^ more) share_is) in
        let same = eq_of_mul-eq-mul_right den positive (unsigned_abs d.m) (share * 10 ^ more) across in
        omega (arith, same, mul-le-mul_left {m = 1} {n = 10 ^ more} share (tens_positive more))
      where
        rest : {j l : ℕ} → j ≤ l → l ≡ j + (l - j)
        rest le = omega (arith, le)

    none : greatest_number < share → (d : Decimal) → IsDecimalOf (signed minus size) den d → ⊥
    none wide d is = omega (arith, wide, no_less d is, d.small)

  decided : ((d : Decimal) × IsLeastDecimalOf (signed minus size) den d) ⊎ ((d : Decimal) → IsDecimalOf (signed minus size) den d → ⊥)
  decided = go (first_or_none IsWhole (λ k. dec_dvd den (size * 10 ^ k)) 31)
    where
      go : ((k : ℕ) × (k < 31) × IsWhole k × ((j : ℕ) → j < k → IsWhole j → ⊥)) ⊎ ((k : ℕ) → k < 31 → IsWhole k → ⊥) → ((d : Decimal) × IsLeastDecimalOf (signed minus size) den d) ⊎ ((d : Decimal) → IsDecimalOf (signed minus size) den d → ⊥)
      go (inl (k, few, whole, first)) = ⊎_elim (λ wide. inr (none k few whole first wide)) (λ small. inl (made k few whole first small)) (cases_lt greatest_number (size * 10 ^ k / den))
      go (inr never) = inr (λ d is. never d.k (let l = d.few in omega (arith, l)) (is_whole d is))

pub decimal_or_none : (numeral : List ℕ) → ((d : Decimal) × IsLeastDecimalOf (numerator numeral) (denominator numeral) d) ⊎ ((d : Decimal) → IsDecimalOf (numerator numeral) (denominator numeral) d → ⊥)
decimal_or_none numeral = decided (is_minus numeral) _ (denominator numeral) (den_positive (is_minus numeral) 0 (length (decimal_digits numeral)) (is_minus (exponent_of numeral)) (exponent_size (exponent_of numeral)))

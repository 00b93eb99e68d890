-- A row's numbers over their divisor: they are the reduced row, and a row has one.
use Rattle.std.proofs.Common.{◌≡◌, ◌<◌, ◌≤◌, ◌+◌, ◌-◌, ◌*◌, ◌/◌, ◌^◌, ◌⊎◌, ⊎_elim, ℕ, sym, ap, ◌∙◌, arith, subst, List, [], ◌∷◌, ◌++◌, map, length, get_or, take, sum, unsigned_abs, append_assoc}
use Rattle.std.proofs.Math.Nat.{mul-div-mul_right}
use Rattle.std.proofs.lemmas.Nat.{pow-add}
use Rattle.std.proofs.lemmas.List.{map_more}
use Rattle.weight_scale.specs.declared.decimal.Decimal.{Decimal}
use Rattle.weight_scale.specs.Scaling.{whole_number, IsGreatestDivisor, IsReducedRow}
use Rattle.weight_scale.specs.Rows.{IsFinest, shares, AppendsShares}
use Rattle.weight_scale.proofs.Tens.{tens_positive}
use Rattle.weight_scale.proofs.Lists.{map_same, map_twice, sum_so_far}
use Rattle.weight_scale.proofs.Divisors.{greatest_scaled, greatest_same}

-- one more share
pub shares_step : (row : List Decimal) (i : ℕ) (d : Decimal) (tens divisor total share longer : ℕ) (old mid new : List ℕ) → i < length row → d ≡ get_or row i d
    → AppendsShares old mid (shares tens divisor (take i row)) total → share ≡ whole_number tens d / divisor → new ≡ mid ++ (share ∷ []) → longer ≡ total + share
    → AppendsShares old new (shares tens divisor (take (i + 1) row)) longer
shares_step row i d tens divisor total share longer old mid new l is so_far share_is pushed longer_is = record {
  appended = pushed ∙ ap (λ xs. xs ++ (share ∷ [])) so_far.appended ∙ append_assoc old (shares tens divisor (take i row)) (share ∷ []) ∙ ap (λ xs. old ++ xs) (sym more);
  total_is = longer_is ∙ ap (λ n. n + share) so_far.total_is ∙ ap (λ n. sum (shares tens divisor (take i row)) + n) share_is ∙ sym (sum_so_far f row i d l is);
}
  where
    f : Decimal → ℕ
    f x = whole_number tens x / divisor

    more : shares tens divisor (take (i + 1) row) ≡ shares tens divisor (take i row) ++ (share ∷ [])
    more = map_more (λ x. whole_number tens x / divisor) row i d l ∙ ap (λ x. shares tens divisor (take i row) ++ ((whole_number tens x / divisor) ∷ [])) (sym is) ∙ ap (λ n. shares tens divisor (take i row) ++ (n ∷ [])) (sym share_is)

-- raised by more tens
raised_more : (d : Decimal) (decimals : ℕ) → decimals ≤ 30 → (unsigned_abs d.m ≡ 0) ⊎ (d.k ≤ decimals) → whole_number 30 d ≡ whole_number decimals d * 10 ^ (30 - decimals)
raised_more d decimals few most = ⊎_elim nought finer most
  where
    nought : unsigned_abs d.m ≡ 0 → whole_number 30 d ≡ whole_number decimals d * 10 ^ (30 - decimals)
    nought e = ap (λ n. n * 10 ^ (30 - d.k)) e ∙ none (10 ^ (30 - d.k)) (10 ^ (decimals - d.k)) (10 ^ (30 - decimals)) ∙ ap (λ n. (n * 10 ^ (decimals - d.k)) * 10 ^ (30 - decimals)) (sym e)
      where
        none : (a b c : ℕ) → 0 * a ≡ (0 * b) * c
        none a b c = omega arith

    finer : d.k ≤ decimals → whole_number 30 d ≡ whole_number decimals d * 10 ^ (30 - decimals)
    finer le = ap (λ n. unsigned_abs d.m * 10 ^ n) (split d.k decimals le few) ∙ ap (λ n. unsigned_abs d.m * n) (pow-add 10 (decimals - d.k) (30 - decimals)) ∙ regroup (unsigned_abs d.m) (10 ^ (decimals - d.k)) (10 ^ (30 - decimals))
      where
        split : (k n : ℕ) → k ≤ n → n ≤ 30 → 30 - k ≡ (n - k) + (30 - n)
        split k n le few = omega arith

        regroup : (a b c : ℕ) → a * (b * c) ≡ (a * b) * c
        regroup a b c = omega arith

-- the shares are the reduced row
pub shares_reduced : (row : List Decimal) (size decimals g : ℕ) → IsFinest row size decimals → IsGreatestDivisor (map (whole_number decimals) row) g → IsReducedRow (map (whole_number 30) row) (shares decimals g row)
shares_reduced row size decimals g finest is = record {
  divisor = g * tens;
  greatest = subst (λ xs. IsGreatestDivisor xs (g * tens)) (sym more) (greatest_scaled (map (whole_number decimals) row) tens g positive is);
  divided = map_same (λ d. whole_number decimals d / g) (λ d. whole_number decimals d * tens / (g * tens)) row (λ k d l. sym (mul-div-mul_right (whole_number decimals (get_or row k d)) g positive))
      ∙ sym (map_twice (whole_number decimals) (λ x. x * tens / (g * tens)) row) ∙ sym (map_twice (λ x. x * tens) (λ x. x / (g * tens)) (map (whole_number decimals) row)) ∙ ap (map (λ x. x / (g * tens))) (sym more);
}
  where
    tens : ℕ
    tens = 10 ^ (30 - decimals)

    positive : 0 < 10 ^ (30 - decimals)
    positive = tens_positive (30 - decimals)

    more : map (whole_number 30) row ≡ map (λ x. x * 10 ^ (30 - decimals)) (map (whole_number decimals) row)
    more = map_same (whole_number 30) (λ d. whole_number decimals d * 10 ^ (30 - decimals)) row (λ k d l. raised_more (get_or row k d) decimals finest.few (finest.most k d l)) ∙ sym (map_twice (whole_number decimals) (λ x. x * 10 ^ (30 - decimals)) row)

-- a row has one reduced row
pub reduced_same : (row a b : List ℕ) → IsReducedRow row a → IsReducedRow row b → a ≡ b
reduced_same row a b p q = p.divided ∙ ap (λ g. map (λ x. x / g) row) (greatest_same row p.divisor q.divisor p.greatest q.greatest) ∙ sym q.divided

-- The number with the most decimals, by which a row is raised, and the divisor that starts with it.
use Rattle.std.proofs.Common.{◌≡◌, ◌<◌, ◌≤◌, ◌+◌, ◌-◌, ◌*◌, ◌^◌, ◌⊎◌, inl, inr, ⊎_elim, ℕ, sym, ap, ◌∙◌, arith, subst, List, [], ◌∷◌, ◌++◌, All, map, length, get_or, take, drop, sum, unsigned_abs}
use Rattle.std.specs.Int.{IsGcd, ◌∣◌}
use Rattle.std.proofs.Math.Numerals.{add-one}
use Rattle.std.proofs.Math.Seq.{drop-cons}
use Rattle.std.proofs.Math.Nat.{pos_of_ne-zero, eq-zero_of_zero-dvd, eq_of_mul-eq-mul_right}
use Rattle.std.proofs.lemmas.Nat.Gcd.{dvd_refl}
use Rattle.std.proofs.lemmas.List.{take_more}
use Rattle.std.proofs.lemmas.List.Elements.{All-cons, All-tail, All-push, All-weaker}
use Rattle.weight_scale.specs.declared.decimal.Decimal.{Decimal}
use Rattle.weight_scale.specs.Scaling.{whole_number, IsGreatestDivisor}
use Rattle.weight_scale.specs.Rows.{IsFinest, IsFiner}
use Rattle.weight_scale.proofs.Tens.{tens_positive}
use Rattle.weight_scale.proofs.Lists.{all_front, all_last, all_unmapped, sum_nought, nought_sum}
use Rattle.weight_scale.proofs.Divisors.{greatest_step}

-- ---- the finest number

-- raised by its own decimals a number is its size
own_size : (d : Decimal) → whole_number d.k d ≡ unsigned_abs d.m
own_size d = ap (λ n. unsigned_abs d.m * 10 ^ n) (none d.k) ∙ once (unsigned_abs d.m)
  where
    none : (k : ℕ) → k - k ≡ 0
    none k = omega arith

    once : (n : ℕ) → n * 1 ≡ n
    once n = omega arith

module _ (xs : List Decimal) (s k : ℕ) (d : Decimal) (so_far : IsFinest xs s k) where
  abbrev longer : List Decimal
  longer = xs ++ (d ∷ [])

  keep : (unsigned_abs d.m ≡ 0) ⊎ ((0 < s) × (d.k ≤ k)) → IsFinest longer s k
  keep last = record {
    few = so_far.few;
    most = All-push (λ x. (unsigned_abs x.m ≡ 0) ⊎ (x.k ≤ k)) xs d so_far.most (⊎_elim (λ e. inl e) (λ h. inr h.1) last);
    divided = λ g all. so_far.divided g (all_front (λ x. g ∣ whole_number k x) xs (d ∷ []) all);
    nought = λ e. All-push (λ x. unsigned_abs x.m ≡ 0) xs d (so_far.nought e) (⊎_elim (λ z. z) (λ h. absurd (omega (arith, h.0, e))) last);
  }

  change : 0 < unsigned_abs d.m → (s ≡ 0) ⊎ (k < d.k) → IsFinest longer (unsigned_abs d.m) d.k
  change positive first = record {
    few = d.few;
    most = All-push (λ x. (unsigned_abs x.m ≡ 0) ⊎ (x.k ≤ d.k)) xs d (⊎_elim before (λ less. All-weaker (λ x. (unsigned_abs x.m ≡ 0) ⊎ (x.k ≤ k)) (λ x. (unsigned_abs x.m ≡ 0) ⊎ (x.k ≤ d.k)) (more less) xs so_far.most) first) (inr (omega arith));
    divided = λ g all. subst (λ n. g ∣ n) (own_size d) (all_last (λ x. g ∣ whole_number d.k x) xs d all);
    nought = λ e. absurd (omega (arith, e, positive));
  }
    where
      before : s ≡ 0 → All (λ x. (unsigned_abs x.m ≡ 0) ⊎ (x.k ≤ d.k)) xs
      before e = All-weaker (λ x. unsigned_abs x.m ≡ 0) (λ x. (unsigned_abs x.m ≡ 0) ⊎ (x.k ≤ d.k)) (λ x h. inl h) xs (so_far.nought e)

      more : k < d.k → (x : Decimal) → (unsigned_abs x.m ≡ 0) ⊎ (x.k ≤ k) → (unsigned_abs x.m ≡ 0) ⊎ (x.k ≤ d.k)
      more less x h = ⊎_elim (λ e. inl e) (λ (le : x.k ≤ k). inr (omega arith)) h

  pub finest_push : (s' k' : ℕ) → IsFiner s k d s' k' → IsFinest longer s' k'
  finest_push s' k' finer = ⊎_elim
      (λ h. let is = keep h.2 in rw (h.0, h.1) is)
      (λ h. let is = change h.2 h.3 in rw (h.0, h.1) is) finer

pub finest_step : (row : List Decimal) (i : ℕ) (d : Decimal) (s k s' k' : ℕ) → i < length row → d ≡ get_or row i d → IsFinest (take i row) s k → IsFiner s k d s' k' → IsFinest (take (i + 1) row) s' k'
finest_step row i d s k s' k' l is so_far finer =
    subst (λ xs. IsFinest xs s' k') (ap (λ x. take i row ++ (x ∷ [])) is ∙ sym (take_more row i d l)) (finest_push (take i row) s k d so_far s' k' finer)

-- ---- rows of total nought
module _ (row : List Decimal) (size decimals : ℕ) (is : IsFinest row size decimals) where
  pub nought_row : size ≡ 0 → sum (map (whole_number 30) row) ≡ 0
  nought_row e = sum_nought (whole_number 30) row (All-weaker (λ d. unsigned_abs d.m ≡ 0) (λ d. whole_number 30 d ≡ 0) (λ d h. nought d h) row (is.nought e))
    where
      nought : (d : Decimal) → unsigned_abs d.m ≡ 0 → whole_number 30 d ≡ 0
      nought d h = ap (λ n. n * 10 ^ (30 - d.k)) h ∙ none (10 ^ (30 - d.k))
        where
          none : (n : ℕ) → 0 * n ≡ 0
          none n = omega arith

  pub row_nought : sum (map (whole_number 30) row) ≡ 0 → size ≡ 0
  row_nought e = eq-zero_of_zero-dvd (is.divided 0 (All-weaker (λ d. whole_number 30 d ≡ 0) (λ d. 0 ∣ whole_number decimals d) (λ d h. divided d h) row (nought_sum (whole_number 30) row e)))
    where
      size_nought : (m t : ℕ) → 0 < t → m * t ≡ 0 → m ≡ 0
      size_nought m t positive e = eq_of_mul-eq-mul_right t positive m 0 (omega (arith, e))

      divided : (d : Decimal) → whole_number 30 d ≡ 0 → 0 ∣ whole_number decimals d
      divided d h =
          let none : unsigned_abs d.m ≡ 0 = size_nought (unsigned_abs d.m) (10 ^ (30 - d.k)) (tens_positive (30 - d.k)) h in
          let empty : whole_number decimals d ≡ 0 = ap (λ n. n * 10 ^ (decimals - d.k)) none ∙ clear (10 ^ (decimals - d.k)) in
          subst (λ n. 0 ∣ n) (sym empty) (dvd_refl 0)
        where
          clear : (n : ℕ) → 0 * n ≡ 0
          clear n = omega arith

  pub size_positive : 0 < sum (map (whole_number 30) row) → 0 < size
  size_positive positive = pos_of_ne-zero (λ e. absurd (omega (arith, nought_row e, positive)))

  pub total_positive : 0 < size → 0 < sum (map (whole_number 30) row)
  total_positive positive = pos_of_ne-zero (λ e. absurd (omega (arith, row_nought e, positive)))

-- ---- the common divisor
-- one more number taken in
pub divisor_step : (f : Decimal → ℕ) (row : List Decimal) (i : ℕ) (d : Decimal) (a h : ℕ) (Q : ℕ → Type 0) → i < length row → d ≡ get_or row i d → IsGcd a (f d) h
    → ((g : ℕ) → IsGreatestDivisor (a ∷ map f (drop i row)) g → Q g) → (g : ℕ) → IsGreatestDivisor (h ∷ map f (drop (i + 1) row)) g → Q g
divisor_step f row i d a h Q l is both before g more =
    let rest : map f (drop i row) ≡ f d ∷ map f (drop (i + 1) row) = ap (map f) (drop-cons row i d l) ∙ ap (λ n. f (get_or row i d) ∷ map f (drop n row)) (sym (add-one i)) ∙ ap (λ x. f x ∷ map f (drop (i + 1) row)) (sym is) in
    before g (subst (λ xs. IsGreatestDivisor (a ∷ xs) g) (sym rest) (greatest_step a (f d) h g (map f (drop (i + 1) row)) both more))

-- all are taken in; the size with which it began brings nothing more
pub divisor_end : (row : List Decimal) (size decimals g : ℕ) → IsFinest row size decimals → IsGreatestDivisor (size ∷ map (whole_number decimals) row) g → IsGreatestDivisor (map (whole_number decimals) row) g
divisor_end row size decimals g finest is = record {
  divides = All-tail (λ x. g ∣ x) size (map (whole_number decimals) row) is.divides;
  greatest = λ d all. is.greatest d (All-cons (λ x. d ∣ x) size (map (whole_number decimals) row) (finest.divided d (all_unmapped (λ x. d ∣ x) (whole_number decimals) row all)) all);
}

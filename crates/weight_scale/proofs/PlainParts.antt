-- A row's common divisor and its total, number by number, and rows that have no common total.
use Rattle.std.proofs.Common.{◌≡◌, ◌≢◌, ◌<◌, ◌≤◌, ◌+◌, ◌/◌, ℕ, ℤ, pos, unsigned_abs, sym, arith, subst, below_more, List, All, length, get_or, take}
use Rattle.std.specs.Int.{◌∣◌, IsGcd}
use Rattle.std.proofs.Math.Nat.{eq-one_of_dvd-one, le-div_iff_mul-le}
use Rattle.std.proofs.lemmas.Nat.Gcd.{dvd-zero, dvd_trans}
use Rattle.std.proofs.lemmas.List.{get_or_default}
use Rattle.maid_model.specs.Diagrams.{greatest_number}
use Rattle.weight_scale.specs.Plain.{ShareNone, AddsUpTo, HaveTotal}
use Rattle.weight_scale.proofs.Lists.{sum_part}

-- ---- the common divisor
-- what divides all numbers divides the divisor, it divides the first i of them, and isn't 1
pub record SharesFirst (row : List ℤ) (i divisor : ℕ) : Type 0 where
  pub divided : (d : ℕ) → All (λ x. d ∣ unsigned_abs x) row → d ∣ divisor
  pub each : (k : ℕ) → k < i → divisor ∣ unsigned_abs (get_or row k (pos 0))
  pub not_one : divisor ≢ 1

-- of no numbers it is 0
pub shares_start : (row : List ℤ) → SharesFirst row 0 0
shares_start row = record {
  divided = λ d all. dvd-zero d;
  each = λ k l. absurd (omega (arith, l));
  not_one = λ e. absurd (omega (arith, e));
}

module _ (row : List ℤ) (i a s g : ℕ) (l : i < length row) (is : s ≡ unsigned_abs (get_or row i (pos 0))) (both : IsGcd a s g) (so_far : SharesFirst row i a) where
  -- what divides all numbers divides the greatest common divisor of the divisor so far and the next
  -- number
  pub divides_more : (d : ℕ) → All (λ x. d ∣ unsigned_abs x) row → d ∣ g
  divides_more d all = both.2 d (so_far.divided d all) (subst (λ n. d ∣ n) (sym is) (all i (pos 0) l))

  -- where that is 1 they share none
  pub shares_none : g ≡ 1 → ShareNone row
  shares_none e d all = subst (λ n. d ∣ n) e (divides_more d all)

  pub shares_more : g ≢ 1 → SharesFirst row (i + 1) g
  shares_more other = record {
    divided = divides_more;
    each = below_more (λ k. g ∣ unsigned_abs (get_or row k (pos 0))) i
        (λ k less. dvd_trans g both.0 (so_far.each k less))
        (subst (λ n. g ∣ n) is both.1);
    not_one = other;
  }

-- a divisor of all numbers that isn't 1
pub shares_end : (row : List ℤ) (i divisor : ℕ) → length row ≤ i → SharesFirst row i divisor → ShareNone row → ⊥
shares_end row i divisor all is none = is.not_one (eq-one_of_dvd-one (none divisor (λ k d l. subst (λ x. divisor ∣ unsigned_abs x) (get_or_default row k (pos 0) d l) (is.each k (omega (arith, l, all))))))

-- ---- the total
-- the first numbers alone are too great
pub no_total : (row : List ℤ) (i so_far s : ℕ) → i < length row → s ≡ unsigned_abs (get_or row i (pos 0)) → AddsUpTo (take i row) so_far
    → (so_far + s ≤ greatest_number → ⊥) → (total : ℕ) → AddsUpTo row total → ⊥
no_total row i so_far s l is first wide total all =
    let x = get_or row i (pos 0) in
    wide (omega (arith, sum_part unsigned_abs row i x l (get_or_default row i (pos 0) x l), is, first.0, all.0, all.1))

-- ---- all rows
-- where there is a row there are cells for it
pub row_needs : (cells : List ℤ) (states total : ℕ) → 0 < states → HaveTotal cells states total → states ≤ length cells
row_needs cells states total positive have = omega (arith, (le-div_iff_mul-le {k = states} {x = 1} {y = length cells} positive).0 (omega (arith, have.some)))

-- and the other way round
pub has_row : (cells : List ℤ) (states : ℕ) → 0 < states → states ≤ length cells → 0 < length cells / states
has_row cells states positive enough = omega (arith, (le-div_iff_mul-le {k = states} {x = 1} {y = length cells} positive).1 (omega (arith, enough)))

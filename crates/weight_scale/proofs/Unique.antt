-- The rows of a table have one scaling: each row has one reduced row, so the totals and their least
-- common multiple are the same, and so is each row of weights. Nor is a table's common total too
-- great where it has one.
use Rattle.std.proofs.Common.{◌≡◌, ◌<◌, ◌+◌, ◌*◌, ◌/◌, ℕ, zero, suc, sym, ap, ◌∙◌, arith, subst, List, ◌++◌, length, take, sum}
use Rattle.std.specs.Int.{◌∣◌}
use Rattle.std.proofs.Math.Nat.{zero-mul}
use Rattle.std.proofs.Math.Seq.{take-add}
use Rattle.std.proofs.lemmas.Nat.Gcd.{dvd_antisymm, le_of_dvd}
use Rattle.std.proofs.lemmas.List.{take_all}
use Rattle.weight_scale.specs.declared.decimal.Decimal.{Decimal}
use Rattle.weight_scale.specs.Views.{ScaledView}
use Rattle.weight_scale.specs.Scaling.{row_at, raised_row, multiplied_row, AreReducedRows, IsCommonTotal, IsScaled, IsTooWide}
use Rattle.weight_scale.proofs.RowParts.{rows_whole}
use Rattle.weight_scale.proofs.Shares.{reduced_same}

-- tables with the same rows
module _ {A : Type 0} where
  fronts_same : (states : ℕ) (xs ys : List A) (n : ℕ) → ((r : ℕ) → r < n → row_at states xs r ≡ row_at states ys r) → take (n * states) xs ≡ take (n * states) ys
  fronts_same states xs ys zero same = ap (λ k. take k xs) (zero-mul states) ∙ sym (ap (λ k. take k ys) (zero-mul states))
  fronts_same states xs ys (suc n) same =
      ap (λ k. take k xs) (more n states) ∙ take-add (n * states) states xs
      ∙ (λ i. fronts_same states xs ys n (λ r l. same r (omega (arith, l))) i ++ same n (omega arith) i)
      ∙ sym (take-add (n * states) states ys) ∙ sym (ap (λ k. take k ys) (more n states))
    where
      more : (n states : ℕ) → suc n * states ≡ n * states + states
      more n states = omega arith

  rows_same : (states n : ℕ) (xs ys : List A) → length xs ≡ n * states → length ys ≡ n * states → ((r : ℕ) → r < n → row_at states xs r ≡ row_at states ys r) → xs ≡ ys
  rows_same states n xs ys a b same = sym (take_all (n * states) xs (omega (arith, a))) ∙ fronts_same states xs ys n same ∙ take_all (n * states) ys (omega (arith, b))

-- the common total of reduced rows divides every other one
total_divides : (rows : List Decimal) (states : ℕ) (a b : List ℕ) (s t : ℕ) → AreReducedRows rows states a → AreReducedRows rows states b → IsCommonTotal a states (length rows / states) s → IsCommonTotal b states (length rows / states) t → s ∣ t
total_divides rows states a b s t p q is other =
    is.least t (λ r l. subst (λ xs. sum xs ∣ t) (sym (reduced_same (raised_row states rows r) (row_at states a r) (row_at states b r) (p.row r l) (q.row r l))) (other.multiple r l))

pub never_both : (rows : List Decimal) (states : ℕ) (scaled : ScaledView) → IsScaled rows states scaled → IsTooWide rows states → ⊥
never_both rows states scaled p q =
    let divides = total_divides rows states q.reduced p.reduced q.total scaled.total q.rows_reduced p.rows_reduced q.common p.common in
    omega (arith, le_of_dvd p.common.positive divides, p.small, q.wide)

pub scaled_once : (rows : List Decimal) (states : ℕ) (a b : ScaledView) → 0 < states → states ∣ length rows → IsScaled rows states a → IsScaled rows states b → a ≡ b
scaled_once rows states a b positive whole p q = λ i. record { weights = weights i; total = total i }
  where
    reduced : (r : ℕ) → r < length rows / states → row_at states p.reduced r ≡ row_at states q.reduced r
    reduced r l = reduced_same (raised_row states rows r) (row_at states p.reduced r) (row_at states q.reduced r) (p.rows_reduced.row r l) (q.rows_reduced.row r l)

    total : a.total ≡ b.total
    total = dvd_antisymm
        (total_divides rows states p.reduced q.reduced a.total b.total p.rows_reduced q.rows_reduced p.common q.common)
        (total_divides rows states q.reduced p.reduced b.total a.total q.rows_reduced p.rows_reduced q.common p.common)

    len : (n : ℕ) → n ≡ length rows → n ≡ length rows / states * states
    len n e = e ∙ sym (rows_whole (length rows) states whole)

    weights : a.weights ≡ b.weights
    weights = rows_same states (length rows / states) a.weights b.weights (len (length a.weights) p.len) (len (length b.weights) q.len)
        (λ r l. p.row r l ∙ (λ i. multiplied_row (total i) (reduced r l i)) ∙ sym (q.row r l))

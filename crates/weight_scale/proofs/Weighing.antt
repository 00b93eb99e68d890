-- Reduced rows multiplied to the common total, and the table that they make.
use Rattle.std.proofs.Common.{◌≡◌, ◌<◌, ◌≤◌, ◌+◌, ◌*◌, ◌/◌, ◌%◌, ◌^◌, ℕ, ℤ, zero, suc, pos, ◌+ℤ◌, ◌≤ℤ◌, refl, sym, ap, ◌∙◌, arith, subst, below_more, ⊎_elim, ◌⊎◌, inl, inr, List, [], ◌∷◌, ◌++◌, map, length, get_or, sum}
use Rattle.std.specs.Int.{◌∣◌}
use Rattle.std.proofs.Math.Numerals.{add-one}
use Rattle.std.proofs.Math.Nat.{mul-le-mul_right, mul-div-le, mul-div_cancel', zero-mul}
use Rattle.std.proofs.lemmas.Nat.Gcd.{le_of_dvd}
use Rattle.std.proofs.lemmas.Int.{ints}
use Rattle.std.proofs.lemmas.Bool.{cases_lt}
use Rattle.std.proofs.Math.ListN.{get_or-eq_default}
use Rattle.std.proofs.lemmas.List.{length-map, length-append}
use Rattle.std.proofs.lemmas.List.Sums.{sum_by-cons}
use Rattle.finite_sums.specs.Sums.{sum_below}
use Rattle.maid_model.specs.Tables.{IsTable}
use Rattle.maid_model.specs.Diagrams.{greatest_number}
use Rattle.weight_scale.specs.declared.decimal.Decimal.{Decimal}
use Rattle.weight_scale.specs.Views.{ScaledView}
use Rattle.weight_scale.specs.Scaling.{row_at, raised_row, multiplied_row, IsScaled, IsTooWide, NoneNegative, NoZeroRow}
use Rattle.weight_scale.specs.Rows.{WeighsRows, ReducesRows}
use Rattle.weight_scale.proofs.RowParts.{row_within, rows_whole, count_of_rows, row_length, row_kept, row_added, row_cell}
use Rattle.weight_scale.proofs.Totals.{reduced_positive, reduces_exist, too_wide}

-- ---- row by row
-- a row's total divides the common one
pub factor_within : (s total : ℕ) → s * (total / s) ≤ total
factor_within s total = mul-div-le total s

pub total_fits : (s total : ℕ) → s ∣ total → 0 < total → total ≤ greatest_number → s < 2 ^ 128
total_fits s total d positive small = omega (arith, le_of_dvd positive d, small)

module _ (reduced : List ℕ) (states total : ℕ) where
  pub weighs_start : WeighsRows reduced states total 0 []
  weighs_start = record { len = sym (zero-mul states); row = λ r l. absurd (omega (arith, l)) }

  pub weighs_step : (n : ℕ) (old new : List ℤ) → n < length reduced / states → WeighsRows reduced states total n old → new ≡ old ++ multiplied_row total (row_at states reduced n) → WeighsRows reduced states total (n + 1) new
  weighs_step n old new l so_far is = record {
    len = ap length is ∙ length-append old (multiplied_row total (row_at states reduced n)) ∙ add so_far.len last_length;
    row = below_more (λ r. row_at states new r ≡ multiplied_row total (row_at states reduced r)) n
        (λ r less. ap (λ xs. row_at states xs r) is ∙ row_kept states n old (multiplied_row total (row_at states reduced n)) r so_far.len less ∙ so_far.row r less)
        (ap (λ xs. row_at states xs n) is ∙ row_added states n old (multiplied_row total (row_at states reduced n)) so_far.len last_length);
  }
    where
      last_length : length (multiplied_row total (row_at states reduced n)) ≡ states
      last_length = length-map (row_at states reduced n) (λ x. pos (x * (total / sum (row_at states reduced n)))) ∙ row_length states reduced n (row_within (length reduced) states n l)

      add : length old ≡ n * states → length (multiplied_row total (row_at states reduced n)) ≡ states → length old + length (multiplied_row total (row_at states reduced n)) ≡ (n + 1) * states
      add a b = omega (arith, a, b)

  -- each row can be multiplied
  pub weighs_exist : (n : ℕ) → n ≤ length reduced / states → (weights : List ℤ) × WeighsRows reduced states total n weights
  weighs_exist zero le = ([], weighs_start)
  weighs_exist (suc n) le = go (weighs_exist n (omega (arith, le)))
    where
      go : (weights : List ℤ) × WeighsRows reduced states total n weights → (weights : List ℤ) × WeighsRows reduced states total (suc n) weights
      go before =
          let row = multiplied_row total (row_at states reduced n) in
          (before.0 ++ row, subst (λ k. WeighsRows reduced states total k (before.0 ++ row)) (add-one n) (weighs_step n before.0 (before.0 ++ row) le before.1 refl))

-- ---- the weights are those of the rows
module _ (rows : List Decimal) (states : ℕ) (states_positive : 0 < states) (whole : states ∣ length rows) (reduced : List ℕ) (total : ℕ) (reduces : ReducesRows rows states (length rows / states) reduced total) where
  -- as many rows are reduced as there are
  pub reduced_count : length reduced / states ≡ length rows / states
  reduced_count = ap (λ n. n / states) reduces.len ∙ count_of_rows (length rows / states) states states_positive

  pub reduced_totals : NoZeroRow rows states (length rows / states) → (r : ℕ) → r < length reduced / states → 0 < sum (row_at states reduced r)
  reduced_totals positive r l =
      let inside : r < length rows / states = rw (← reduced_count) l in
      reduced_positive (raised_row states rows r) (row_at states reduced r) (reduces.row r inside) (positive r inside)

  pub total_multiple : (r : ℕ) → r < length reduced / states → sum (row_at states reduced r) ∣ total
  total_multiple r l = let inside : r < length rows / states = rw (← reduced_count) l in reduces.common.multiple r inside

  pub scaled : NoneNegative rows → (weights : List ℤ) → total ≤ greatest_number → WeighsRows reduced states total (length reduced / states) weights → IsScaled rows states (record { weights = weights; total = total })
  scaled none_negative weights small weighs = record {
    none_negative = none_negative;
    reduced = reduced;
    rows_reduced = record { len = reduces.len ∙ rows_whole (length rows) states whole; row = reduces.row };
    common = reduces.common;
    small = small;
    len = weighs.len ∙ ap (λ n. n * states) reduced_count ∙ rows_whole (length rows) states whole;
    row = λ r l. weighs.row r (subst (λ n. r < n) (sym reduced_count) l);
  }

-- rows of totals above nought have a scaling, or too great a common total
pub scaled_or_wide : (rows : List Decimal) (states : ℕ) → 0 < states → states ∣ length rows → NoneNegative rows → NoZeroRow rows states (length rows / states) → ((scaled : ScaledView) × IsScaled rows states scaled) ⊎ IsTooWide rows states
scaled_or_wide rows states some whole none_negative positive = by_total (reduces_exist rows states some positive (length rows / states) (omega arith))
  where
    by_total : (reduced : List ℕ) × (total : ℕ) × ReducesRows rows states (length rows / states) reduced total → ((view : ScaledView) × IsScaled rows states view) ⊎ IsTooWide rows states
    by_total (reduced, total, is) = ⊎_elim
        (λ wide. inr (too_wide rows states some positive whole reduced total is wide))
        (λ small. let all = weighs_exist reduced states total (length reduced / states) (omega arith) in inl (record { weights = all.0; total = total }, scaled rows states some whole reduced total is none_negative all.0 small all.1))
        (cases_lt greatest_number total)

-- ---- the table
sum_below_same : (n : ℕ) (f g : ℕ → ℤ) → ((i : ℕ) → i < n → f i ≡ g i) → sum_below n f ≡ sum_below n g
sum_below_same zero f g e = refl
sum_below_same (suc n) f g e = ap (λ a. a +ℤ f n) (sum_below_same n f g (λ i l. e i (omega (arith, l)))) ∙ ap (λ a. sum_below n g +ℤ a) (e n (omega arith))

sum_below_front : (n : ℕ) (f : ℕ → ℤ) → sum_below (suc n) f ≡ f 0 +ℤ sum_below n (λ i. f (suc i))
sum_below_front zero f = swap (f 0)
  where
    swap : (a : ℤ) → pos 0 +ℤ a ≡ a +ℤ pos 0
    swap a = omega (arith, ints)
sum_below_front (suc n) f = ap (λ a. a +ℤ f (suc n)) (sum_below_front n f) ∙ regroup (f 0) (sum_below n (λ i. f (suc i))) (f (suc n))
  where
    regroup : (a b c : ℤ) → (a +ℤ b) +ℤ c ≡ a +ℤ (b +ℤ c)
    regroup a b c = omega (arith, ints)

-- the cells of a row times a factor add up to its sum times the factor
sum_of_row : (factor : ℕ) (xs : List ℕ) → sum_below (length xs) (λ i. get_or (map (λ x. pos (x * factor)) xs) i (pos 0)) ≡ pos (sum xs * factor)
sum_of_row factor [] = ap pos (sym (zero-mul factor))
sum_of_row factor (x ∷ xs) =
    sum_below_front (length xs) (λ i. get_or (map (λ y. pos (y * factor)) (x ∷ xs)) i (pos 0))
    ∙ ap (λ a. pos (x * factor) +ℤ a) (sum_of_row factor xs) ∙ ap pos (join x (sum xs) factor) ∙ ap (λ n. pos (n * factor)) (sym (sum_by-cons (λ n. n) x xs))
  where
    join : (a b f : ℕ) → a * f + b * f ≡ (a + b) * f
    join a b f = omega arith

not_below : (factor : ℕ) (xs : List ℕ) (i : ℕ) → pos 0 ≤ℤ get_or (map (λ x. pos (x * factor)) xs) i (pos 0)
not_below factor [] i = omega (arith, ints)
not_below factor (x ∷ xs) zero = omega (arith, ints)
not_below factor (x ∷ xs) (suc i) = not_below factor xs i

module _ (rows : List Decimal) (states : ℕ) (states_positive : 0 < states) (whole : states ∣ length rows) (scaled : ScaledView) (is : IsScaled rows states scaled) where
  abbrev count : ℕ
  count = length rows / states

  abbrev row : ℕ → List ℕ
  row r = row_at states is.reduced r

  abbrev factor : ℕ → ℕ
  factor r = scaled.total / sum (row r)

  row_states : (r : ℕ) → r < count → length (row r) ≡ states
  row_states r l = row_length states is.reduced r (rw is.rows_reduced.len (row_within (length rows) states r l))

  cell : (r s : ℕ) → r < count → s < states → get_or scaled.weights (r * states + s) (pos 0) ≡ get_or (multiplied_row scaled.total (row r)) s (pos 0)
  cell r s l less = sym (row_cell states scaled.weights r s (pos 0) less) ∙ ap (λ xs. get_or xs s (pos 0)) (is.row r l)

  row_sum : (r : ℕ) → r < count → sum_below states (λ s. get_or scaled.weights (r * states + s) (pos 0)) ≡ pos scaled.total
  row_sum r l =
      sum_below_same states (λ s. get_or scaled.weights (r * states + s) (pos 0)) (λ s. get_or (multiplied_row scaled.total (row r)) s (pos 0)) (λ s less. cell r s l less)
      ∙ ap (λ n. sum_below n (λ s. get_or (multiplied_row scaled.total (row r)) s (pos 0))) (sym (row_states r l))
      ∙ sum_of_row (factor r) (row r) ∙ ap pos (mul-div_cancel' (sum (row r)) (is.common.multiple r l))

  not_negative : (i : ℕ) → pos 0 ≤ℤ get_or scaled.weights i (pos 0)
  not_negative i = ⊎_elim inside (λ le. subst (λ z. pos 0 ≤ℤ z) (sym (get_or-eq_default scaled.weights (pos 0) le)) (omega (arith, ints))) (cases_lt i (length scaled.weights))
    where
      place : (i / states) * states + i % states ≡ i
      place = omega (arith, states_positive)

      before : (r : ℕ) → (r < count) ⊎ (count ≤ r) → r * states + i % states ≡ i → i < length scaled.weights → r < count
      before r (inl h) e l = h
      before r (inr h) e l = absurd (omega (arith, e, l, is.len, rows_whole (length rows) states whole, mul-le-mul_right {m = count} {n = r} states h))

      inside : i < length scaled.weights → pos 0 ≤ℤ get_or scaled.weights i (pos 0)
      inside l =
          let less : i % states < states = omega (arith, states_positive) in
          let row_less : i / states < count = before (i / states) (cases_lt (i / states) count) place l in
          subst (λ n. pos 0 ≤ℤ get_or scaled.weights n (pos 0)) place
          (subst (λ z. pos 0 ≤ℤ z) (sym (cell (i / states) (i % states) row_less less)) (not_below (factor (i / states)) (row (i / states)) (i % states)))

  pub is_table : IsTable scaled.weights (length rows / states) states scaled.total
  is_table = record {
    len = is.len ∙ sym (rows_whole (length rows) states whole);
    not_negative = not_negative;
    row = row_sum;
  }

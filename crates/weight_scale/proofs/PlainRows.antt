-- Rows of one total whose numbers share no divisor are the weights of their table: what a row is
-- divided by it is multiplied by again, as the least common multiple of the reduced rows' totals is
-- the total of all.
use Rattle.std.proofs.Common.{◌≡◌, ◌<◌, ◌≤◌, ◌+◌, ◌-◌, ◌*◌, ◌/◌, ◌%◌, ◌^◌, ◌⊎◌, inl, inr, ℕ, ℤ, pos, negsuc, ◌≤ℤ◌, unsigned_abs, refl, sym, ap, ◌∙◌, arith, subst, List, [], ◌∷◌, All, map, length, get_or, take, drop, sum}
use Rattle.std.specs.Int.{◌∣◌}
use Rattle.std.specs.List.{drop-map}
use Rattle.std.proofs.Math.Nat.{one-dvd, pos_of_ne-zero, eq-zero_of_zero-dvd, zero-mul, mul_comm, div-mul_cancel, mul-div_cancel, dvd-mul_right, mul-dvd-mul, mul-le-mul_right}
use Rattle.std.proofs.lemmas.Bool.{cases_lt}
use Rattle.std.proofs.lemmas.Nat.Gcd.{dvd_refl, dvd_antisymm}
use Rattle.std.proofs.lemmas.Int.{ints}
use Rattle.std.proofs.lemmas.List.{take-map, length-map, get_or-map}
use Rattle.std.proofs.lemmas.List.Elements.{All-head, All-tail, All-take, All-drop, All-weaker, All-map}
use Rattle.std.proofs.lemmas.List.Sums.{sum_by-cons}
use Rattle.maid_model.specs.Tables.{IsTable}
use Rattle.weight_scale.specs.declared.decimal.Decimal.{Decimal}
use Rattle.weight_scale.specs.Plain.{AddsUpTo, AreWhole, ArePlainRows, ShareNone}
use Rattle.weight_scale.specs.Rows.{shares, IsFinest}
use Rattle.weight_scale.specs.Scaling.{row_at, raised_row, whole_number, multiplied_row, AreReducedRows, IsGreatestDivisor, IsReducedRow, IsCommonTotal, IsScaled, IsTooWide, NoneNegative, NoZeroRow}
use Rattle.weight_scale.specs.Views.{ScaledView}
use Rattle.weight_scale.proofs.Divisors.{greatest_exists, greatest_scaled}
use Rattle.weight_scale.proofs.Lists.{all_unmapped, map_same, map_twice, nought_sum, sum_nought}
use Rattle.weight_scale.proofs.Pivots.{total_positive as row_positive}
use Rattle.weight_scale.proofs.RowParts.{row_cell, row_length, row_within, rows_whole}
use Rattle.weight_scale.proofs.Shares.{reduced_same, shares_reduced}
use Rattle.weight_scale.proofs.Weighing.{is_table, scaled_or_wide}

abbrev number : Decimal → ℤ
number d = d.m

-- raised by no tens, a number is its size
unraised : (d : Decimal) → whole_number 0 d ≡ unsigned_abs d.m
unraised d = ap (λ n. unsigned_abs d.m * 10 ^ n) (none d.k) ∙ once (unsigned_abs d.m)
  where
    none : (k : ℕ) → 0 - k ≡ 0
    none k = omega arith

    once : (n : ℕ) → n * 1 ≡ n
    once n = omega arith

sizes : (row : List Decimal) → map unsigned_abs (map number row) ≡ map (λ d. unsigned_abs d.m) row
sizes [] = refl
sizes (d ∷ row) = ap (λ ns. unsigned_abs d.m ∷ ns) (sizes row)

-- a row of a mapped table
row_map : {A B : Type 0} (f : A → B) (states : ℕ) (xs : List A) (r : ℕ) → row_at states (map f xs) r ≡ map f (row_at states xs r)
row_map f states xs r = ap (take states) (drop-map f (r * states) xs) ∙ take-map f states (drop (r * states) xs)

all_in_row : {A : Type 0} (P : A → Type 0) (states : ℕ) (xs : List A) (r : ℕ) → All P xs → All P (row_at states xs r)
all_in_row P states xs r all = All-take P states (drop (r * states) xs) (All-drop P (r * states) xs all)

not_below : (x : ℤ) → pos 0 ≤ℤ x → pos (unsigned_abs x) ≡ x
not_below (pos n) h = refl
not_below (negsuc n) h = absurd (omega (arith, ints, h))

-- the sum of quotients, times what all were divided by
quotients_sum : (f : Decimal → ℕ) (g : ℕ) (row : List Decimal) → All (λ d. g ∣ f d) row → sum (map (λ d. f d / g) row) * g ≡ sum (map f row)
quotients_sum f g [] all = zero-mul g
quotients_sum f g (x ∷ xs) all =
    ap (λ n. n * g) (sum_by-cons (λ n. n) (f x / g) (map (λ d. f d / g) xs)) ∙ spread (f x / g) (sum (map (λ d. f d / g) xs)) g
    ∙ (λ i. div-mul_cancel g (All-head (λ d. g ∣ f d) x xs all) i + quotients_sum f g xs (All-tail (λ d. g ∣ f d) x xs all) i) ∙ sym (sum_by-cons (λ n. n) (f x) (map f xs))
  where
    spread : (a b g : ℕ) → (a + b) * g ≡ a * g + b * g
    spread a b g = omega arith

-- ---- one row
module _ (row : List Decimal) (total : ℕ) (none : All (λ d. d.k ≡ 0) row) (adds : AddsUpTo (map number row) total) (some : 0 < total) where
  -- the greatest common divisor of the row's numbers
  abbrev pub divisor : ℕ
  divisor = (greatest_exists (map (whole_number 0) row)).0

  greatest : IsGreatestDivisor (map (whole_number 0) row) divisor
  greatest = (greatest_exists (map (whole_number 0) row)).1

  divides_each : All (λ d. divisor ∣ whole_number 0 d) row
  divides_each = all_unmapped (λ x. divisor ∣ x) (whole_number 0) row greatest.divides

  -- where it is 0 all numbers are
  all_nought : divisor ≡ 0 → All (λ d. whole_number 0 d ≡ 0) row
  all_nought e = All-weaker (λ d. divisor ∣ whole_number 0 d) (λ d. whole_number 0 d ≡ 0) (λ d h. eq-zero_of_zero-dvd (subst (λ n. n ∣ whole_number 0 d) e h)) row divides_each

  pub finest : IsFinest row divisor 0
  finest = record {
    few = omega arith;
    most = All-weaker (λ d. d.k ≡ 0) (λ d. (unsigned_abs d.m ≡ 0) ⊎ (d.k ≤ 0)) (λ d h. inr (omega (arith, h))) row none;
    divided = λ g all. greatest.greatest g (All-map (λ x. g ∣ x) (whole_number 0) row all);
    nought = λ e. All-weaker (λ d. whole_number 0 d ≡ 0) (λ d. unsigned_abs d.m ≡ 0) (λ d h. sym (unraised d) ∙ h) row (all_nought e);
  }

  whole_total : sum (map (whole_number 0) row) ≡ total
  whole_total = ap sum (map_same (whole_number 0) (λ d. unsigned_abs d.m) row (λ k d l. unraised (get_or row k d)) ∙ sym (sizes row)) ∙ adds.0

  pub divisor_positive : 0 < divisor
  divisor_positive = pos_of_ne-zero (λ e. let nought = sum_nought (whole_number 0) row (all_nought e) in absurd (omega (arith, some, whole_total, nought)))

  abbrev pub reduced_row : List ℕ
  reduced_row = shares 0 divisor row

  pub own_reduced : IsReducedRow (map (whole_number 30) row) reduced_row
  own_reduced = shares_reduced row divisor 0 divisor finest greatest

  reduced_total : sum reduced_row * divisor ≡ total
  reduced_total = quotients_sum (whole_number 0) divisor row divides_each ∙ whole_total

  pub reduced_divides : sum reduced_row ∣ total
  reduced_divides = subst (λ n. sum reduced_row ∣ n) reduced_total (dvd-mul_right (sum reduced_row) divisor)

  reduced_positive : 0 < sum reduced_row
  reduced_positive = pos_of_ne-zero (λ e. let nought = ap (λ n. n * divisor) e in absurd (omega (arith, some, reduced_total, nought)))

  -- the row's factor is its divisor
  factor : total / sum reduced_row ≡ divisor
  factor = ap (λ n. n / sum reduced_row) (sym reduced_total ∙ mul_comm (sum reduced_row) divisor) ∙ mul-div_cancel divisor reduced_positive

  pub multiplied : All (λ d. pos 0 ≤ℤ d.m) row → map number row ≡ multiplied_row total reduced_row
  multiplied above = sym (map_twice (λ d. whole_number 0 d / divisor) (λ x. pos (x * (total / sum reduced_row))) row
      ∙ map_same (λ d. pos (whole_number 0 d / divisor * (total / sum reduced_row))) number row (λ k d l. own (get_or row k d) (divides_each k d l) (above k d l)))
    where
      own : (d : Decimal) → divisor ∣ whole_number 0 d → pos 0 ≤ℤ d.m → pos (whole_number 0 d / divisor * (total / sum reduced_row)) ≡ d.m
      own d h a = ap pos (ap (λ n. whole_number 0 d / divisor * n) factor ∙ div-mul_cancel divisor h ∙ unraised d) ∙ not_below d.m a

  -- the total divides each number times what the reduced row's total divides
  pub total_scaled : (m : ℕ) → sum reduced_row ∣ m → All (λ d. total ∣ unsigned_abs d.m * m) row
  total_scaled m h k d l = subst (λ n. n ∣ unsigned_abs (get_or row k d).m * m) (mul_comm divisor (sum reduced_row) ∙ reduced_total)
      (mul-dvd-mul divisor (sum reduced_row) (subst (λ n. divisor ∣ n) (unraised (get_or row k d)) (divides_each k d l)) h)

-- ---- all rows
module _ (rows : List Decimal) (states total : ℕ) (positive : 0 < states) (parts : states ∣ length rows) (above : All (λ x. pos 0 ≤ℤ x) (map number rows)) (none : All (λ d. d.k ≡ 0) rows)
    (some : 0 < length rows / states) (each : (r : ℕ) → r < length rows / states → AddsUpTo (row_at states (map number rows) r) total) (alone : ShareNone (map number rows)) where
  pub adds_at : (r : ℕ) → r < length rows / states → AddsUpTo (map number (row_at states rows r)) total
  adds_at r l = subst (λ row. AddsUpTo row total) (row_map number states rows r) (each r l)

  pub none_at : (r : ℕ) → All (λ d. d.k ≡ 0) (row_at states rows r)
  none_at r = all_in_row (λ d. d.k ≡ 0) states rows r none

  above_at : (r : ℕ) → All (λ d. pos 0 ≤ℤ d.m) (row_at states rows r)
  above_at r = all_in_row (λ d. pos 0 ≤ℤ d.m) states rows r (λ k d l. subst (λ x. pos 0 ≤ℤ x) (number_of k d l) (above k (pos 0) (subst (λ n. k < n) (sym (length-map rows number)) l)))
    where
      number_of : (k : ℕ) (d : Decimal) → k < length rows → get_or (map number rows) k (pos 0) ≡ (get_or rows k d).m
      number_of k d l = get_or-map number rows k d (pos 0) l

  -- what holds of each row's numbers holds of all
  by_rows : (P : Decimal → Type 0) → ((r : ℕ) → r < length rows / states → All P (row_at states rows r)) → All P rows
  by_rows P at k d l =
      let whole : states * (k / states) + k % states ≡ k = omega arith in
      let place : k % states < states = omega arith in
      let before : k / states < length rows / states = row_of place whole (rows_whole (length rows) states parts) in
      let long : length (row_at states rows (k / states)) ≡ states = row_length states rows (k / states) (row_within (length rows) states (k / states) before) in
      subst P (row_cell states rows (k / states) (k % states) d place ∙ ap (λ i. get_or rows i d) (turned (k / states) (k % states) whole)) (at (k / states) before (k % states) d (subst (λ n. k % states < n) (sym long) place))
    where
      turned : (q s : ℕ) → states * q + s ≡ k → q * states + s ≡ k
      turned q s e = omega (arith, e)

      row_of : k % states < states → states * (k / states) + k % states ≡ k → length rows / states * states ≡ length rows → k / states < length rows / states
      row_of place whole all = elim (cases_lt (k / states) (length rows / states)) as (λ _. k / states < length rows / states) [
        | inl b ↦ b
        | inr g ↦ absurd (omega (arith, mul-le-mul_right {m = length rows / states} {n = k / states} states g, whole, all, l))
      ]

  -- 1 alone divides the numbers, so that they are not all nought
  pub total_positive : 0 < total
  total_positive = pos_of_ne-zero (λ e. one_is (eq-zero_of_zero-dvd (alone 0 (All-map (λ x. 0 ∣ unsigned_abs x) number rows (by_rows (λ d. 0 ∣ unsigned_abs d.m) (nought_row e))))))
    where
      one_is : ◌≡◌ {A = ℕ} 1 0 → ⊥
      one_is e = omega (arith, e)

      nought_row : total ≡ 0 → (r : ℕ) → r < length rows / states → All (λ d. 0 ∣ unsigned_abs d.m) (row_at states rows r)
      nought_row e r l = All-weaker (λ d. unsigned_abs d.m ≡ 0) (λ d. 0 ∣ unsigned_abs d.m) (λ d h. subst (λ n. 0 ∣ n) (sym h) (dvd_refl 0)) (row_at states rows r)
          (nought_sum (λ d. unsigned_abs d.m) (row_at states rows r) (ap sum (sym (sizes (row_at states rows r))) ∙ (adds_at r l).0 ∙ e))

  pub none_negative : NoneNegative rows
  none_negative i l = above i (pos 0) (subst (λ n. i < n) (sym (length-map rows number)) l)

  pub no_zero_row : NoZeroRow rows states (length rows / states)
  no_zero_row r l =
      let row = row_at states rows r in
      row_positive row (divisor row total (none_at r) (adds_at r l) total_positive) 0 (finest row total (none_at r) (adds_at r l) total_positive) (divisor_positive row total (none_at r) (adds_at r l) total_positive)

  -- ---- the least common multiple of the reduced rows' totals is the rows' total
  module _ (reduced : List ℕ) (common : ℕ) (are : AreReducedRows rows states reduced) (is : IsCommonTotal reduced states (length rows / states) common) where
    pub row_is : (r : ℕ) → (l : r < length rows / states) → row_at states reduced r ≡ reduced_row (row_at states rows r) total (none_at r) (adds_at r l) total_positive
    row_is r l = reduced_same (raised_row states rows r) (row_at states reduced r) _ (are.row r l) (own_reduced (row_at states rows r) total (none_at r) (adds_at r l) total_positive)

    divides : common ∣ total
    divides = is.least total (λ r l. subst (λ xs. sum xs ∣ total) (sym (row_is r l)) (reduced_divides (row_at states rows r) total (none_at r) (adds_at r l) total_positive))

    -- 1 is the greatest common divisor of all numbers
    one : IsGreatestDivisor (map (λ d. unsigned_abs d.m) rows) 1
    one = record {
      divides = λ k d l. one-dvd (get_or (map (λ e. unsigned_abs e.m) rows) k d);
      greatest = λ d all. alone d (All-map (λ x. d ∣ unsigned_abs x) number rows (all_unmapped (λ x. d ∣ x) (λ e. unsigned_abs e.m) rows all));
    }

    -- the total divides each number times the common multiple, and so the multiple
    divided : total ∣ common
    divided = subst (λ n. total ∣ n) (once common) ((greatest_scaled (map (λ d. unsigned_abs d.m) rows) common 1 is.positive one).greatest total
        (All-map (λ y. total ∣ y) (λ x. x * common) (map (λ d. unsigned_abs d.m) rows) (All-map (λ x. total ∣ x * common) (λ d. unsigned_abs d.m) rows (by_rows (λ d. total ∣ unsigned_abs d.m * common) by_row))))
      where
        once : (n : ℕ) → 1 * n ≡ n
        once n = omega arith

        by_row : (r : ℕ) → r < length rows / states → All (λ d. total ∣ unsigned_abs d.m * common) (row_at states rows r)
        by_row r l = total_scaled (row_at states rows r) total (none_at r) (adds_at r l) total_positive common (subst (λ xs. sum xs ∣ common) (row_is r l) (is.multiple r l))

    pub same : common ≡ total
    same = dvd_antisymm divides divided

  pub plain_scaled : IsScaled rows states (record { weights = map number rows; total = total })
  plain_scaled = by_rows_scaled (scaled_or_wide rows states positive parts none_negative no_zero_row)
    where
      by_rows_scaled : ((scaled : ScaledView) × IsScaled rows states scaled) ⊎ IsTooWide rows states → IsScaled rows states (record { weights = map number rows; total = total })
      by_rows_scaled (inl (scaled, is)) = record {
        none_negative = none_negative;
        reduced = is.reduced;
        rows_reduced = is.rows_reduced;
        common = subst (IsCommonTotal is.reduced states (length rows / states)) (same is.reduced scaled.total is.rows_reduced is.common) is.common;
        small = (each 0 some).1;
        len = length-map rows number;
        row = λ r l. row_map number states rows r ∙ multiplied (row_at states rows r) total (none_at r) (adds_at r l) total_positive (above_at r)
            ∙ ap (multiplied_row total) (sym (row_is is.reduced scaled.total is.rows_reduced is.common r l));
      }
      by_rows_scaled (inr is) = absurd (omega (arith, is.wide, same is.reduced is.total is.rows_reduced is.common, (each 0 some).1))

-- ---- cells that whole numbers are
module _ (rows : List Decimal) (cells : List ℤ) (states total : ℕ) (positive : 0 < states) (above : All (λ x. pos 0 ≤ℤ x) cells) (parts : states ∣ length cells) (whole : AreWhole rows cells) (plain : ArePlainRows cells states total) where
  long : length cells ≡ length rows
  long = sym (ap length whole.0) ∙ length-map rows number

  own_parts : states ∣ length rows
  own_parts = subst (λ n. states ∣ n) long parts

  count : length cells / states ≡ length rows / states
  count = ap (λ n. n / states) long

  own_some : 0 < length rows / states
  own_some = subst (λ n. 0 < n) count plain.rows.some

  own_above : All (λ x. pos 0 ≤ℤ x) (map number rows)
  own_above = subst (All (λ x. pos 0 ≤ℤ x)) (sym whole.0) above

  own_each : (r : ℕ) → r < length rows / states → AddsUpTo (row_at states (map number rows) r) total
  own_each r l = subst (λ cs. AddsUpTo (row_at states cs r) total) (sym whole.0) (plain.rows.each r (subst (λ n. r < n) (sym count) l))

  own_alone : ShareNone (map number rows)
  own_alone = subst ShareNone (sym whole.0) plain.alone

  pub cells_scaled : IsScaled rows states (record { weights = cells; total = total })
  cells_scaled = subst (λ cs. IsScaled rows states (record { weights = cs; total = total })) whole.0 (plain_scaled rows states total positive own_parts own_above whole.1 own_some own_each own_alone)

  pub cells_faultless : NoneNegative rows × NoZeroRow rows states (length rows / states)
  cells_faultless = (none_negative rows states total positive own_parts own_above whole.1 own_some own_each own_alone, no_zero_row rows states total positive own_parts own_above whole.1 own_some own_each own_alone)

  pub cells_table : IsTable cells (length rows / states) states total
  cells_table = is_table rows states positive own_parts (record { weights = cells; total = total }) cells_scaled

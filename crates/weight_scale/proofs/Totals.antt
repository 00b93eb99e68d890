-- Rows reduced one by one, and the least common multiple of their totals.
use Rattle.std.proofs.Common.{◌≡◌, ◌<◌, ◌≤◌, ◌+◌, ◌*◌, ◌/◌, ℕ, zero, suc, refl, sym, ap, ◌∙◌, arith, subst, below_more, List, [], ◌∷◌, ◌++◌, map, length, get_or, sum}
use Rattle.std.specs.Int.{◌∣◌}
use Rattle.std.proofs.Math.Numerals.{add-one}
use Rattle.std.proofs.Math.Nat.{one-dvd, pos_of_ne-zero, div-mul_cancel, zero-mul}
use Rattle.std.proofs.lemmas.Nat.Gcd.{dvd_trans, le_of_dvd}
use Rattle.std.proofs.lemmas.List.{length-map, length-append}
use Rattle.whole_num.specs.Divisors.{IsLcm}
use Rattle.maid_model.specs.Diagrams.{greatest_number}
use Rattle.weight_scale.specs.declared.decimal.Decimal.{Decimal}
use Rattle.weight_scale.specs.Scaling.{row_at, whole_number, raised_row, IsReducedRow, AreReducedRows, NoZeroRow, IsTooWide}
use Rattle.weight_scale.specs.Rows.{AppendsReduced, ReducesRows, IsWideRow}
use Rattle.weight_scale.proofs.Lists.{sum_nought, nought_sum}
use Rattle.weight_scale.proofs.Divisors.{greatest_exists, lcm_exists}
use Rattle.weight_scale.proofs.RowParts.{row_within, rows_whole, row_length, row_kept, row_added}
use Rattle.weight_scale.proofs.Shares.{reduced_same}

-- ---- one row
reduced_length : (row reduced : List ℕ) → IsReducedRow row reduced → length reduced ≡ length row
reduced_length row reduced is = ap length is.divided ∙ length-map row (λ x. x / is.divisor)

pub reduced_exists : (row : List ℕ) → (reduced : List ℕ) × IsReducedRow row reduced
reduced_exists row =
    let all = greatest_exists row in
    (map (λ x. x / all.0) row, record { divisor = all.0; greatest = all.1; divided = refl })

-- a row with a number above nought has a reduced one
pub reduced_positive : (row reduced : List ℕ) → IsReducedRow row reduced → 0 < sum row → 0 < sum reduced
reduced_positive row reduced is positive = pos_of_ne-zero (λ e. absurd (omega (arith, positive, none e)))
  where
    same : (xs : List ℕ) → map (λ x. x) xs ≡ xs
    same [] = refl
    same (x ∷ xs) = ap (λ l. x ∷ l) (same xs)

    whole : (x g : ℕ) → g ∣ x → x / g ≡ 0 → x ≡ 0
    whole x g d e = sym (div-mul_cancel g d) ∙ ap (λ n. n * g) e ∙ zero-mul g

    none : sum reduced ≡ 0 → sum row ≡ 0
    none e =
        let each = nought_sum (λ x. x / is.divisor) row (ap sum (sym is.divided) ∙ e) in
        ap sum (sym (same row)) ∙ sum_nought (λ x. x) row (λ k d l. whole (get_or row k d) is.divisor (is.greatest.divides k d l) (each k d l))

-- ---- row by row
module _ (rows : List Decimal) (states : ℕ) (states_positive : 0 < states) where
  abbrev count : ℕ
  count = length rows / states

  pub reduces_start : ReducesRows rows states 0 [] 1
  reduces_start = record {
    len = sym (zero-mul states);
    row = λ r l. absurd (omega (arith, l));
    common = record {
      positive = omega arith;
      multiple = λ r l. absurd (omega (arith, l));
      least = λ m _. one-dvd m;
    };
  }

  module _ (n : ℕ) (old new : List ℕ) (total added common : ℕ) (l : n < length rows / states) (so_far : ReducesRows rows states n old total) (appends : AppendsReduced (raised_row states rows n) old new added) (least : IsLcm total added common) (positive : 0 < common) where
    last_length : length appends.reduced ≡ states
    last_length = reduced_length (raised_row states rows n) appends.reduced appends.is_reduced ∙ length-map (row_at states rows n) (whole_number 30) ∙ row_length states rows n (row_within (length rows) states n l)

    kept : (r : ℕ) → r < n → row_at states new r ≡ row_at states old r
    kept r less = ap (λ xs. row_at states xs r) appends.appends.appended ∙ row_kept states n old appends.reduced r so_far.len less

    last : row_at states new n ≡ appends.reduced
    last = ap (λ xs. row_at states xs n) appends.appends.appended ∙ row_added states n old appends.reduced so_far.len last_length

    last_total : sum (row_at states new n) ≡ added
    last_total = ap sum last ∙ sym appends.appends.total_is

    grown : length new ≡ (n + 1) * states
    grown = ap length appends.appends.appended ∙ length-append old appends.reduced ∙ add so_far.len last_length
      where
        add : length old ≡ n * states → length appends.reduced ≡ states → length old + length appends.reduced ≡ (n + 1) * states
        add a b = omega (arith, a, b)

    pub reduces_step : ReducesRows rows states (n + 1) new common
    reduces_step = record {
      len = grown;
      row = below_more (λ r. IsReducedRow (raised_row states rows r) (row_at states new r)) n
          (λ r less. subst (IsReducedRow (raised_row states rows r)) (sym (kept r less)) (so_far.row r less))
          (subst (IsReducedRow (raised_row states rows n)) (sym last) appends.is_reduced);
      common = record {
        positive = positive;
        multiple = below_more (λ r. sum (row_at states new r) ∣ common) n
            (λ r less. subst (λ xs. sum xs ∣ common) (sym (kept r less)) (dvd_trans (sum (row_at states old r)) (so_far.common.multiple r less) least.0))
            (subst (λ t. t ∣ common) (sym last_total) least.1);
        least = λ m all. least.2 m
            (so_far.common.least m (λ r less. subst (λ xs. sum xs ∣ m) (kept r less) (all r (omega (arith, less)))))
            (subst (λ t. t ∣ m) last_total (all n (omega arith)));
      };
    }

  pub added_positive : (n : ℕ) (old new : List ℕ) (added : ℕ) → NoZeroRow rows states count → n < count → AppendsReduced (raised_row states rows n) old new added → 0 < added
  added_positive n old new added positive l appends = rw appends.appends.total_is (reduced_positive (raised_row states rows n) appends.reduced appends.is_reduced (positive n l))

  -- the rows can be reduced, whatever comes of it
  module _ (positive : NoZeroRow rows states count) where
    pub reduces_exist : (n : ℕ) → n ≤ count → (reduced : List ℕ) × (total : ℕ) × ReducesRows rows states n reduced total
    reduces_exist zero le = ([], 1, reduces_start)
    reduces_exist (suc n) le = go (reduces_exist n (omega (arith, le)))
      where
        go : (reduced : List ℕ) × (total : ℕ) × ReducesRows rows states n reduced total → (reduced : List ℕ) × (total : ℕ) × ReducesRows rows states (suc n) reduced total
        go before =
            let row = reduced_exists (raised_row states rows n) in
            let row_positive : 0 < sum row.0 = reduced_positive (raised_row states rows n) row.0 row.1 (positive n le) in
            let both = lcm_exists before.1 (sum row.0) before.2.common.positive row_positive in
            let appends : AppendsReduced (raised_row states rows n) before.0 (before.0 ++ row.0) (sum row.0) = record { reduced = row.0; is_reduced = row.1; appends = record { appended = refl; total_is = refl } } in
            (before.0 ++ row.0, both.0, subst (λ k. ReducesRows rows states k (before.0 ++ row.0) both.0) (add-one n) (reduces_step n before.0 (before.0 ++ row.0) before.1 (sum row.0) both.0 le before.2 appends both.1 both.2))

    module _ (whole : states ∣ length rows) where
      -- all rows reduced
      pub all_reduced : (reduced : List ℕ) (total : ℕ) → ReducesRows rows states count reduced total → AreReducedRows rows states reduced
      all_reduced reduced total is = record { len = is.len ∙ rows_whole (length rows) states whole; row = is.row }

      pub too_wide : (reduced : List ℕ) (total : ℕ) → ReducesRows rows states count reduced total → greatest_number < total → IsTooWide rows states
      too_wide reduced total is wide = record { reduced = reduced; total = total; rows_reduced = all_reduced reduced total is; common = is.common; wide = wide }

      -- a row that adds up to too much makes the common total too great
      pub wide_by_row : (n : ℕ) → n < count → IsWideRow (raised_row states rows n) → IsTooWide rows states
      wide_by_row n l wide = go (reduces_exist count (omega arith))
        where
          go : (reduced : List ℕ) × (total : ℕ) × ReducesRows rows states count reduced total → IsTooWide rows states
          go all = too_wide all.0 all.1 all.2 (omega (arith, wide (row_at states all.0 n) (all.2.row n l), le_of_dvd all.2.common.positive (all.2.common.multiple n l)))

      -- so does a common multiple of the first rows' totals
      pub wide_by_totals : (n : ℕ) (old new : List ℕ) (total added common : ℕ) → n < count → ReducesRows rows states n old total → AppendsReduced (raised_row states rows n) old new added → IsLcm total added common → greatest_number < common → IsTooWide rows states
      wide_by_totals n old new total added common l so_far appends least wide = go (reduces_exist count (omega arith))
        where
          go : (reduced : List ℕ) × (total : ℕ) × ReducesRows rows states count reduced total → IsTooWide rows states
          go all = too_wide all.0 all.1 all.2 (omega (arith, wide, le_of_dvd all.2.common.positive (least.2 all.1 first last)))
            where
              first : total ∣ all.1
              first = so_far.common.least all.1 (λ r less. subst (λ xs. sum xs ∣ all.1) (reduced_same (raised_row states rows r) (row_at states all.0 r) (row_at states old r) (all.2.row r (omega (arith, less, l))) (so_far.row r less)) (all.2.common.multiple r (omega (arith, less, l))))

              last : added ∣ all.1
              last = subst (λ t. t ∣ all.1) (ap sum (reduced_same (raised_row states rows n) (row_at states all.0 n) appends.reduced (all.2.row n l) appends.is_reduced) ∙ sym appends.appends.total_is) (all.2.common.multiple n l)

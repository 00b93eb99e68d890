-- The printed weights of a chance table are its reduced rows, and scale to its cells.
use Rattle.std.proofs.Common.{◌≡◌, ◌∙◌, ℕ, ◌*◌, ◌/◌, ◌^◌, ◌<◌, ◌≤◌, ℤ, List, length, map, decimal, sym, ap, subst, arith, refl}
use Rattle.std.proofs.Math.Nat.{mul-div_cancel}
use Rattle.std.proofs.lemmas.List.{length-map}
use Rattle.maid_model.specs.Diagrams.{greatest_number}
use Rattle.maid_model.specs.Tables.{IsTable}
use Rattle.weight_scale.specs.Scaling.{row_at, whole_number, raised_row, IsReducedRow, AreReducedRows, IsCommonTotal, IsScaled}
use Rattle.weight_scale.specs.declared.decimal.Decimal.{Decimal}
use Rattle.net_build.specs.Building.{AreChanceCells}
use Rattle.net_build.specs.Scaling.{AreDecimals}
use Rattle.net_build.specs.Plain.{reduced_rows}
use Rattle.net_print.proofs.ReducedRows.{row_map, row_shares_none, row_weights, all_small, reduced_len}
use Rattle.net_print.proofs.RowDivisors.{raised_reduced}
use Rattle.net_print.proofs.ValueTexts.{tens_positive}
use Rattle.net_print.proofs.WeightTexts.{decimals_of, AreSmall, are_decimals, raised_are, none_below}

module _ (cells : List ℤ) (rows states total : ℕ) (table : IsTable cells rows states total) (positive : 0 < total) (small : total ≤ greatest_number) (some : 0 < states) where
  abbrev Reduced : List ℕ
  Reduced = reduced_rows states rows cells

  pub numbers_small : AreSmall Reduced
  numbers_small k d l = let below = all_small cells rows states total table positive k d l in omega (arith, below, small)

  module _ (ds : List Decimal) (are : AreDecimals (map decimal Reduced) ds) where
    pub decimals_len : length ds ≡ rows * states
    decimals_len = are.len ∙ length-map Reduced decimal ∙ reduced_len cells rows states total table positive

    pub rows_counted : length ds / states ≡ rows
    rows_counted = ap (λ n. n / states) decimals_len ∙ mul-div_cancel rows some

    -- Reduced once more, a reduced row is itself.
    pub row_reduced : (r : ℕ) → r < rows → IsReducedRow (raised_row states ds r) (row_at states Reduced r)
    row_reduced r l = subst (λ row. IsReducedRow row (row_at states Reduced r)) (sym again) (raised_reduced (row_at states Reduced r) (10 ^ 30) (tens_positive 30) (row_shares_none cells rows states total table positive r l))
      where
        again : raised_row states ds r ≡ map (λ n. n * 10 ^ 30) (row_at states Reduced r)
        again = sym (row_map (whole_number 30) states ds r) ∙ ap (λ ns. row_at states ns r) (raised_are Reduced ds numbers_small are) ∙ row_map (λ n. n * 10 ^ 30) states Reduced r

    pub rows_reduced : AreReducedRows ds states Reduced
    rows_reduced = record {
      len = sym (length-map Reduced decimal) ∙ sym are.len;
      row = λ r l. row_reduced r (subst (λ n. r < n) rows_counted l);
    }

  -- The printed weights scale to the cells.
  pub weights_scaled : IsCommonTotal Reduced states rows total → (ds : List Decimal) → AreDecimals (map decimal Reduced) ds → IsScaled ds states (record { weights = cells; total = total })
  weights_scaled common ds are = record {
    none_negative = none_below Reduced ds numbers_small are;
    reduced = Reduced;
    rows_reduced = rows_reduced ds are;
    common = subst (λ n. IsCommonTotal Reduced states n total) (sym (rows_counted ds are)) common;
    small = small;
    len = table.len ∙ sym (decimals_len ds are);
    row = λ r l. sym (row_weights cells rows states total table positive r (subst (λ n. r < n) (rows_counted ds are) l));
  }

  -- The printed numerals stand for the cells.
  pub chance_cells : IsCommonTotal Reduced states rows total → AreChanceCells states (map decimal Reduced) cells
  chance_cells common =
      let are = are_decimals Reduced numbers_small in
      (decimals_of Reduced, record { weights = cells; total = total }, are, weights_scaled common (decimals_of Reduced) are, refl)

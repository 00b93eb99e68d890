-- A numeral that is not too long has a decimal, and the rows of a table whose numbers and totals
-- the rows before allow are scaled or too wide.
use Rattle.std.proofs.Common.{◌≡◌, ◌⊎◌, inl, inr, ◌<◌, ◌*◌, ◌/◌, ℕ, zero, suc, ℤ, pos, negsuc, ◌≤ℤ◌, ◌<ℤ◌, List, [], ◌∷◌, All, length, get_or, map, sum, None, refl, sym, subst, ◌∙◌, arith}
use Rattle.std.specs.Int.{◌∣◌}
use Rattle.std.proofs.Math.Nat.{div-zero, dvd-mul_left}
use Rattle.std.proofs.lemmas.Int.{ints}
use Rattle.std.proofs.lemmas.List.{length-map}
use Rattle.std.proofs.lemmas.Nat.Gcd.{le_of_dvd}
use Rattle.maid_model.specs.declared.diagrams.Kind.TheVariants.{Chance}
use Rattle.net_lexer.specs.Token.{token_bytes}
use Rattle.net_lexer.specs.declared.tokens.Token.{Token}
use Rattle.weight_scale.specs.declared.decimal.Decimal.{Decimal}
use Rattle.weight_scale.specs.Laws.{DecimalOrNone, ScaledOrTooWide, ScaledIsTable}
use Rattle.weight_scale.specs.Numeral.{numerator, denominator, IsLeastDecimalOf}
use Rattle.weight_scale.specs.Scaling.{row_at, raised_row, NoneNegative, NoZeroRow, IsScaled, IsTooWide}
use Rattle.weight_scale.specs.Views.{ScaledView}
use Rattle.maid_model.specs.Tables.{IsTable}
use Rattle.first_fault.specs.Passes.{each}
use Rattle.net_build.specs.Blocks.{no_token}
use Rattle.net_build.specs.Building.{AreChanceCells}
use Rattle.net_build.specs.Scaling.{AreDecimals, decimal_at}
use Rattle.net_build.specs.Stages.{FitsTable}
use Rattle.net_build.specs.Table.{IsNumberTooLong, length_row, sign_row, total_row, rows_by, IsWideTotal}
use Rattle.net_build.proofs.DecimalLemmas.{are_none}
use Rattle.net_build.proofs.NodeFacts.{each_all}
use Rattle.net_build.proofs.ScaleLemmas.{decimal_of}
use Rattle.net_build.proofs.WeightLemmas.{written, written_row, negative_number, row_of_noughts, not_wide}
use Rattle.net_build.proofs.WeightPasses.{rows_are, sign_at, row_here, rows_len, row_some}

-- ---- the decimals of numerals
pub dec_too_long : DecimalOrNone → (numeral : List ℕ) → Dec (IsNumberTooLong numeral)
dec_too_long decides numeral = go (decides numeral) where
  go : ((d : Decimal) × IsLeastDecimalOf (numerator numeral) (denominator numeral) d) ⊎ IsNumberTooLong numeral → Dec (IsNumberTooLong numeral)
  go (inl (d, is)) = no (λ long. long d is.value)
  go (inr long) = yes long

pub decimal_exists : DecimalOrNone → (numeral : List ℕ) → (IsNumberTooLong numeral → ⊥) → (d : Decimal) × IsLeastDecimalOf (numerator numeral) (denominator numeral) d
decimal_exists decides numeral short = go (decides numeral) where
  go : ((d : Decimal) × IsLeastDecimalOf (numerator numeral) (denominator numeral) d) ⊎ IsNumberTooLong numeral → (d : Decimal) × IsLeastDecimalOf (numerator numeral) (denominator numeral) d
  go (inl found) = found
  go (inr long) = absurd (short long)

are_first : (numeral : List ℕ) (numerals : List (List ℕ)) (d : Decimal) (ds : List Decimal) → IsLeastDecimalOf (numerator numeral) (denominator numeral) d → AreDecimals numerals ds → AreDecimals (numeral ∷ numerals) (d ∷ ds)
are_first numeral numerals d ds is are = record { len = omega (arith, are.len); each = each_one } where
  each_one : (i : ℕ) → i < length (numeral ∷ numerals) → IsLeastDecimalOf (numerator (get_or (numeral ∷ numerals) i [])) (denominator (get_or (numeral ∷ numerals) i [])) (decimal_at (d ∷ ds) i)
  each_one zero h = is
  each_one (suc i) h = are.each i (omega arith)

-- numbers that are not too long have decimals
pub decimals_exist : DecimalOrNone → (text : List ℕ) (ts : List Token) → each (length_row text) ts None → (ds : List Decimal) × AreDecimals (map (token_bytes text) ts) ds
decimals_exist decides text [] short = ([], are_none)
decimals_exist decides text (t ∷ ts) short =
    let first = decimal_exists decides (token_bytes text t) short.0 in
    let rest = decimals_exist decides text ts short.1 in
    (first.0 ∷ rest.0, are_first (token_bytes text t) (map (token_bytes text) ts) first.0 rest.0 first.1 rest.1)

-- ---- what the rows of signs and totals say of the decimals
pub dec_negative : (x : ℤ) → Dec (x <ℤ pos 0)
dec_negative (pos n) = no (λ h. omega (arith, ints, h))
dec_negative (negsuc n) = yes (omega (arith, ints))

above : (x : ℤ) → (x <ℤ pos 0 → ⊥) → pos 0 ≤ℤ x
above (pos n) h = omega (arith, ints)
above (negsuc n) h = absurd (h (omega (arith, ints)))

positive : (n : ℕ) → (n ≡ 0 → ⊥) → 0 < n
positive zero h = absurd (h refl)
positive (suc n) h = omega arith

not_nought : (text : List ℕ) (row : List Token) → 0 < length row → total_row text row None → All (λ t. numerator (token_bytes text t) ≡ pos 0) row → ⊥
not_nought text [] some h all = omega (arith, some)
not_nought text (t ∷ ts) some h all = h all

module _ (text : List ℕ) (states rows : ℕ) (ts : List Token) (ds : List Decimal) (some : 0 < states) (len : length ts ≡ rows * states) (are : AreDecimals (map (token_bytes text) ts) ds) where
  lens : length ds ≡ length ts
  lens = are.len ∙ length-map ts (token_bytes text)

  count : rows ≡ length ds / states
  count = rows_are rows states (length ds) (length ts) some len lens

  pub whole : states ∣ length ds
  whole = subst (λ n. states ∣ n) (sym (lens ∙ len)) (dvd-mul_left states rows)

  module _ (signs : each (sign_row text) ts None) (totals : each (total_row text) (rows_by states ts rows) None) where
    none_negative : NoneNegative ds
    none_negative i l =
        let within : i < length ts = omega (arith, l, lens) in
        let below = negative_number (token_bytes text (get_or ts i no_token)) (decimal_at ds i) (decimal_of text ts ds i no_token are within) in
        subst (λ x. pos 0 ≤ℤ x) (sym (sign_at text states rows 0 ts ds some len count are i within)) (above (decimal_at ds i).m (λ h. each_all (sign_row text) ts signs i no_token within (below h)))

    no_zero_row : NoZeroRow ds states (length ds / states)
    no_zero_row r l =
        let within : r < rows = omega (arith, l, count) in
        let here : total_row text (row_at states ts r) None = subst (λ (row : List Token). total_row text row None) (row_here text states rows 0 ts ds some len count are r within)
        (each_all (total_row text) (rows_by states ts rows) totals r [] (omega (arith, within, rows_len text states rows 0 ts ds some len count are))) in
        let noughts = row_of_noughts text (row_at states ts r) (row_at states ds r) (written_row text states r ts ds (written text ts ds are)) in
        positive (sum (raised_row states ds r)) (λ e. not_nought text (row_at states ts r) (row_some text states rows 0 ts ds some len count are r within) here (noughts e))

    told : ((scaled : ScaledView) × IsScaled ds states scaled) ⊎ IsTooWide ds states → Dec (IsWideTotal text states ts)
    told (inl (scaled, is)) = no (λ (es, also, wide). not_wide text states ts ds es scaled (written text ts ds are) (written text ts es also) is wide)
    told (inr wide) = yes (ds, are, wide)

    made : ScaledIsTable → (IsWideTotal text states ts → ⊥) → ((scaled : ScaledView) × IsScaled ds states scaled) ⊎ IsTooWide ds states → (cells : List ℤ) × AreChanceCells states (map (token_bytes text) ts) cells × FitsTable Chance rows states cells
    made table narrow (inl (scaled, is)) = (
      scaled.weights,
      (ds, scaled, are, is, refl),
      (scaled.total, is.common.positive, is.small, subst (λ (n : ℕ). IsTable scaled.weights n states scaled.total) (sym count) (table ds states scaled some whole is)),
    )
    made table narrow (inr wide) = absurd (narrow (ds, are, wide))

    module _ (scales : ScaledOrTooWide) where
      pub wide_told : Dec (IsWideTotal text states ts)
      wide_told = told (scales ds states some whole none_negative no_zero_row)

      -- where they are not too wide they are the cells of a table
      pub chance_cells : ScaledIsTable → (IsWideTotal text states ts → ⊥) → (cells : List ℤ) × AreChanceCells states (map (token_bytes text) ts) cells × FitsTable Chance rows states cells
      chance_cells table narrow = made table narrow (scales ds states some whole none_negative no_zero_row)

-- without states there are no rows, and the common total is 1
no_rows : (ds : List Decimal) → IsTooWide ds 0 → ⊥
no_rows ds wide =
    let one = wide.common.least 1 (λ r l. absurd (omega (arith, l, div-zero (length ds)))) in
    omega (arith, le_of_dvd (omega arith) one, wide.wide)

pub dec_wide : ScaledOrTooWide → (text : List ℕ) (states rows : ℕ) (ts : List Token) (ds : List Decimal) → length ts ≡ rows * states → AreDecimals (map (token_bytes text) ts) ds → each (sign_row text) ts None → each (total_row text) (rows_by states ts rows) None → Dec (IsWideTotal text states ts)
dec_wide scales text zero rows ts ds len are signs totals = no (λ (es, also, wide). no_rows es wide)
dec_wide scales text (suc s) rows ts ds len are signs totals = wide_told text (suc s) rows ts ds (omega arith) len are signs totals scales

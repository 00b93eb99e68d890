-- The printed weights of a chance table have no fault.
use Rattle.std.proofs.Common.{◌≡◌, ◌∙◌, ℕ, ◌*◌, ◌/◌, ◌<◌, ◌≤◌, ℤ, pos, ◌<ℤ◌, List, [], ◌∷◌, All, None, length, map, get_or, drop, sum, decimal, sym, ap, subst, arith, refl}
use Rattle.std.specs.Int.{◌∣◌}
use Rattle.std.specs.List.{range_with_len}
use Rattle.std.proofs.lemmas.Int.{ints}
use Rattle.std.proofs.lemmas.List.{get_or-map, length-map, get_or_default}
use Rattle.std.proofs.lemmas.List.Elements.{All-map, All-head, All-tail, All-take, All-drop}
use Rattle.std.proofs.lemmas.List.Sums.{sum_by-cons}
use Rattle.std.proofs.lemmas.Nat.Gcd.{le_of_dvd}
use Rattle.maid_model.specs.Diagrams.{greatest_number}
use Rattle.maid_model.specs.Tables.{IsTable}
use Rattle.net_lexer.specs.Token.{token_bytes}
use Rattle.net_lexer.specs.declared.tokens.Token.{Token}
use Rattle.net_parser.specs.Owned.{leaves}
use Rattle.net_parser.specs.Trees.{AttributeTree}
use Rattle.weight_scale.specs.Numeral.{numerator}
use Rattle.weight_scale.specs.Scaling.{row_at, raised_row, IsTooWide}
use Rattle.weight_scale.specs.declared.decimal.Decimal.{Decimal}
use Rattle.net_build.specs.Blocks.{no_token}
use Rattle.first_fault.specs.Passes.{each}
use Rattle.net_build.specs.Scaling.{AreDecimals}
use Rattle.net_build.specs.Table.{length_row, sign_row, total_row, rows_by, IsNumberTooLong, IsWideTotal, weight_part}
use Rattle.net_build.specs.Plain.{reduced_rows}
use Rattle.net_print.proofs.DigitValues.{decimal_read}
use Rattle.net_print.proofs.Faultless.{each_clear}
use Rattle.net_print.proofs.ReducedRows.{row_map, row_sum_divides, row_sum_positive}
use Rattle.net_print.proofs.RowDivisors.{reduced_same}
use Rattle.net_print.proofs.Texts.{numbers_below}
use Rattle.net_print.proofs.WeightScale.{numbers_small, row_reduced, rows_counted}
use Rattle.net_print.proofs.ValueLimits.{small_enough}
use Rattle.net_print.proofs.WeightTexts.{AreSmall, decimal_of, least_of_text}

-- a sum of noughts
sum_nought : (ns : List ℕ) → All (λ n. n ≡ 0) ns → sum ns ≡ 0
sum_nought [] all = refl
sum_nought (n ∷ ns) all = sum_by-cons (λ x. x) n ns ∙ omega (arith, All-head (λ x. x ≡ 0) n ns all, sum_nought ns (All-tail (λ x. x ≡ 0) n ns all))

-- ---- tokens that are written numbers
module _ (text : List ℕ) (tokens : List Token) (ns : List ℕ) (same : map (token_bytes text) tokens ≡ map decimal ns) (small : AreSmall ns) where
  count : length tokens ≡ length ns
  count = sym (length-map tokens (token_bytes text)) ∙ ap length same ∙ length-map ns decimal

  bytes_at : (k : ℕ) (d : Token) → k < length tokens → token_bytes text (get_or tokens k d) ≡ decimal (get_or ns k 0)
  bytes_at k d l = sym (get_or-map (token_bytes text) tokens k d [] l) ∙ ap (λ xs. get_or xs k []) same ∙ get_or-map decimal ns k 0 [] (subst (λ n. k < n) count l)

  small_at : (k : ℕ) → k < length tokens → get_or ns k 0 ≤ greatest_number
  small_at k l = small k 0 (subst (λ n. k < n) count l)

  numerator_at : (k : ℕ) (d : Token) → k < length tokens → numerator (token_bytes text (get_or tokens k d)) ≡ pos (get_or ns k 0)
  numerator_at k d l = ap numerator (bytes_at k d l) ∙ (decimal_read (get_or ns k 0) (small_enough (get_or ns k 0) (small_at k l))).0

  -- none is too long
  pub lengths_clear : each (length_row text) tokens None
  lengths_clear = each_clear (length_row text) tokens (λ k d l. not_long k d l)
    where
      not_long : (k : ℕ) (d : Token) → k < length tokens → IsNumberTooLong (token_bytes text (get_or tokens k d)) → ⊥
      not_long k d l none = none (decimal_of (get_or ns k 0)) (least_of_text (token_bytes text (get_or tokens k d)) (get_or ns k 0) (decimal_of (get_or ns k 0)) (small_at k l) (bytes_at k d l) refl).value

  -- none is below nought
  pub signs_clear : each (sign_row text) tokens None
  signs_clear = each_clear (sign_row text) tokens (λ k d l. not_below (numerator (token_bytes text (get_or tokens k d))) (get_or ns k 0) (numerator_at k d l))
    where
      not_below : (z : ℤ) (n : ℕ) → z ≡ pos n → z <ℤ pos 0 → ⊥
      not_below z n e l = omega (arith, ints)

  -- in a row that adds up to more than nought not all are nought
  not_all_nought : 0 < sum ns → All (λ t. numerator (token_bytes text t) ≡ pos 0) tokens → ⊥
  not_all_nought positive all = absurd (omega (arith, positive, sum_nought ns each_nought))
    where
      number : (n : ℕ) → pos n ≡ pos 0 → n ≡ 0
      number n e = omega (arith, ints)

      each_nought : All (λ n. n ≡ 0) ns
      each_nought k d l =
          let within : k < length tokens = subst (λ n. k < n) (sym count) l in
          get_or_default ns k d 0 l ∙ number (get_or ns k 0) (sym (numerator_at k no_token within) ∙ all k no_token within)

-- one row of tokens
total_clear : (text : List ℕ) (tokens : List Token) (ns : List ℕ) → map (token_bytes text) tokens ≡ map decimal ns → AreSmall ns → 0 < sum ns → total_row text tokens None
total_clear text [] ns same small positive = tt
total_clear text (t ∷ tokens) ns same small positive = not_all_nought text (t ∷ tokens) ns same small positive

-- ---- the tokens of a chance table
module _ (cells : List ℤ) (rows states total : ℕ) (table : IsTable cells rows states total) (positive : 0 < total) (small : total ≤ greatest_number) (some : 0 < states) (text : List ℕ) (tokens : List Token) (same : map (token_bytes text) tokens ≡ map decimal (reduced_rows states rows cells)) where
  abbrev Reduced : List ℕ
  Reduced = reduced_rows states rows cells

  are_small : AreSmall Reduced
  are_small = numbers_small cells rows states total table positive small some

  pub chance_lengths_clear : each (length_row text) tokens None
  chance_lengths_clear = lengths_clear text tokens Reduced same are_small

  pub chance_signs_clear : each (sign_row text) tokens None
  chance_signs_clear = signs_clear text tokens Reduced same are_small

  -- no row adds up to nought
  pub chance_totals_clear : each (total_row text) (rows_by states tokens rows) None
  chance_totals_clear = each_clear (total_row text) (rows_by states tokens rows) (All-map (λ xs. total_row text xs None) (λ r. row_at states tokens r) (range_with_len 0 rows) (λ k d l. one (get_or (range_with_len 0 rows) k d) (numbers_below rows k d l)))
    where
      one : (r : ℕ) → r < rows → total_row text (row_at states tokens r) None
      one r l = total_clear text (row_at states tokens r) (row_at states Reduced r)
          (sym (row_map (token_bytes text) states tokens r) ∙ ap (λ xs. row_at states xs r) same ∙ row_map decimal states Reduced r)
          (All-take (λ n. n ≤ greatest_number) states (drop (r * states) Reduced) (All-drop (λ n. n ≤ greatest_number) (r * states) Reduced are_small))
          (row_sum_positive cells rows states total table positive r l)

  -- whatever the decimals and the reduced rows are, their common total divides this one
  pub total_not_wide : IsWideTotal text states tokens → ⊥
  total_not_wide wide = too_wide wide.0 (subst (λ xs. AreDecimals xs wide.0) same wide.1) wide.2
    where
      too_wide : (ds : List Decimal) → AreDecimals (map decimal Reduced) ds → IsTooWide ds states → ⊥
      too_wide ds are is = absurd (omega (arith, small, is.wide, le_of_dvd positive (is.common.least total each_divides)))
        where
          each_divides : (r : ℕ) → r < length ds / states → sum (row_at states is.reduced r) ∣ total
          each_divides r l =
              let here : r < rows = subst (λ n. r < n) (rows_counted cells rows states total table positive small some ds are) l in
              let one = reduced_same (raised_row states ds r) (row_at states is.reduced r) (row_at states Reduced r) (is.rows_reduced.row r l) (row_reduced cells rows states total table positive small some ds are r here) in
              subst (λ xs. sum xs ∣ total) (sym one) (row_sum_divides cells rows states total table positive r here)

  -- The printed weights have no fault.
  pub weights_clear : (attribute : AttributeTree) → leaves attribute.value ≡ tokens → weight_part text states rows attribute.name.start (leaves attribute.value) None
  weights_clear attribute e = (
    subst (λ xs. each (sign_row text) xs None) (sym e) chance_signs_clear,
    (
      subst (λ xs. each (total_row text) (rows_by states xs rows) None) (sym e) chance_totals_clear,
      subst (λ xs. IsWideTotal text states xs → ⊥) (sym e) total_not_wide,
    ),
  )

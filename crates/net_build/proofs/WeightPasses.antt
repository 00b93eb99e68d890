-- The rows of a chance table find what its scaling says.
use Rattle.std.proofs.Common.{◌≡◌, ◌<◌, ◌≤◌, ◌+◌, ◌*◌, ◌/◌, ℕ, suc, pos, ◌<ℤ◌, ◌≤ℤ◌, List, [], ◌∷◌, inl, inr, All, length, get_or, map, drop, sum, None, Some, refl, sym, ap, subst, ◌∙◌, arith, length-drop}
use Rattle.std.specs.List.{range_with_len}
use Rattle.std.proofs.Math.Nat.{mul-le-mul_right, mul-div_cancel}
use Rattle.std.proofs.lemmas.List.{get_or-map, get_or-take, get_or-drop, length-map, length-take-le}
use Rattle.std.proofs.lemmas.List.FromFn.{get_or-range_with_len, length-range_with_len}
use Rattle.net_lexer.specs.Token.{token_bytes}
use Rattle.net_lexer.specs.declared.tokens.Token.{Token}
use Rattle.weight_scale.specs.declared.decimal.Decimal.{Decimal}
use Rattle.weight_scale.specs.Numeral.{numerator}
use Rattle.weight_scale.specs.Scaling.{row_at, raised_row, number_at, NoneNegative, NoZeroRow, IsFirstNegative, IsFirstZeroRow, IsScaled, IsTooWide}
use Rattle.weight_scale.specs.Views.{ScaledView}
use Rattle.net_build.specs.declared.faults.BuildFault.{BuildFault}
use Rattle.net_build.specs.declared.faults.BuildFault.TheVariants.{Fault}
use Rattle.net_build.specs.declared.faults.BuildKind.TheVariants as kinds
use Rattle.net_build.specs.Blocks.{no_token}
use Rattle.first_fault.specs.Passes.{each}
use Rattle.first_fault.specs.Answers.{IsFaultOrNoMemory}
use Rattle.net_build.specs.Passes.{found, Negative, ZeroRow, build_fault}
use Rattle.net_build.specs.Scaling.{AreDecimals, decimal_at}
use Rattle.net_build.specs.Table.{sign_row, total_row, rows_by}
use Rattle.net_build.specs.TableParts.{weight_part}
use Rattle.net_build.specs.Zero.{nought}
use Rattle.first_fault.proofs.Items.{each_all, each_first}
use Rattle.net_build.proofs.ScaleLemmas.{decimal_of}
use Rattle.net_build.proofs.WeightLemmas.{written, written_row, negative_number, negative_decimal, not_below, row_of_noughts, noughts_in_row, not_wide}

total_clear : (text : List ℕ) (row : List Token) → (All (λ t. numerator (token_bytes text t) ≡ pos 0) row → ⊥) → total_row text row None
total_clear text [] h = tt
total_clear text (t ∷ ts) h = h

total_found : (text : List ℕ) (row : List Token) (t : Token) → 0 < length row → get_or row 0 no_token ≡ t → All (λ u. numerator (token_bytes text u) ≡ pos 0) row → total_row text row (Some (found t.start ZeroRow))
total_found text [] t some same all = absurd (omega arith)
total_found text (x ∷ xs) t some same all = (all, ap (λ (u : Token). found u.start ZeroRow) (sym same))

no_total : (n : ℕ) → 0 < n → n ≡ 0 → ⊥
no_total n h e = omega arith

module _ (text : List ℕ) (states rows at : ℕ) (ts : List Token) (ds : List Decimal) (some : 0 < states) (len : length ts ≡ rows * states) (count : rows ≡ length ds / states) (are : AreDecimals (map (token_bytes text) ts) ds) where
  pub same_len : length ds ≡ length ts
  same_len = are.len ∙ length-map ts (token_bytes text)

  pub sign_at : (i : ℕ) → i < length ts → number_at ds i ≡ (decimal_at ds i).m
  sign_at i h = get_or-map (λ (d : Decimal). d.m) ds i nought (pos 0) (omega (arith, same_len))

  not_negative : NoneNegative ds → (k : ℕ) → k < length ts → numerator (token_bytes text (get_or ts k no_token)) <ℤ pos 0 → ⊥
  not_negative h k within below = not_below (decimal_at ds k).m (subst (λ x. pos 0 ≤ℤ x) (sign_at k within) (h k (omega (arith, same_len)))) (negative_decimal (token_bytes text (get_or ts k no_token)) (decimal_at ds k) (decimal_of text ts ds k no_token are within) below)

  signs_clear : NoneNegative ds → each (sign_row text) ts None
  signs_clear h = each_all (sign_row text) ts no_token (not_negative h)

  signs_found : (place : ℕ) → IsFirstNegative ds place → each (sign_row text) ts (Some (found (get_or ts place no_token).start Negative))
  signs_found place h =
      let within : place < length ts = omega (arith, same_len, h.within) in
      each_first (sign_row text) ts no_token place _ within
      (λ k l below. not_below (decimal_at ds k).m (subst (λ x. pos 0 ≤ℤ x) (sign_at k (omega arith)) (h.first k l)) (negative_decimal (token_bytes text (get_or ts k no_token)) (decimal_at ds k) (decimal_of text ts ds k no_token are (omega arith)) below))
      (negative_number (token_bytes text (get_or ts place no_token)) (decimal_at ds place) (decimal_of text ts ds place no_token are within) (subst (λ x. x <ℤ pos 0) (sign_at place within) h.negative), refl)

  pub row_here : (r : ℕ) → r < rows → get_or (rows_by states ts rows) r [] ≡ row_at states ts r
  row_here r h = get_or-map (λ n. row_at states ts n) (range_with_len 0 rows) r 0 [] (omega (arith, length-range_with_len 0 rows)) ∙ ap (λ n. row_at states ts n) (get_or-range_with_len 0 rows r 0 h ∙ plain r)
    where
      plain : (n : ℕ) → 0 + n ≡ n
      plain n = omega arith

  pub rows_len : length (rows_by states ts rows) ≡ rows
  rows_len = length-map (range_with_len 0 rows) (λ n. row_at states ts n) ∙ length-range_with_len 0 rows

  end_of : (r : ℕ) → r < rows → r * states + states ≤ length ts
  end_of r h = omega (arith, len, mul-le-mul_right {m = suc r} {n = rows} states h)

  pub row_some : (r : ℕ) → r < rows → 0 < length (row_at states ts r)
  row_some r h = omega (arith, length-take-le states (drop (r * states) ts) (omega (arith, length-drop (r * states) ts, end_of r h)))

  row_head : (r : ℕ) → r < rows → get_or (row_at states ts r) 0 no_token ≡ get_or ts (r * states) no_token
  row_head r h = get_or-take states (drop (r * states) ts) 0 no_token some ∙ get_or-drop (r * states) ts 0 no_token ∙ ap (λ n. get_or ts n no_token) (plain (r * states))
    where
      plain : (n : ℕ) → n + 0 ≡ n
      plain n = omega arith

  total_none : (r : ℕ) → r < rows → 0 < sum (raised_row states ds r) → total_row text (get_or (rows_by states ts rows) r []) None
  total_none r h positive = rw (row_here r h) (total_clear text (row_at states ts r) (λ all. no_total (sum (raised_row states ds r)) positive (noughts_in_row text (row_at states ts r) (row_at states ds r) (written_row text states r ts ds (written text ts ds are)) all)))

  totals_clear : NoZeroRow ds states (length ds / states) → each (total_row text) (rows_by states ts rows) None
  totals_clear h = each_all (total_row text) (rows_by states ts rows) [] (λ r within. total_none r (omega (arith, rows_len)) (h r (omega (arith, rows_len, count))))

  totals_found : (row : ℕ) → IsFirstZeroRow ds states row → each (total_row text) (rows_by states ts rows) (Some (found (get_or ts (row * states) no_token).start ZeroRow))
  totals_found row h =
      let within : row < rows = omega (arith, count, h.within) in
      each_first (total_row text) (rows_by states ts rows) [] row _ (omega (arith, rows_len))
      (λ r l. total_none r (omega arith) (h.first r l))
      (rw (row_here row within) (total_found text (row_at states ts row) (get_or ts (row * states) no_token) (row_some row within) (row_head row within)
      (row_of_noughts text (row_at states ts row) (row_at states ds row) (written_row text states row ts ds (written text ts ds are)) h.zero_row)))

  -- the scaling's faults are those of the rows
  pub weight_negative : (place : ℕ) (fault : BuildFault) → IsFirstNegative ds place → fault ≡ Fault (get_or ts place no_token).start kinds.Negative → IsFaultOrNoMemory build_fault (weight_part text states rows at ts) fault
  weight_negative place fault h what = rw what (inl (signs_found place h))

  pub weight_zero : (row : ℕ) (fault : BuildFault) → NoneNegative ds → IsFirstZeroRow ds states row → fault ≡ Fault (get_or ts (row * states) no_token).start kinds.ZeroRow → IsFaultOrNoMemory build_fault (weight_part text states rows at ts) fault
  weight_zero row fault signs h what = rw what (inr (signs_clear signs, inl (totals_found row h)))

  pub weight_wide : (fault : BuildFault) → NoneNegative ds → NoZeroRow ds states (length ds / states) → IsTooWide ds states → fault ≡ Fault at kinds.WideWeight → IsFaultOrNoMemory build_fault (weight_part text states rows at ts) fault
  weight_wide fault signs totals wide what = rw what (inr (signs_clear signs, inr (totals_clear totals, ((ds, are, wide), refl))))

  pub weight_clear : (scaled : ScaledView) → NoneNegative ds → NoZeroRow ds states (length ds / states) → IsScaled ds states scaled → weight_part text states rows at ts None
  weight_clear scaled signs totals is = (signs_clear signs, (totals_clear totals, λ wide. not_wide text states ts ds wide.0 scaled (written text ts ds are) (written text ts wide.0 wide.1) is wide.2))

pub rows_are : (rows states n m : ℕ) → 0 < states → m ≡ rows * states → n ≡ m → rows ≡ n / states
rows_are rows states n m some len same = sym (mul-div_cancel rows {n = states} some) ∙ ap (λ x. x / states) (sym (same ∙ len))

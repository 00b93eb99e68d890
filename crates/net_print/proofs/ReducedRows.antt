-- The reduced rows of a chance table, one by one: where each stands, what it adds up to, and that
-- it scales back to its cells.
use Rattle.std.proofs.Common.{◌≡◌, ◌<◌, ◌≤◌, ◌+◌, ◌*◌, ⊎_elim, ℕ, zero, suc, ℤ, pos, ◌≤ℤ◌, unsigned_abs, refl, sym, ap, ◌∙◌, arith, subst, List, [], ◌∷◌, ◌++◌, All, map, length, take, drop, sum}
use Rattle.std.specs.Int.{◌∣◌}
use Rattle.std.proofs.Math.Seq.{drop-append_seam}
use Rattle.std.proofs.lemmas.Bool.{cases_lt}
use Rattle.std.proofs.lemmas.Int.{ints}
use Rattle.std.proofs.lemmas.List.{take-append-le, drop-append-le, take_all, length-drop, length-map, take-map, drop-map}
use Rattle.std.proofs.lemmas.List.Elements.{All-nil, All-head, All-tail, All-append, All-take, All-drop, All-from_get_or}
use Rattle.std.proofs.lemmas.List.Sums.{get_or-le-sum_by}
use Rattle.std.proofs.lemmas.Nat.Gcd.{le_of_dvd}
use Rattle.maid_model.specs.Tables.{IsTable}
use Rattle.weight_scale.specs.Scaling.{row_at, multiplied_row}
use Rattle.net_build.specs.Plain.{reduced_row, reduced_rows}
use Rattle.net_print.proofs.Steps.{lines_more}
use Rattle.net_print.proofs.Rows.{row_within, length-row, length-rows, size_of, sum_cells}
use Rattle.net_print.proofs.RowDivisors.{SharesNone, reduced_shares_none, reduced_sum_divides, reduced_positive, weights_back}

-- the rows of a mapped list
pub row_map : {X Y : Type 0} (f : X → Y) (states : ℕ) (xs : List X) (r : ℕ) → row_at states (map f xs) r ≡ map f (row_at states xs r)
row_map f states xs r = ap (take states) (drop-map f (r * states) xs) ∙ take-map f states (drop (r * states) xs)

module _ {X : Type 0} where
  -- the rows before the one that is added
  row_kept : (states n : ℕ) (old new : List X) (r : ℕ) → length old ≡ n * states → r < n → row_at states (old ++ new) r ≡ row_at states old r
  row_kept states n old new r len l =
      ap (take states) (drop-append-le (r * states) old new (omega (arith, row_within r n states l, len)))
      ∙ take-append-le states (drop (r * states) old) new (rw length-drop (omega (arith, row_within r n states l, len)))

  -- the row that is added
  row_added : (states n : ℕ) (old new : List X) → length old ≡ n * states → length new ≡ states → row_at states (old ++ new) n ≡ new
  row_added states n old new len new_len = ap (λ k. take states (drop k (old ++ new))) (sym len) ∙ ap (take states) (drop-append_seam old new) ∙ take_all states new (omega (arith, new_len))

-- the sizes of a row's cells
abbrev pub sizes_at : ℕ → List ℤ → ℕ → List ℕ
sizes_at states cells r = map unsigned_abs (row_at states cells r)

-- the reduced rows, and one more
one_more : (states : ℕ) (cells : List ℤ) (n : ℕ) → reduced_rows states (suc n) cells ≡ reduced_rows states n cells ++ reduced_row (sizes_at states cells n)
one_more states cells n = lines_more (λ r. reduced_row (sizes_at states cells r)) n 0 ∙ ap (λ k. reduced_rows states n cells ++ reduced_row (sizes_at states cells k)) (start n)
  where
    start : (r : ℕ) → 0 + r ≡ r
    start r = omega arith

-- Row r of the reduced rows is row r of the cells, reduced.
pub reduced_at : (states : ℕ) (cells : List ℤ) (n r : ℕ) → n * states ≤ length cells → r < n → row_at states (reduced_rows states n cells) r ≡ reduced_row (sizes_at states cells r)
reduced_at states cells zero r within l = absurd (omega arith)
reduced_at states cells (suc n) r within l = ap (λ xs. row_at states xs r) (one_more states cells n) ∙ ⊎_elim (λ h. before h (reduced_at states cells n r (less n states (length cells) within) h)) last (cases_lt r n)
  where
    less : (n states m : ℕ) → suc n * states ≤ m → n * states ≤ m
    less n states m h = omega arith

    final : (n states m : ℕ) → suc n * states ≤ m → n * states + states ≤ m
    final n states m h = omega arith

    old_len : length (reduced_rows states n cells) ≡ n * states
    old_len = length-rows states cells n (less n states (length cells) within)

    new_len : length (reduced_row (sizes_at states cells n)) ≡ states
    new_len = length-map (sizes_at states cells n) _ ∙ length-map (row_at states cells n) unsigned_abs ∙ length-row states cells n (final n states (length cells) within)

    before : r < n → row_at states (reduced_rows states n cells) r ≡ reduced_row (sizes_at states cells r) → row_at states (reduced_rows states n cells ++ reduced_row (sizes_at states cells n)) r ≡ reduced_row (sizes_at states cells r)
    before h so_far = row_kept states n (reduced_rows states n cells) (reduced_row (sizes_at states cells n)) r old_len h ∙ so_far

    last : n ≤ r → row_at states (reduced_rows states n cells ++ reduced_row (sizes_at states cells n)) r ≡ reduced_row (sizes_at states cells r)
    last h =
        let same : r ≡ n = omega arith in
        ap (λ k. row_at states (reduced_rows states n cells ++ reduced_row (sizes_at states cells n)) k) same
        ∙ row_added states n (reduced_rows states n cells) (reduced_row (sizes_at states cells n)) old_len new_len
        ∙ ap (λ k. reduced_row (sizes_at states cells k)) (sym same)

-- numbers that aren't below nought are their sizes
sizes_back : (zs : List ℤ) → All (λ z. pos 0 ≤ℤ z) zs → map pos (map unsigned_abs zs) ≡ zs
sizes_back [] all = refl
sizes_back (z ∷ zs) all = λ i. size_of z (All-head (λ y. pos 0 ≤ℤ y) z zs all) i ∷ sizes_back zs (All-tail (λ y. pos 0 ≤ℤ y) z zs all) i

module _ (cells : List ℤ) (rows states total : ℕ) (table : IsTable cells rows states total) (positive : 0 < total) where
  whole : rows * states ≤ length cells
  whole = omega (arith, table.len)

  -- each row of cells adds up to the total
  pub sizes_sum : (r : ℕ) → r < rows → sum (sizes_at states cells r) ≡ total
  sizes_sum r l = same (sum (sizes_at states cells r)) total (sum_cells cells (r * states) states (omega (arith, row_within r rows states l, whole)) table.not_negative ∙ table.row r l)
    where
      same : (a b : ℕ) → pos a ≡ pos b → a ≡ b
      same a b e = omega (arith, ints)

  sizes_positive : (r : ℕ) → r < rows → 0 < sum (sizes_at states cells r)
  sizes_positive r l = subst (λ n. 0 < n) (sym (sizes_sum r l)) positive

  pub row_is : (r : ℕ) → r < rows → row_at states (reduced_rows states rows cells) r ≡ reduced_row (sizes_at states cells r)
  row_is r l = reduced_at states cells rows r whole l

  -- each reduced row adds up to a divisor of the total
  pub row_sum_divides : (r : ℕ) → r < rows → sum (row_at states (reduced_rows states rows cells) r) ∣ total
  row_sum_divides r l = subst (λ xs. sum xs ∣ total) (sym (row_is r l)) (subst (λ n. sum (reduced_row (sizes_at states cells r)) ∣ n) (sizes_sum r l) (reduced_sum_divides (sizes_at states cells r)))

  -- and to more than nought
  pub row_sum_positive : (r : ℕ) → r < rows → 0 < sum (row_at states (reduced_rows states rows cells) r)
  row_sum_positive r l = subst (λ xs. 0 < sum xs) (sym (row_is r l)) (reduced_positive (sizes_at states cells r) (sizes_positive r l))

  pub row_shares_none : (r : ℕ) → r < rows → SharesNone (row_at states (reduced_rows states rows cells) r)
  row_shares_none r l = subst SharesNone (sym (row_is r l)) (reduced_shares_none (sizes_at states cells r) (sizes_positive r l))

  -- Scaled to the total, a reduced row is the row of cells.
  pub row_weights : (r : ℕ) → r < rows → multiplied_row total (row_at states (reduced_rows states rows cells) r) ≡ row_at states cells r
  row_weights r l =
      ap (multiplied_row total) (row_is r l)
      ∙ ap (λ n. multiplied_row n (reduced_row (sizes_at states cells r))) (sym (sizes_sum r l))
      ∙ weights_back (sizes_at states cells r) (sizes_positive r l)
      ∙ sizes_back (row_at states cells r) (All-take (λ z. pos 0 ≤ℤ z) states (drop (r * states) cells) (All-drop (λ z. pos 0 ≤ℤ z) (r * states) cells (All-from_get_or (λ z. pos 0 ≤ℤ z) cells (pos 0) (λ i h. table.not_negative i))))

  -- no number is greater than the total
  row_small : (r : ℕ) → r < rows → All (λ x. x ≤ total) (reduced_row (sizes_at states cells r))
  row_small r l k d h =
      let within = get_or-le-sum_by (λ x. x) (reduced_row (sizes_at states cells r)) k d h in
      let below : sum (reduced_row (sizes_at states cells r)) ≤ total = le_of_dvd positive (subst (λ n. sum (reduced_row (sizes_at states cells r)) ∣ n) (sizes_sum r l) (reduced_sum_divides (sizes_at states cells r))) in
      omega (arith, within, below)

  so_far_small : (n : ℕ) → n ≤ rows → All (λ x. x ≤ total) (reduced_rows states n cells)
  so_far_small zero l = All-nil (λ x. x ≤ total)
  so_far_small (suc n) l = subst (All (λ x. x ≤ total)) (sym (one_more states cells n)) (All-append (λ x. x ≤ total) (reduced_rows states n cells) (reduced_row (sizes_at states cells n)) (so_far_small n (omega arith)) (row_small n (omega arith)))

  pub all_small : All (λ x. x ≤ total) (reduced_rows states rows cells)
  all_small = so_far_small rows (omega arith)

  pub reduced_len : length (reduced_rows states rows cells) ≡ rows * states
  reduced_len = length-rows states cells rows whole

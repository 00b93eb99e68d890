-- The rows of a chance table.
use Rattle.std.proofs.Common.{◌≡◌, ◌∙◌, ℕ, zero, suc, ◌+◌, ◌-◌, ◌*◌, ◌<◌, ◌≤◌, ℤ, pos, negsuc, ◌+ℤ◌, ◌≤ℤ◌, unsigned_abs, List, ◌++◌, length, map, sum, take, drop, get_or, slice_index_or, slice_range, decimal, arith, sym, ap, subst, refl, append_assoc, add-one}
use Rattle.std.proofs.Math.Nat.{mul-le-mul_right}
use Rattle.std.proofs.lemmas.Int.{ints}
use Rattle.std.proofs.lemmas.List.{length-take-le, length-drop, length-map, length-append, map_more, get_or-drop}
use Rattle.std.proofs.lemmas.List.Sums.{sum_by_push}
use Rattle.maid_model.specs.declared.diagrams.Kind.TheVariants.{Chance}
use Rattle.maid_model.specs.Diagrams.{IsDiagram}
use Rattle.maid_model.specs.Nodes.{node_at, states_of, rows_of}
use Rattle.finite_sums.specs.Sums.{sum_below}
use Rattle.maid_model.specs.Tables.{chance_total}
use Rattle.maid_model.specs.Views.{DiagramView}
use Rattle.weight_scale.specs.Scaling.{row_at}
use Rattle.net_build.specs.Plain.{reduced_row, reduced_rows}
use Rattle.net_print.specs.Parts.{parted_behind}
use Rattle.net_print.proofs.Steps.{lines_more, parted-append}

-- a row as a part of a slice
pub slice_is_row : {A : Type 0} (states : ℕ) (cells : List A) (r : ℕ) → slice_range cells (r * states) (r * states + states) ≡ row_at states cells r
slice_is_row states cells r = ap (λ n. take n (drop (r * states) cells)) (width (r * states) states) where
  width : (a n : ℕ) → a + n - a ≡ n
  width a n = omega arith

pub row_within : (r rows states : ℕ) → r < rows → r * states + states ≤ rows * states
row_within r rows states l = let more : suc r ≤ rows = omega arith in omega (arith, mul-le-mul_right {m = suc r} {n = rows} states more)

pub length-row : {A : Type 0} (states : ℕ) (cells : List A) (r : ℕ) → r * states + states ≤ length cells → length (row_at states cells r) ≡ states
length-row states cells r l = length-take-le states (drop (r * states) cells) (rw (length-drop (r * states) cells) (omega arith))

pub size_of : (z : ℤ) → pos 0 ≤ℤ z → pos (unsigned_abs z) ≡ z
size_of (pos n) h = refl
size_of (negsuc n) h = absurd (omega (arith, ints))

-- what the cells from a start add up to
pub sum_cells : (cells : List ℤ) (start n : ℕ) → start + n ≤ length cells → ((i : ℕ) → pos 0 ≤ℤ slice_index_or cells i (pos 0)) → pos (sum (map unsigned_abs (take n (drop start cells)))) ≡ sum_below n (λ s. slice_index_or cells (start + s) (pos 0))
sum_cells cells start zero l signs = refl
sum_cells cells start (suc n) l signs =
    ap pos (rw (← add-one n, map_more unsigned_abs (drop start cells) n (pos 0) within) (sum_by_push (λ x. x) front (unsigned_abs (get_or (drop start cells) n (pos 0)))))
    ∙ both (sum front) (unsigned_abs (get_or (drop start cells) n (pos 0)))
    ∙ ap (λ z. z +ℤ pos (unsigned_abs (get_or (drop start cells) n (pos 0)))) (sum_cells cells start n (omega arith) signs)
    ∙ ap (λ z. sum_below n (λ s. slice_index_or cells (start + s) (pos 0)) +ℤ z) (ap (λ z. pos (unsigned_abs z)) (get_or-drop start cells n (pos 0)) ∙ size_of (get_or cells (start + n) (pos 0)) (signs (start + n)))
  where
    front : List ℕ
    front = map unsigned_abs (take n (drop start cells))

    within : n < length (drop start cells)
    within = rw (length-drop start cells) (omega arith)

    both : (a b : ℕ) → pos (a + b) ≡ pos a +ℤ pos b
    both a b = omega (arith, ints)

-- each row of a chance node stands within its cells
pub rows_within : (d : DiagramView) → IsDiagram d → (v r : ℕ) → (node_at d.nodes v).kind ≡ Chance → r < rows_of d.nodes v → r * states_of d.nodes v + states_of d.nodes v ≤ length (node_at d.nodes v).cells
rows_within d is v r kind l = subst (λ n. r * states_of d.nodes v + states_of d.nodes v ≤ n) (sym (is.tables.table v kind).len) (row_within r (rows_of d.nodes v) (states_of d.nodes v) l)

-- the weights of each row of a chance node add up to its total
pub row_total : (d : DiagramView) → IsDiagram d → (v r : ℕ) → (node_at d.nodes v).kind ≡ Chance → r < rows_of d.nodes v → sum (map unsigned_abs (row_at (states_of d.nodes v) (node_at d.nodes v).cells r)) ≡ chance_total d.nodes v
row_total d is v r kind l =
    let table = is.tables.table v kind in
    let states = states_of d.nodes v in
    let cells = (node_at d.nodes v).cells in
    let total : pos (sum (map unsigned_abs (take states (drop (r * states) cells)))) ≡ pos (chance_total d.nodes v) = sum_cells cells (r * states) states (rows_within d is v r kind l) table.not_negative ∙ table.row r l in
    same _ _ total
  where
    same : (a b : ℕ) → pos a ≡ pos b → a ≡ b
    same a b e = omega (arith, ints)

-- and so to more than nought
pub row_positive : (d : DiagramView) → IsDiagram d → (v r : ℕ) → (node_at d.nodes v).kind ≡ Chance → r < rows_of d.nodes v → 0 < sum (map unsigned_abs (row_at (states_of d.nodes v) (node_at d.nodes v).cells r))
row_positive d is v r kind l = subst (λ n. 0 < n) (sym (row_total d is v r kind l)) (is.tables.positive v kind)

-- so many numbers stand in the rows
pub length-rows : (states : ℕ) (cells : List ℤ) (rows : ℕ) → rows * states ≤ length cells → length (reduced_rows states rows cells) ≡ rows * states
length-rows states cells zero l = none states where
  none : (n : ℕ) → 0 ≡ 0 * n
  none n = omega arith
length-rows states cells (suc rows) l =
    ap length (lines_more row rows 0)
    ∙ length-append (reduced_rows states rows cells) (row (0 + rows))
    ∙ ap (λ n. length (reduced_rows states rows cells) + length (row n)) (start rows)
    ∙ ap (λ n. n + length (row rows)) (length-rows states cells rows (less rows states (length cells) l))
    ∙ ap (λ n. rows * states + n) (length-map (map unsigned_abs (row_at states cells rows)) _ ∙ length-map (row_at states cells rows) unsigned_abs ∙ length-row states cells rows (last rows states (length cells) l))
    ∙ more rows states
  where
    row : ℕ → List ℕ
    row r = reduced_row (map unsigned_abs (row_at states cells r))

    start : (r : ℕ) → 0 + r ≡ r
    start r = omega arith

    less : (r n m : ℕ) → suc r * n ≤ m → r * n ≤ m
    less r n m h = omega arith

    last : (r n m : ℕ) → suc r * n ≤ m → r * n + n ≤ m
    last r n m h = omega arith

    more : (r n : ℕ) → r * n + n ≡ suc r * n
    more r n = omega arith

-- one more row is written
pub rows_more : (states : ℕ) (cells : List ℤ) (r : ℕ) → r * states ≤ length cells → (old new front : List ℕ) → new ≡ old ++ parted_behind decimal (r * states) (reduced_row (map unsigned_abs (row_at states cells r))) → old ≡ front ++ parted_behind decimal 0 (reduced_rows states r cells) → new ≡ front ++ parted_behind decimal 0 (reduced_rows states (r + 1) cells)
rows_more states cells r l old new front step kept =
    step
    ∙ ap (λ out. out ++ parted_behind decimal (r * states) (row r)) kept
    ∙ append_assoc front (parted_behind decimal 0 (reduced_rows states r cells)) (parted_behind decimal (r * states) (row r))
    ∙ ap (λ n. front ++ (parted_behind decimal 0 (reduced_rows states r cells) ++ parted_behind decimal n (row r))) (sym (start (length (reduced_rows states r cells)) ∙ length-rows states cells r l))
    ∙ ap (λ rest. front ++ rest) (sym (parted-append decimal 0 (reduced_rows states r cells) (row r)))
    ∙ ap (λ n. front ++ parted_behind decimal 0 (reduced_rows states r cells ++ row n)) (sym (start r))
    ∙ ap (λ rows. front ++ parted_behind decimal 0 rows) (sym (lines_more row r 0))
    ∙ ap (λ n. front ++ parted_behind decimal 0 (reduced_rows states n cells)) (sym (add-one r))
  where
    row : ℕ → List ℕ
    row r = reduced_row (map unsigned_abs (row_at states cells r))

    start : (r : ℕ) → 0 + r ≡ r
    start r = omega arith

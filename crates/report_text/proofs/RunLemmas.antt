-- The lines of the rows under one choice of the first parents' states, put together from those
-- under each state of the next parent.
use Rattle.std.proofs.Common.{◌≡◌, ◌∙◌, ℕ, zero, suc, ◌+◌, ◌*◌, ◌<◌, ◌≤◌, List, [], ◌∷◌, ◌++◌, length, drop, slice_index_or, refl, sym, ap, append_assoc, add-one, drop-cons, arith}
use Rattle.std.proofs.lemmas.List.{append-nil, drop_all}
use Rattle.std.proofs.lemmas.Nat.{div-mul-add, mod-mul-add}
use Rattle.maid_model.specs.Answers.{no_row}
use Rattle.maid_model.specs.Names.{NamesView, label_of}
use Rattle.maid_model.specs.Nodes.{parents_of, rows_under, states_of}
use Rattle.maid_model.specs.Reports.{parent_states, quoted, row_line, row_lines, state_labels}
use Rattle.maid_model.specs.Views.{NodeView, AnswerView}
use Rattle.report_text.specs.Runs.{labelled_line, run_lines}

module _ (nodes : List NodeView) (names : NamesView) (answer : AnswerView) where
  -- some rows, and then some more
  pub run_split : (labels others : List ℕ) (first at m k : ℕ)
      → run_lines nodes names answer labels others first at (m + k) ≡ run_lines nodes names answer labels others first at m ++ run_lines nodes names answer labels others first (at + m) k
  run_split labels others first at zero k = (λ i. run_lines nodes names answer labels others first (same at i) (none k i))
    where
      same : (n : ℕ) → n ≡ n + 0
      same n = omega arith

      none : (n : ℕ) → 0 + n ≡ n
      none n = omega arith
  run_split labels others first at (suc m) k =
      ap (run_lines nodes names answer labels others first at) (more m k)
      ∙ ap (λ l. here ++ l) (run_split labels others first (at + 1) m k ∙ ap (λ n. run_lines nodes names answer labels others first (at + 1) m ++ run_lines nodes names answer labels others first n k) (omega arith))
      ∙ sym (append_assoc here _ _)
    where
      more : (m k : ℕ) → suc m + k ≡ suc (m + k)
      more m k = omega arith

      here : List ℕ
      here = labelled_line names answer.decision (labels ++ state_labels names others (parent_states (states_of nodes) others at)) (first + at) (slice_index_or answer.rows (first + at) no_row)

  -- the rows under one state of the next parent
  pub run_inner : (labels : List ℕ) (u : ℕ) (us : List ℕ) (first s j k : ℕ) → j + k ≤ rows_under (states_of nodes) us
      → run_lines nodes names answer labels (u ∷ us) first (s * rows_under (states_of nodes) us + j) k
      ≡ run_lines nodes names answer (labels ++ 32 ∷ quoted (label_of names u s)) us (first + s * rows_under (states_of nodes) us) j k
  run_inner labels u us first s j zero h = refl
  run_inner labels u us first s j (suc k) h =
      (λ i. labelled_line names answer.decision (texts i) (numbers i) (slice_index_or answer.rows (numbers i) no_row) ++ run_lines nodes names answer labels (u ∷ us) first (nexts i) k)
      ∙ ap (λ l. labelled_line names answer.decision (labels_there ++ state_labels names us (parent_states (states_of nodes) us j)) (first + s * below + j) (slice_index_or answer.rows (first + s * below + j) no_row) ++ l)
      (run_inner labels u us first s (j + 1) k (omega (arith, h)))
    where
      below : ℕ
      below = rows_under (states_of nodes) us

      labels_there : List ℕ
      labels_there = labels ++ 32 ∷ quoted (label_of names u s)

      within : j < below
      within = omega (arith, h)

      texts : labels ++ state_labels names (u ∷ us) (parent_states (states_of nodes) (u ∷ us) (s * below + j)) ≡ labels_there ++ state_labels names us (parent_states (states_of nodes) us j)
      texts =
          (λ i. labels ++ (32 ∷ quoted (label_of names u (div-mul-add s below j within i)) ++ state_labels names us (parent_states (states_of nodes) us (mod-mul-add s below j within i))))
          ∙ sym (append_assoc labels _ _)

      numbers : first + (s * below + j) ≡ first + s * below + j
      numbers = omega arith

      nexts : s * below + j + 1 ≡ s * below + (j + 1)
      nexts = omega arith

  -- the row of one choice of all parents' states
  pub run_one : (labels : List ℕ) (first : ℕ) → run_lines nodes names answer labels [] first 0 1 ≡ labelled_line names answer.decision labels first (slice_index_or answer.rows first no_row)
  run_one labels first = append-nil _ ∙ (λ i. labelled_line names answer.decision (append-nil labels i) (same first i) (slice_index_or answer.rows (same first i) no_row))
    where
      same : (n : ℕ) → n + 0 ≡ n
      same n = omega arith

  -- the lines so far, and those under one more state of the next parent
  pub run_step : (labels : List ℕ) (u : ℕ) (us : List ℕ) (first s : ℕ)
      → run_lines nodes names answer labels (u ∷ us) first 0 ((s + 1) * rows_under (states_of nodes) us)
      ≡ run_lines nodes names answer labels (u ∷ us) first 0 (s * rows_under (states_of nodes) us)
      ++ run_lines nodes names answer (labels ++ 32 ∷ quoted (label_of names u s)) us (first + s * rows_under (states_of nodes) us) 0 (rows_under (states_of nodes) us)
  run_step labels u us first s =
      ap (run_lines nodes names answer labels (u ∷ us) first 0) (omega arith)
      ∙ run_split labels (u ∷ us) first 0 (s * below) below
      ∙ ap (λ n. run_lines nodes names answer labels (u ∷ us) first 0 (s * below) ++ run_lines nodes names answer labels (u ∷ us) first n below) (omega arith)
      ∙ ap (λ l. run_lines nodes names answer labels (u ∷ us) first 0 (s * below) ++ l) (run_inner labels u us first s 0 below (omega arith))
    where
      below : ℕ
      below = rows_under (states_of nodes) us

  -- the rows of a decision are those under no parent's state
  pub run_whole : (at k : ℕ) → at + k ≡ length answer.rows
      → run_lines nodes names answer [] (parents_of nodes answer.decision) 0 at k ≡ row_lines nodes names answer.decision at (drop at answer.rows)
  run_whole at zero e = sym (ap (row_lines nodes names answer.decision at) (drop_all at answer.rows (omega (arith, e))))
  run_whole at (suc k) e =
      (λ i. labelled_line names answer.decision (state_labels names (parents_of nodes answer.decision) (parent_states (states_of nodes) (parents_of nodes answer.decision) at)) (none at i) (slice_index_or answer.rows (none at i) no_row)
      ++ run_lines nodes names answer [] (parents_of nodes answer.decision) 0 (at + 1) k)
      ∙ ap (λ l. row_line nodes names answer.decision at (slice_index_or answer.rows at no_row) ++ l) (run_whole (at + 1) k (omega (arith, e)))
      ∙ sym (ap (row_lines nodes names answer.decision at) (drop-cons answer.rows at no_row (omega (arith, e)) ∙ ap (λ n. slice_index_or answer.rows at no_row ∷ drop n answer.rows) (sym (add-one at))))
    where
      none : (n : ℕ) → 0 + n ≡ n
      none n = omega arith

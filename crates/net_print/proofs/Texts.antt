-- The tokens of the printed text of a diagram.
use Rattle.std.proofs.Common.{◌≡◌, ◌∙◌, ℕ, ◌/◌, ◌<◌, ◌≤◌, ◌^◌, ◌-◌, true, List, [], ◌∷◌, ◌++◌, length, map, sum, get_or, All, decimal, unsigned_abs, refl, sym, subst, arith, append-nil}
use Rattle.std.specs.List.{flat_map, range_with_len}
use Rattle.std.proofs.Math.Nat.{div-le_self}
use Rattle.std.proofs.lemmas.List.FromFn.{length-range_with_len, get_or-range_with_len}
use Rattle.std.proofs.lemmas.List.Elements.{All-nil, All-head, All-tail, All-append, All-map, All-contains_itself}
use Rattle.std.proofs.lemmas.List.Sums.{get_or-le-sum_by}
use Rattle.maid_model.specs.declared.diagrams.Kind.{Kind}
use Rattle.maid_model.specs.declared.diagrams.Kind.TheVariants.{Chance, Decision, Utility}
use Rattle.maid_model.specs.Names.{NamesView, name_of}
use Rattle.maid_model.specs.Nodes.{node_at, states_of, rows_of, numbers_of}
use Rattle.maid_model.specs.Tables.{chance_total}
use Rattle.maid_model.specs.Views.{DiagramView}
use Rattle.weight_scale.specs.Scaling.{row_at}
use Rattle.net_lexer.specs.Numerals.{is_numeral}
use Rattle.net_lexer.specs.Token.{is_name}
use Rattle.net_build.specs.Plain.{reduced_row, reduced_rows, row_divisor}
use Rattle.net_print.specs.Printed.{printed, node_line, potential_line}
use Rattle.net_print.proofs.Comments.{IsPrintableBehind}
use Rattle.net_print.proofs.Forms.{decimal_numeral, value_numeral}
use Rattle.net_print.proofs.Rows.{row_total}
use Rattle.net_print.proofs.Words.{Writes, writes-append, writes-all, node_words, node_writes, potential_words, potential_writes, HasNumerals}
use Rattle.net_print.proofs.Written.{Written, text_onto}

-- what holds in each list holds in all of them
pub all_flat : {A B : Type 0} (P : B → Type 0) (f : A → List B) (xs : List A) → All (λ x. All P (f x)) xs → All P (flat_map f xs)
all_flat P f [] all = All-nil P
all_flat P f (x ∷ xs) all = All-append P (f x) (flat_map f xs) (All-head (λ y. All P (f y)) x xs all) (all_flat P f xs (All-tail (λ y. All P (f y)) x xs all))

-- the numbers of the nodes are below their count
pub numbers_below : (n : ℕ) → All (λ v. v < n) (range_with_len 0 n)
numbers_below n k d h = let l : k < n = omega (arith, length-range_with_len 0 n) in subst (λ v. v < n) (sym (get_or-range_with_len 0 n k d l)) (omega arith)

module _ (d : DiagramView) (names : NamesView) (is : IsPrintableBehind d names) where
  -- each node has a name
  pub named : (v : ℕ) → v < length d.nodes → is_name (name_of names v) ≡ true
  named v h = (is.form.words v [] (subst (λ n. v < n) (sym is.fit.nodes) h)).unsigned

  pub parents_named : (v : ℕ) → All (λ u. is_name (name_of names u) ≡ true) (node_at d.nodes v).parents
  parents_named v k e h = named (get_or (node_at d.nodes v).parents k e) (is.diagram.graph.parents_known (get_or (node_at d.nodes v).parents k e) v (All-contains_itself (node_at d.nodes v).parents k e h))

  -- a weight is no greater than its row's total
  small_row : (v r : ℕ) → (node_at d.nodes v).kind ≡ Chance → r < rows_of d.nodes v → All (λ x. x < 10 ^ 64) (reduced_row (map unsigned_abs (row_at (states_of d.nodes v) (node_at d.nodes v).cells r)))
  small_row v r kind l =
      let row = map unsigned_abs (row_at (states_of d.nodes v) (node_at d.nodes v).cells r) in
      let total : sum row ≡ chance_total d.nodes v = row_total d is.diagram v r kind l in
      All-map (λ x. x < 10 ^ 64) (λ x. x / row_divisor row) row
      (λ k e h. omega (arith, div-le_self (get_or row k e) (row_divisor row), get_or-le-sum_by (λ x. x) row k e h, total, is.diagram.limits.totals v kind))

  all_rows : (v n : ℕ) → (node_at d.nodes v).kind ≡ Chance → n ≤ rows_of d.nodes v → All (λ x. is_numeral (decimal x) ≡ true) (reduced_rows (states_of d.nodes v) n (node_at d.nodes v).cells)
  all_rows v n kind h =
      all_flat (λ x. is_numeral (decimal x) ≡ true) (λ r. reduced_row (map unsigned_abs (row_at (states_of d.nodes v) (node_at d.nodes v).cells r))) (range_with_len 0 n)
      (λ k e l. λ j x m. decimal_numeral _ (small_row v (get_or (range_with_len 0 n) k e) kind (within (get_or (range_with_len 0 n) k e) n (rows_of d.nodes v) (numbers_below n k e l) h) j x m))
    where
      within : (r n rows : ℕ) → r < n → n ≤ rows → r < rows
      within r n rows l h = omega arith

  numerals : (v : ℕ) (kind : Kind) → (node_at d.nodes v).kind ≡ kind → HasNumerals kind d.decimals (states_of d.nodes v) (rows_of d.nodes v) (node_at d.nodes v).cells
  numerals v Chance kind = all_rows v (rows_of d.nodes v) kind (omega arith)
  numerals v Decision kind = tt
  numerals v Utility kind = λ k e h. value_numeral d.decimals (get_or (node_at d.nodes v).cells k e) (small (unsigned_abs (get_or (node_at d.nodes v).cells k e)) (is.diagram.limits.values v kind k e h)) where
    small : (n : ℕ) → n ≤ 2 ^ 126 - 1 → n < 10 ^ 64
    small n h = omega arith

  -- the tokens of all lines
  abbrev pub words : List Written
  words = flat_map (node_words d.nodes names) (numbers_of d.nodes) ++ flat_map (potential_words d names) (numbers_of d.nodes)

  pub text_writes : Writes words (printed d names)
  unfolding printed
  text_writes =
      let n = length d.nodes in
      writes-append (flat_map (node_words d.nodes names) (numbers_of d.nodes)) (flat_map (potential_words d names) (numbers_of d.nodes)) (flat_map (node_line d.nodes names) (numbers_of d.nodes)) (flat_map (potential_line d names) (numbers_of d.nodes))
      (writes-all (node_words d.nodes names) (node_line d.nodes names) (numbers_of d.nodes) (λ k e h. node_writes d.nodes names (get_or (numbers_of d.nodes) k e) (named (get_or (numbers_of d.nodes) k e) (numbers_below n k e h))))
      (writes-all (potential_words d names) (potential_line d names) (numbers_of d.nodes) (λ k e h. potential_writes d names (get_or (numbers_of d.nodes) k e) (named (get_or (numbers_of d.nodes) k e) (numbers_below n k e h)) (parents_named (get_or (numbers_of d.nodes) k e)) (numerals (get_or (numbers_of d.nodes) k e) (node_at d.nodes (get_or (numbers_of d.nodes) k e)).kind refl)))

  pub text_is : text_onto words [] ≡ printed d names
  text_is = text_writes.onto [] ∙ append-nil (printed d names)

-- The sums of cells are the gains and masses of a decision, or one agent's gain.
use Rattle.std.proofs.Common.{◌≡◌, ◌∙◌, ℕ, ◌+◌, ◌*◌, ◌^◌, ◌<◌, ◌≤◌, cond, ◌&&◌, eqb, List, length, sym, ap, subst, arith, ℤ, pos, ◌*ℤ◌, nat_abs, slice_index, slice_index_or}
use Rattle.std.proofs.lemmas.List.{get_or_default, get_or_past}
use Rattle.std.proofs.Math.Decide.{ℕ_discrete, dec_lt}
use Rattle.finite_sums.specs.Sums.{World, InRange}
use Rattle.finite_sums.proofs.Sums.{sum_over_cong}
use Rattle.maid_model.specs.Diagrams.{IsDiagram, greatest_number}
use Rattle.maid_model.specs.Gains.{gain_at, gain_of, is_at, mass_at, utility, utility_below, weight, weight_without}
use Rattle.maid_model.specs.Graph.{descends}
use Rattle.maid_model.specs.Nodes.{is_utility_of, no_node, node_at, numbers_of, rows_of, rows_under, states_of}
use Rattle.maid_model.specs.Private.{marked_utility}
use Rattle.maid_model.specs.Tables.{cell_of, row_from, row_of}
use Rattle.maid_model.specs.Views.{DiagramView, NodeView, RuleView}
use Rattle.maid_model.proofs.Bases.{below_is, digits}
use Rattle.maid_model.proofs.Found.{eqb_yes, eqb_no}
use Rattle.maid_model.proofs.Leaves.{marked_is, nothing_out}
use Rattle.node_sets.specs.declared.sets.NodeSet.{NodeSet}
use Rattle.node_sets.specs.Sets.{holds}
use Rattle.tree_checker.specs.Judged.{ListsSums}
use Rattle.tree_checker.specs.Walks.{ListsCells, cell_gain, cell_mass}

cell_test : (r s x y c : ℕ) → x < c → y < c → eqb (r * c + x) (s * c + y) ≡ (eqb x y && eqb r s)
cell_test r s x y c h k = go (ℕ_discrete x y) (ℕ_discrete r s)
  where
    go : Dec (x ≡ y) → Dec (r ≡ s) → eqb (r * c + x) (s * c + y) ≡ (eqb x y && eqb r s)
    go (yes e) (yes f) = eqb_yes (r * c + x) (s * c + y) (λ i. f i * c + e i) ∙ sym (λ i. eqb_yes x y e i && eqb_yes r s f i)
    go (yes e) (no n) = eqb_no (r * c + x) (s * c + y) (λ q. n (digits r s x y c h k q).0) ∙ sym (λ i. eqb_yes x y e i && eqb_no r s n i)
    go (no n) m = eqb_no (r * c + x) (s * c + y) (λ q. n (digits r s x y c h k q).1) ∙ sym (ap (λ b. b && eqb r s) (eqb_no x y n))

module _ (d : DiagramView) (is : IsDiagram d) where
  none_yet : InRange (states_of d.nodes) (λ v. 0)
  none_yet = record { state = is.graph.has_state }

  module _ (p : List RuleView) (v : ℕ) (marks : NodeSet) (marks_are : (u : ℕ) → u < length d.nodes → holds marks u ≡ (descends d.nodes v u && is_utility_of d.nodes (node_at d.nodes v).owner u)) where
    gain_there : (row s : ℕ) → s < states_of d.nodes v → cell_gain d.nodes p v marks (row * states_of d.nodes v + s) ≡ gain_at d.nodes p v s row
    gain_there row s l =
        sum_over_cong (states_of d.nodes) (numbers_of d.nodes)
        (λ w. cond (eqb (cell_of d.nodes v w) (row * states_of d.nodes v + s)) (weight_without d.nodes p v w *ℤ marked_utility d.nodes marks w) (pos 0))
        (λ w. cond (is_at d.nodes v s row w) (weight_without d.nodes p v w *ℤ utility_below d.nodes v w) (pos 0))
        (λ w i. (λ j. cond (cell_test (row_of d.nodes v w) row (w v) s (states_of d.nodes v) (i.state v) l j) (weight_without d.nodes p v w *ℤ below_is d.nodes marks v w marks_are j) (pos 0)))
        (λ v. 0) none_yet

    mass_there : (row : ℕ) → cell_mass d.nodes p v (row * states_of d.nodes v) ≡ mass_at d.nodes p v row
    mass_there row =
        ap (cell_mass d.nodes p v) (more (row * states_of d.nodes v))
        ∙ sum_over_cong (states_of d.nodes) (numbers_of d.nodes)
        (λ w. cond (eqb (cell_of d.nodes v w) (row * states_of d.nodes v + 0)) (weight_without d.nodes p v w) (pos 0))
        (λ w. cond (is_at d.nodes v 0 row w) (weight_without d.nodes p v w) (pos 0))
        (λ w i. ap (λ b. cond b (weight_without d.nodes p v w) (pos 0)) (cell_test (row_of d.nodes v w) row (w v) 0 (states_of d.nodes v) (i.state v) (is.graph.has_state v)))
        (λ v. 0) none_yet
      where
        more : (n : ℕ) → n ≡ n + 0
        more n = omega arith

    -- a decision's sums, with the masses of its rows
    pub sums_listed : (gains : List ℤ) (cells masses : List ℕ) → ListsCells d p v marks gains cells → length masses ≡ rows_of d.nodes v
        → ((row : ℕ) → row < rows_of d.nodes v → slice_index masses row ≡ slice_index cells (row * states_of d.nodes v)) → ListsSums d p v gains masses
    sums_listed gains cells masses h n taken = record {
      gain_count = h.gain_count;
      mass_count = n;
      gain = λ s row ls lr. h.gain (row * states_of d.nodes v + s) ∙ gain_there row s ls;
      mass_there = λ row lr. ap pos (taken row lr) ∙ h.mass (row * states_of d.nodes v) ∙ mass_there row;
      gain_small = h.gain_small;
      mass_small = λ row. small row (dec_lt row (rows_of d.nodes v));
    }
      where
        past : (row : ℕ) → ¬ (row < rows_of d.nodes v) → length masses ≤ row
        past row m = omega (arith, n)

        small : (row : ℕ) → Dec (row < rows_of d.nodes v) → slice_index masses row * 10 ^ d.decimals ≤ greatest_number
        small row (yes l) = subst (λ k. k * 10 ^ d.decimals ≤ greatest_number) (sym (taken row l)) (h.mass_small (row * states_of d.nodes v))
        small row (no m) = subst (λ k. k * 10 ^ d.decimals ≤ greatest_number) (sym (get_or_past masses row 0 (past row m))) (omega arith)

  -- ---- nothing is left out
  past_end : node_at d.nodes (length d.nodes) ≡ no_node
  past_end = get_or_past d.nodes (length d.nodes) no_node (same (length d.nodes))
    where
      same : (n : ℕ) → n ≤ n
      same n = omega arith

  only_cell : (w : World) → InRange (states_of d.nodes) w → cell_of d.nodes (length d.nodes) w ≡ 0
  only_cell w i = (λ j. row_from_end (past_end j) * (past_end j).states + w (length d.nodes)) ∙ one (w (length d.nodes)) (subst (λ (x : NodeView). w (length d.nodes) < x.states) past_end (i.state (length d.nodes)))
    where
      row_from_end : NodeView → ℕ
      row_from_end x = row_from (states_of d.nodes) w 0 x.parents

      one : (n : ℕ) → n < 1 → 0 * 1 + n ≡ 0
      one n h = omega arith

  pub gain_listed : (p : List RuleView) (agent : ℕ) (marks : NodeSet) (gains : List ℤ) (cells : List ℕ) → ((u : ℕ) → u < length d.nodes → holds marks u ≡ is_utility_of d.nodes agent u)
      → ListsCells d p (length d.nodes) marks gains cells → slice_index_or gains 0 (pos 0) ≡ gain_of d.nodes p agent
  gain_listed p agent marks gains cells marks_are h =
      h.gain 0
      ∙ sum_over_cong (states_of d.nodes) (numbers_of d.nodes)
      (λ w. cond (eqb (cell_of d.nodes (length d.nodes) w) 0) (weight_without d.nodes p (length d.nodes) w *ℤ marked_utility d.nodes marks w) (pos 0))
      (λ w. weight d.nodes p w *ℤ utility d.nodes agent w)
      (λ w i. (λ j. cond (eqb_yes (cell_of d.nodes (length d.nodes) w) 0 (only_cell w i) j) (nothing_out d.nodes p w j *ℤ marked_is d.nodes marks agent w marks_are j) (pos 0)))
      (λ v. 0) none_yet

  -- there is a cell
  pub some_cell : rows_of d.nodes (length d.nodes) * states_of d.nodes (length d.nodes) ≡ 1
  some_cell = λ j. rows_under (states_of d.nodes) (past_end j).parents * (past_end j).states

  -- the first cell that the code reads
  pub first_gain : (p : List RuleView) (agent : ℕ) (marks : NodeSet) (gains : List ℤ) (cells : List ℕ) → ((u : ℕ) → u < length d.nodes → holds marks u ≡ is_utility_of d.nodes agent u)
      → (n : ℕ) → n ≡ length d.nodes → ListsCells d p n marks gains cells → (x : ℤ) → x ≡ slice_index_or gains 0 x → (x ≡ gain_of d.nodes p agent) × (nat_abs x ≤ greatest_number)
  first_gain p agent marks gains cells marks_are n e h x read = (x_is ∙ gain_listed p agent marks gains cells marks_are all, subst (λ z. nat_abs z ≤ greatest_number) (sym x_is) (all.gain_small 0))
    where
      all : ListsCells d p (length d.nodes) marks gains cells
      all = subst (λ k. ListsCells d p k marks gains cells) e h

      x_is : x ≡ slice_index_or gains 0 (pos 0)
      x_is = read ∙ get_or_default gains 0 x (pos 0) (let one : length gains ≡ 1 = all.gain_count ∙ some_cell in omega arith)

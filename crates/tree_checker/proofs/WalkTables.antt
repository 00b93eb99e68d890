-- What a walk uses of a diagram: at which nodes its factors and values look, what they add up to,
-- and how large they get.
use Rattle.std.proofs.Common.{◌≡◌, ◌∙◌, ◌⊎◌, ℕ, ◌<◌, ◌≤◌, Bool, true, false, cond, eqb, List, [], ◌∷◌, length, refl, sym, ap, subst, inl, inr, arith, pos, ◌≤ℤ◌, nat_abs, slice_index_or}
use Rattle.std.proofs.lemmas.Int.{ints}
use Rattle.std.proofs.lemmas.List.{get_or_past}
use Rattle.std.proofs.Math.Decide.{ℕ_discrete, dec_lt}
use Rattle.finite_sums.specs.Looks.{IgnoresLater, HasTotal, HaveTotals}
use Rattle.finite_sums.specs.Sums.{World, with_state, sum_below, InRange}
use Rattle.finite_sums.proofs.Counts.{true_or_false}
use Rattle.finite_sums.proofs.Lists.{avoids}
use Rattle.finite_sums.proofs.Sums.{sum_below_cong}
use Rattle.maid_laws.proofs.Basis.{LooksAtParents, have_totals}
use Rattle.maid_laws.proofs.Signs.{table_not_negative}
use Rattle.maid_laws.proofs.Summed.{later_all}
use Rattle.maid_laws.proofs.TotalLaws.{has_total}
use Rattle.maid_model.specs.declared.diagrams.Kind.TheVariants.{Utility}
use Rattle.maid_model.specs.Diagrams.{IsDiagram}
use Rattle.maid_model.specs.Gains.{base_total, greatest_abs, table_without}
use Rattle.maid_model.specs.Nodes.{is_utility, node_at, no_node, states_of, parents_of}
use Rattle.maid_model.specs.Private.{MarksUtilities, marked_value}
use Rattle.maid_model.specs.Profiles.{IsProfile}
use Rattle.maid_model.specs.Tables.{row_of, table, weight_total}
use Rattle.maid_model.specs.Views.{DiagramView, NodeView, RuleView}
use Rattle.maid_model.proofs.Found.{eqb_yes, eqb_no}
use Rattle.maid_model.proofs.Setting.{ParentsFirst}
use Rattle.maid_model.proofs.Summing.{cell_abs, value_le}
use Rattle.maid_model.proofs.Tables.{row_from_other, table_ignores}
use Rattle.maid_model.proofs.Uniform.{sum_ones}
use Rattle.maid_model.proofs.Weighing.{tables_of}
use Rattle.node_sets.specs.declared.sets.NodeSet.{NodeSet}
use Rattle.node_sets.specs.Sets.{holds}
use Rattle.tree_checker.specs.Walks.{IsDownward, greatest_at, value_at}

pub parents_first : (nodes : List NodeView) (vs : List ℕ) → IsDownward nodes vs → ParentsFirst nodes vs
parents_first nodes [] h = tt
parents_first nodes (v ∷ vs) h = (h.1, parents_first nodes vs h.2)

-- a value looks at the parents alone
values_look : (nodes : List NodeView) (marks : NodeSet) → LooksAtParents nodes (λ v w. marked_value nodes marks v w)
values_look nodes marks = record {
  others = λ v u n m. record {
    same = λ w i s l. ap (λ r. cond (holds marks v) (slice_index_or (node_at nodes v).cells r (pos 0)) (pos 0)) (row_from_other (states_of nodes) w u s (parents_of nodes v) (avoids u (parents_of nodes v) m) 0);
  };
}

-- so does a factor
factors_look : (nodes : List NodeView) (p : List RuleView) (out : ℕ) → LooksAtParents nodes (λ v w. table_without nodes p out v w)
factors_look nodes p out = record {
  others = λ v u n m. record { same = λ w i s l. go v (eqb v out) w u s ((table_ignores nodes p v u n (avoids u (parents_of nodes v) m)).same w i s l) };
}
  where
    go : (v : ℕ) (b : Bool) (w : World) (u s : ℕ) → table nodes p v (with_state w u s) ≡ table nodes p v w → cond b (pos 1) (table nodes p v (with_state w u s)) ≡ cond b (pos 1) (table nodes p v w)
    go v true w u s e = refl
    go v false w u s e = e

pub values_later : (nodes : List NodeView) (marks : NodeSet) (vs : List ℕ) → IsDownward nodes vs → IgnoresLater (states_of nodes) (λ v w. marked_value nodes marks v w) vs
values_later nodes marks vs h = later_all nodes (λ v w. marked_value nodes marks v w) (values_look nodes marks) vs (parents_first nodes vs h)

pub factors_later : (nodes : List NodeView) (p : List RuleView) (out : ℕ) (vs : List ℕ) → IsDownward nodes vs → IgnoresLater (states_of nodes) (λ v w. table_without nodes p out v w) vs
factors_later nodes p out vs h = later_all nodes (λ v w. table_without nodes p out v w) (factors_look nodes p out) vs (parents_first nodes vs h)

-- only a utility has a value
pub no_value : (nodes : List NodeView) (marks : NodeSet) → MarksUtilities nodes marks → (v : ℕ) → v < length nodes → ¬ ((node_at nodes v).kind ≡ Utility) → (w : World) → pos 0 ≡ marked_value nodes marks v w
no_value nodes marks m v l not w = go (true_or_false (holds marks v))
  where
    go : (holds marks v ≡ true) ⊎ (holds marks v ≡ false) → pos 0 ≡ marked_value nodes marks v w
    go (inl e) = absurd (not (m v l e))
    go (inr e) = ap (λ b. cond b (slice_index_or (node_at nodes v).cells (row_of nodes v w) (pos 0)) (pos 0)) (sym e)

-- no value exceeds the greatest of its node
pub values_small : (nodes : List NodeView) (marks : NodeSet) → MarksUtilities nodes marks → (v : ℕ) (w : World) → nat_abs (marked_value nodes marks v w) ≤ greatest_at nodes v
values_small nodes marks m v w = go (dec_lt v (length nodes)) (true_or_false (holds marks v))
  where
    past : ¬ (v < length nodes) → length nodes ≤ v
    past n = omega arith

    unmarked : (b : Bool) → nat_abs (cond b (pos 0) (pos 0)) ≤ greatest_at nodes v
    unmarked true = omega arith
    unmarked false = omega arith

    go : Dec (v < length nodes) → (holds marks v ≡ true) ⊎ (holds marks v ≡ false) → nat_abs (marked_value nodes marks v w) ≤ greatest_at nodes v
    go (yes l) (inl e) = value_le nodes marks w v m l e
    go d (inr e) = subst (λ b. nat_abs (cond b (slice_index_or (node_at nodes v).cells (row_of nodes v w) (pos 0)) (pos 0)) ≤ greatest_at nodes v) (sym e) (omega arith)
    go (no n) (inl e) = subst (λ (x : NodeView). nat_abs (cond (holds marks v) (slice_index_or x.cells (row_of nodes v w) (pos 0)) (pos 0)) ≤ greatest_at nodes v) (sym (get_or_past nodes v no_node (past n))) (unmarked (holds marks v))

-- the same of any row
pub cells_small : (nodes : List NodeView) (marks : NodeSet) → MarksUtilities nodes marks → (v : ℕ) → v < length nodes → (row : ℕ) → nat_abs (value_at nodes marks v row) ≤ greatest_at nodes v
cells_small nodes marks m v l row = go (true_or_false (holds marks v))
  where
    go : (holds marks v ≡ true) ⊎ (holds marks v ≡ false) → nat_abs (value_at nodes marks v row) ≤ greatest_at nodes v
    go (inl e) =
        subst (λ b. nat_abs (cond b (slice_index_or (node_at nodes v).cells row (pos 0)) (pos 0)) ≤ greatest_at nodes v) (sym e)
        (subst (λ k. nat_abs (slice_index_or (node_at nodes v).cells row (pos 0)) ≤ cond (is_utility k) (greatest_abs (node_at nodes v).cells) 0) (sym (m v l e)) (cell_abs (node_at nodes v).cells row))
    go (inr e) = subst (λ b. nat_abs (cond b (slice_index_or (node_at nodes v).cells row (pos 0)) (pos 0)) ≤ greatest_at nodes v) (sym e) (omega arith)

module _ (d : DiagramView) (is : IsDiagram d) (p : List RuleView) (prof : IsProfile d.nodes p) (out : ℕ) where
  pub factors_positive : (v : ℕ) (w : World) → pos 0 ≤ℤ table_without d.nodes p out v w
  factors_positive v w = go (eqb v out)
    where
      go : (b : Bool) → pos 0 ≤ℤ cond b (pos 1) (table d.nodes p v w)
      go true = omega (arith, ints)
      go false = table_not_negative d.nodes p (tables_of d is p prof) v w

  -- the states of the decision left out count one by one
  pub factor_total : (v : ℕ) → HasTotal (states_of d.nodes) (λ v w. table_without d.nodes p out v w) (λ u. pos (base_total d.nodes p out u)) v
  factor_total v = record { sums = λ w i. go (ℕ_discrete v out) w i }
    where
      go : Dec (v ≡ out) → (w : World) → InRange (states_of d.nodes) w → sum_below (states_of d.nodes v) (λ s. table_without d.nodes p out v (with_state w v s)) ≡ pos (base_total d.nodes p out v)
      go (yes e) w i =
          sum_ones (states_of d.nodes v) (λ s. table_without d.nodes p out v (with_state w v s)) (λ s k. ap (λ b. cond b (pos 1) (table d.nodes p v (with_state w v s))) (eqb_yes v out e))
          ∙ ap pos (ap (states_of d.nodes) e ∙ sym (ap (λ b. cond b (states_of d.nodes out) (weight_total d.nodes p v)) (eqb_yes v out e)))
      go (no n) w i =
          sum_below_cong (states_of d.nodes v) (λ s. table_without d.nodes p out v (with_state w v s)) (λ s. table d.nodes p v (with_state w v s)) (λ s k. ap (λ b. cond b (pos 1) (table d.nodes p v (with_state w v s))) (eqb_no v out n))
          ∙ (has_total d.nodes p is.graph (tables_of d is p prof) v).sums w i
          ∙ ap pos (sym (ap (λ b. cond b (states_of d.nodes out) (weight_total d.nodes p v)) (eqb_no v out n)))

  pub factors_total : (vs : List ℕ) → HaveTotals (states_of d.nodes) (λ v w. table_without d.nodes p out v w) (λ u. pos (base_total d.nodes p out u)) vs
  factors_total vs = have_totals (states_of d.nodes) (λ v w. table_without d.nodes p out v w) (λ u. pos (base_total d.nodes p out u)) vs (λ v m. factor_total v)

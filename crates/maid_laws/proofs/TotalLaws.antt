-- The laws of totals and of products, for every diagram.
use Rattle.std.proofs.Common.{◌≡◌, ◌∙◌, ℕ, ◌<◌, ◌≤◌, List, [], ◌∷◌, length, refl, sym, ap, subst, inl, inr, arith, ℤ, pos, ◌*ℤ◌}
use Rattle.std.proofs.Math.Decide.{dec_lt}
use Rattle.std.proofs.Math.Path.{fun_ext}
use Rattle.maid_model.specs.Gains.{sum_worlds, weight, mass}
use Rattle.maid_model.specs.Graph.{IsGraph, Here}
use Rattle.maid_model.specs.Nodes.{node_at, no_node, states_of, numbers_of}
use Rattle.finite_sums.specs.Sums.{World, InRange, with_state, sum_below, sum_over, product_over, nat_product_over}
use Rattle.maid_model.specs.Tables.{table, table_by, weights_of, cell_of, weight_total, total_by, chance_total, rule_total}
use Rattle.maid_model.specs.Views.{NodeView, RuleView}
use Rattle.finite_sums.specs.Members.{Among, Shuffled}
use Rattle.finite_sums.specs.Looks.{Ignores, IgnoresAll, HasTotal}
use Rattle.maid_model.proofs.Setting.{HasTables}
use Rattle.finite_sums.proofs.Ints.{mul_comm, one_mul}
use Rattle.finite_sums.proofs.Lists.{all_ignored, avoids, sum_over-shuffled, product_over-shuffled}
use Rattle.finite_sums.proofs.Sums.{sum_over_product}
use Rattle.maid_model.proofs.Tables.{table-total}
use Rattle.finite_sums.proofs.Totals.{totals_out}
use Rattle.maid_laws.specs.Sums.{LawOfTotals, WeightsAddUp, LawOfProducts, SumsInAnyOrder}
use Rattle.maid_laws.proofs.Basis.{table_looks, have_totals}
use Rattle.maid_laws.proofs.Collapse.{Apart}
use Rattle.maid_laws.proofs.Members.{among_of, contains_of, apart_of, arc_of}
use Rattle.maid_laws.proofs.Notions.{IsParent}
use Rattle.maid_laws.proofs.Ordered.{totals_of}
use Rattle.maid_laws.proofs.Orders.{parent_dec, parents_path, parents_first_of}
use Rattle.maid_laws.proofs.Ranks.{past_end}
use Rattle.maid_laws.proofs.Rearranged.{apart_shuffled, among_unshuffled, range_apart, shuffled_of}
use Rattle.maid_laws.proofs.Signs.{pos_product}
use Rattle.maid_laws.proofs.Sorted.{sorted}
use Rattle.maid_laws.proofs.Summed.{later_all}
use Rattle.maid_laws.proofs.Tied.{tables_of}

module _ (nodes : List NodeView) (p : List RuleView) (g : IsGraph nodes) (t : HasTables nodes p) where
  -- each number's table has its total: past the last node it is 1
  pub has_total : (v : ℕ) → HasTotal (states_of nodes) (table nodes p) (λ v. pos (weight_total nodes p v)) v
  has_total v = go (dec_lt v (length nodes))
    where
      past : ¬ (v < length nodes) → length nodes ≤ v
      past n = omega arith

      own : ¬ (IsParent nodes v v)
      own a = g.acyclic v (v, arc_of nodes v v a, Here)

      at_end : node_at nodes v ≡ no_node → (w : World) → sum_below (states_of nodes v) (λ s. table nodes p v (with_state w v s)) ≡ pos (weight_total nodes p v)
      at_end e w =
          (λ i. sum_below (e i).states (λ s. table_by (e i).kind (e i).cells (weights_of p v) (cell_of nodes v (with_state w v s))))
          ∙ ap (λ k. pos (total_by k (chance_total nodes v) (rule_total p v))) (sym (ap (λ x. x.kind) e))

      go : Dec (v < length nodes) → HasTotal (states_of nodes) (table nodes p) (λ v. pos (weight_total nodes p v)) v
      go (yes l) = table-total nodes p (λ v. pos (weight_total nodes p v)) v (avoids v (node_at nodes v).parents own) ((totals_of nodes p t).at v l)
      go (no n) = record { sums = λ w i. at_end (past_end nodes v (past n)) w }

  -- in a list with parents first
  pub totals_at : (vs : List ℕ) (f : World → ℤ) (w : World) → Apart vs → IgnoresAll (states_of nodes) f vs → InRange (states_of nodes) w
      → sum_over (states_of nodes) vs (λ x. f x *ℤ product_over (λ v. table nodes p v x) vs) w ≡ f w *ℤ pos (nat_product_over (weight_total nodes p) vs)
  totals_at vs f w apart blind i =
      let r = sorted (IsParent nodes) (parent_dec nodes) (λ v h. g.acyclic v (h.0, arc_of nodes v h.0 h.1, parents_path nodes h.2)) vs in
      let apart_r : Apart r.0 = apart_shuffled r.1 apart in
      ap (λ h. sum_over (states_of nodes) vs h w) (fun_ext (λ x. ap (λ y. f x *ℤ y) (product_over-shuffled (λ v. table nodes p v x) r.1)))
      ∙ sum_over-shuffled (states_of nodes) (λ x. f x *ℤ product_over (λ v. table nodes p v x) r.0) r.1 w
      ∙ totals_out (states_of nodes) (table nodes p) (λ v. pos (weight_total nodes p v)) [] r.0 f (moved r.1 blind)
      (later_all nodes (table nodes p) (table_looks nodes p) r.0 (parents_first_of nodes r.0 apart_r r.2))
      (have_totals (states_of nodes) (table nodes p) (λ v. pos (weight_total nodes p v)) r.0 (λ v m. has_total v)) w i
      ∙ mul_comm (product_over (λ v. pos (weight_total nodes p v)) r.0) (f w)
      ∙ ap (λ y. f w *ℤ y) (sym (product_over-shuffled (λ v. pos (weight_total nodes p v)) r.1) ∙ pos_product (weight_total nodes p) vs)
    where
      at_member : (us : List ℕ) → IgnoresAll (states_of nodes) f us → (u : ℕ) → Among u us → Ignores (states_of nodes) f u
      at_member [] h u m = absurd m
      at_member (x ∷ us) h u (inl e) = subst (Ignores (states_of nodes) f) (sym e) h.0
      at_member (x ∷ us) h u (inr m) = at_member us h.1 u m

      moved : {ys : List ℕ} → Shuffled vs ys → IgnoresAll (states_of nodes) f vs → IgnoresAll (states_of nodes) f ys
      moved {ys} s h = all_ignored (states_of nodes) f ys (λ u m. at_member vs h u (among_unshuffled u s m))

-- for every diagram
pub totals_law : LawOfTotals
totals_law nodes p vs f w g c h apart blind i = totals_at nodes p g (tables_of nodes p g c h) vs f w (apart_of vs apart) blind i

-- all nodes, and the factor 1
pub weights_law : WeightsAddUp
weights_law nodes p g c h =
    ap (sum_worlds nodes) (fun_ext (λ x. sym (one_mul (weight nodes p x))))
    ∙ totals_at nodes p g (tables_of nodes p g c h) (numbers_of nodes) (λ x. pos 1) (λ v. 0) (range_apart 0 (length nodes))
    (all_ignored (states_of nodes) (λ x. pos 1) (numbers_of nodes) (λ u m. record { same = λ w i s l. refl })) (record { state = g.has_state })
    ∙ one_mul (pos (mass nodes p))

-- for any counts
pub products_law : LawOfProducts
products_law count us vs f g w hf hg i = sum_over_product count us vs f g hf hg w i

-- the lists are rearrangements of each other
pub any_order_law : SumsInAnyOrder
any_order_law count xs ys f w ax ay same =
    sum_over-shuffled count f
    (shuffled_of xs ys (apart_of xs ax) (apart_of ys ay) (λ v m. among_of v ys ((same v).0 (contains_of v xs m))) (λ v m. among_of v xs ((same v).1 (contains_of v ys m)))) w

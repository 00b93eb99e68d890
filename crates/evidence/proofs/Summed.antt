-- The plans that keep x sum to the weight of the worlds with a state at x, and to a utility's part
-- of a gain over them, but for the totals that they lack.
use Rattle.std.proofs.Common.{◌≡◌, ◌⊎◌, ◌∙◌, ℕ, ◌*◌, ◌<◌, false, cond, eqb, filter, List, [], ◌∷◌, Option, Some, None, length, refl, sym, ap, inl, inr, ℤ, pos, ◌*ℤ◌}
use Rattle.std.proofs.Math.Path.{fun_ext}
use Rattle.maid_model.specs.Gains.{sum_worlds, weight}
use Rattle.maid_model.specs.Graph.{IsGraph}
use Rattle.maid_model.specs.Nodes.{states_of, numbers_of}
use Rattle.maid_model.specs.Tables.{table, weight_total}
use Rattle.maid_model.specs.Views.{NodeView, RuleView}
use Rattle.maid_model.proofs.Setting.{HasTables}
use Rattle.finite_sums.specs.Looks.{Ignores}
use Rattle.finite_sums.specs.Members.{Among}
use Rattle.finite_sums.specs.Sums.{World, InRange, sum_over, product_over}
use Rattle.finite_sums.proofs.Ints.{mul_comm, mul_one, one_mul}
use Rattle.finite_sums.proofs.Lists.{among_filter}
use Rattle.maid_laws.proofs.Basis.{table_looks, among_filter_in}
use Rattle.maid_laws.proofs.Booleans.{eqb_yes, eqb_no, not_both}
use Rattle.maid_laws.proofs.Collapse.{one_if, one_if-cond, agree}
use Rattle.maid_laws.proofs.OneUtility.{agree_cases}
use Rattle.maid_laws.proofs.Rearranged.{number}
use Rattle.maid_laws.proofs.Signs.{pos_product}
use Rattle.maid_laws.proofs.TotalLaws.{has_total}
use Rattle.cell_rings.specs.Rings.{mass_ring, gain_ring}
use Rattle.cell_rings.specs.RingLaws.{gain_is_ring, mass_to_gain}
use Rattle.ring_sums.specs.Tables.{product_of}
use Rattle.ring_sums.proofs.Sums.{map_over}
use Rattle.ring_sums.proofs.SumLaws.{sums_worlds}
use Rattle.plan_sums.specs.Laws.{missing_total}
use Rattle.plan_sums.specs.Plans.{PlanView, mass_cells, gain_cells, has, in_plan, plan_nodes, eliminated_nodes, lacking_nodes, first_tables, value_of, ruled_nodes, plan_sum}
use Rattle.plan_sums.proofs.Closed.{plan_closed, kept_in, value_parent_in}
use Rattle.plan_sums.proofs.Core.{planned}
use Rattle.plan_sums.proofs.Filters.{filter_all, has_yes, has_member}
use Rattle.plan_sums.proofs.Looks.{value_ignores}
use Rattle.plan_sums.proofs.Products.{mass_first, gain_first}
use Rattle.reach_laws.specs.Evidence.{cell_in, mass_given}
use Rattle.evidence.specs.Sizes.{plan_given}

module _ (nodes : List NodeView) (p : List RuleView) (g : IsGraph nodes) (t : HasTables nodes p) (x : ℕ) (x_in : x < length nodes) (q : World) (i : InRange (states_of nodes) q) where
  abbrev total : ℕ → ℤ
  total v = pos (weight_total nodes p v)

  module _ (utility : Option ℕ) where
    abbrev plan : PlanView
    plan = plan_given x utility

    -- of the plan's nodes x alone is fixed
    abbrev fixed : List ℕ
    fixed = filter (λ v. has (x ∷ []) v) (plan_nodes nodes plan)

    x_fixed : Among x fixed
    x_fixed = among_filter_in (λ v. has (x ∷ []) v) x (plan_nodes nodes plan) (among_filter_in (λ v. in_plan nodes plan v) x (numbers_of nodes) (number nodes x x_in) (kept_in nodes g plan x (inl refl))) (has_yes x (x ∷ []) (inl refl))

    fixed_x : (o : ℕ) → Among o fixed → o ≡ x
    fixed_x o m = elim (has_member o (x ∷ []) (among_filter (λ v. has (x ∷ []) v) o (plan_nodes nodes plan) m).1) [ inl e ↦ e | inr k ↦ absurd k ]

    at_x : (w : World) → one_if (eqb (w x) (q x)) ≡ agree fixed q w
    at_x w = go (agree_cases fixed q w)
      where
        go : ((agree fixed q w ≡ pos 1) × ((o : ℕ) → Among o fixed → w o ≡ q o)) ⊎ ((agree fixed q w ≡ pos 0) × ¬ ((o : ℕ) → Among o fixed → w o ≡ q o)) → one_if (eqb (w x) (q x)) ≡ agree fixed q w
        go (inl r) = ap one_if (eqb_yes (w x) (q x) (r.1 x x_fixed)) ∙ sym r.0
        go (inr r) = ap one_if (eqb_no (w x) (q x) (λ e. r.1 (λ o m. ap w (fixed_x o m) ∙ e ∙ ap q (sym (fixed_x o m))))) ∙ sym r.0

    -- for any factor that looks at nodes of the plan
    plan_part : (f : World → ℤ) → ((z : ℕ) → in_plan nodes plan z ≡ false → Ignores (states_of nodes) f z)
        → pos (missing_total nodes p plan) *ℤ sum_over (states_of nodes) (eliminated_nodes nodes plan) (λ y. f y *ℤ product_over (λ v. table nodes p v y) (ruled_nodes nodes plan)) q
        ≡ sum_worlds nodes (λ w. cond (eqb (w x) (q x)) (weight nodes p w *ℤ f w) (pos 0))
    plan_part f out =
        ap (λ l. pos (missing_total nodes p plan) *ℤ sum_over (states_of nodes) (eliminated_nodes nodes plan) (λ y. f y *ℤ product_over (λ v. table nodes p v y) l) q) (filter_all (plan_nodes nodes plan))
        ∙ ap (λ z. z *ℤ sum_over (states_of nodes) (eliminated_nodes nodes plan) (λ y. f y *ℤ product_over (λ v. table nodes p v y) (plan_nodes nodes plan)) q) (sym (pos_product (weight_total nodes p) (lacking_nodes nodes plan)))
        ∙ sym (planned nodes g (table nodes p) (table_looks nodes p) total (λ v. in_plan nodes plan v) (λ v. has (x ∷ []) v) (plan_closed nodes g plan) (λ v e. has_total nodes p g t v) f out q i)
        ∙ ap (sum_worlds nodes) (fun_ext (λ w. ap (λ z. z *ℤ (weight nodes p w *ℤ f w)) (sym (at_x w)) ∙ sym (one_if-cond (eqb (w x) (q x)) (weight nodes p w *ℤ f w))))

  -- ---- with a utility
  module _ (u : ℕ) where
    abbrev plan_u : PlanView
    plan_u = plan_given x (Some u)

    value_out : (z : ℕ) → in_plan nodes plan_u z ≡ false → Ignores (states_of nodes) (value_of nodes u) z
    value_out z e = record { same = λ w j s l. (value_ignores gain_cells nodes p u z (λ a. not_both (in_plan nodes plan_u z) (value_parent_in nodes g plan_u u z refl a) e)).same w j s l }

    pub worth_is : plan_sum gain_cells nodes p plan_u q *ℤ pos (missing_total nodes p plan_u) ≡ sum_worlds nodes (λ w. cond (eqb (w x) (q x)) (weight nodes p w *ℤ cell_in nodes u w) (pos 0))
    worth_is =
        mul_comm (plan_sum gain_cells nodes p plan_u q) (pos (missing_total nodes p plan_u))
        ∙ ap (λ z. pos (missing_total nodes p plan_u) *ℤ z)
        (sums_worlds (states_of nodes) (eliminated_nodes nodes plan_u) (product_of gain_ring (first_tables gain_cells nodes p plan_u)) q
        ∙ ap (λ h. sum_over (states_of nodes) (eliminated_nodes nodes plan_u) h q) (fun_ext (λ y. gain_first nodes p t plan_u y u refl ∙ mul_comm (product_over (λ v. table nodes p v y) (ruled_nodes nodes plan_u)) (value_of nodes u y))))
        ∙ plan_part (Some u) (value_of nodes u) value_out

  -- ---- without one
  abbrev plan_x : PlanView
  plan_x = plan_given x None

  -- the plan's sum as a whole number
  sum_x : pos (plan_sum mass_cells nodes p plan_x q) ≡ sum_over (states_of nodes) (eliminated_nodes nodes plan_x) (λ y. pos 1 *ℤ product_over (λ v. table nodes p v y) (ruled_nodes nodes plan_x)) q
  sum_x =
      map_over mass_ring gain_ring pos mass_to_gain gain_is_ring (states_of nodes) (eliminated_nodes nodes plan_x) (product_of mass_ring (first_tables mass_cells nodes p plan_x)) q
      ∙ sums_worlds (states_of nodes) (eliminated_nodes nodes plan_x) (λ y. pos (product_of mass_ring (first_tables mass_cells nodes p plan_x) y)) q
      ∙ ap (λ h. sum_over (states_of nodes) (eliminated_nodes nodes plan_x) h q) (fun_ext (λ y. mass_first nodes p t plan_x y refl ∙ sym (one_mul (product_over (λ v. table nodes p v y) (ruled_nodes nodes plan_x)))))

  pub mass_is : pos (plan_sum mass_cells nodes p plan_x q * missing_total nodes p plan_x) ≡ mass_given nodes p x (q x)
  mass_is =
      mul_comm (pos (plan_sum mass_cells nodes p plan_x q)) (pos (missing_total nodes p plan_x))
      ∙ ap (λ z. pos (missing_total nodes p plan_x) *ℤ z) sum_x
      ∙ plan_part None (λ y. pos 1) (λ z e. record { same = λ w j s l. refl })
      ∙ ap (sum_worlds nodes) (fun_ext (λ w. ap (λ z. cond (eqb (w x) (q x)) z (pos 0)) (mul_one (weight nodes p w))))

-- The plans that keep x in an agent's scope: their sums are those of the whole, but for the totals
-- left out, and they keep the scope's P.
use Rattle.std.proofs.Common.{◌≡◌, ◌∙◌, ℕ, ◌*◌, ◌<◌, ◌≤◌, Bool, true, false, cond, List, [], ◌∷◌, Option, Some, None, Contains, length, slice_index_or, refl, sym, ap, subst, inl, inr, eqb, ℤ, pos, ◌*ℤ◌, nat_abs, le_trans, le_refl, le_of_eq, mul-le-mul}
use Rattle.maid_model.specs.declared.diagrams.Kind.TheVariants.{Utility}
use Rattle.maid_model.specs.Gains.{greatest_abs, sum_worlds, weight}
use Rattle.maid_model.specs.Graph.{IsGraph}
use Rattle.maid_model.specs.Nodes.{is_utility, is_utility_of, node_at, numbers_of, owns, states_of}
use Rattle.maid_model.specs.Parts.{mass_left_out}
use Rattle.maid_model.specs.Profiles.{IsProfile}
use Rattle.maid_model.specs.Scopes.{chance_factor, utilities_for}
use Rattle.maid_model.specs.Tables.{HasChanceTables, chance_total, rule_total, row_of, table, weight_total}
use Rattle.maid_model.specs.Views.{NodeView, RuleView}
use Rattle.maid_model.proofs.Setting.{HasTables}
use Rattle.maid_model.proofs.Weighing.{product_positive}
use Rattle.finite_sums.specs.Members.{Among}
use Rattle.finite_sums.specs.Sums.{World, InRange, nat_product_over}
use Rattle.finite_sums.proofs.Ints.{mul_zero, products}
use Rattle.finite_sums.proofs.Members.{filter_has}
use Rattle.maid_laws.proofs.Members.{among_of}
use Rattle.maid_laws.proofs.Proportions.{kind_of_utility, sum_each_cong}
use Rattle.maid_laws.proofs.Rearranged.{number, numbered}
use Rattle.maid_laws.proofs.Tied.{tables_of, decision_of}
use Rattle.cell_rings.specs.Rings.{mass_ring, gain_ring}
use Rattle.cell_rings.specs.RingLaws.{mass_is_ring, abs_mul}
use Rattle.ring_sums.specs.Sums.{ring_product}
use Rattle.ring_sums.specs.Tables.{product_of}
use Rattle.ring_sums.proofs.Bounds.{over_le}
use Rattle.part_laws.specs.ScopeLaws.{HasUnitRules}
use Rattle.part_laws.proofs.PartLaws.{ancestors_law, listed_kept}
use Rattle.part_laws.proofs.PartNodes.{Closed, closed_of}
use Rattle.part_laws.proofs.PartSums.{and_both}
use Rattle.part_laws.proofs.ScopeBounds.{chances_positive}
use Rattle.part_laws.proofs.ScopeLaws.{utilities_inside}
use Rattle.plan_sums.specs.Laws.{missing_total}
use Rattle.plan_sums.specs.Plans.{PlanView, mass_cells, gain_cells, in_plan, eliminated_nodes, ruled_nodes, first_tables, value_of, plan_sum}
use Rattle.plan_sums.proofs.Products.{first_product, gain_first, abs_product}
use Rattle.plan_sums.proofs.Results.{weights_le, gains_le}
use Rattle.plan_sums.proofs.Sized.{nat_product_is, cell_le}
use Rattle.plan_sums.proofs.Added.{sum_each_mul}
use Rattle.scope_sums.specs.Missing.{lacking_in}
use Rattle.scope_sums.proofs.Kept.{tables_fit}
use Rattle.scope_sums.proofs.Lacking.{plan_inside}
use Rattle.scope_sums.proofs.Summed.{product_at, missing_is}
use Rattle.scope_sums.proofs.Agents.{unit_factor}
use Rattle.reach_laws.specs.Evidence.{UtilityByUtility, cell_in, gain_given, mass_given}
use Rattle.weight_scale.specs.Given.{product_given, scope_given}
use Rattle.evidence.specs.Sizes.{plan_given}
use Rattle.evidence.specs.Stakes.{HasWorthsAt, IsMassAt, chances_lacking, share_given, scope_gain_given, scope_mass_given}
use Rattle.evidence.proofs.Summed as summed

module _ (nodes : List NodeView) (x agent : ℕ) (g : IsGraph nodes) (x_in : x < length nodes) where
  abbrev targets : List ℕ
  targets = x ∷ utilities_for nodes agent

  abbrev kept : List ℕ
  kept = scope_given nodes x agent

  target_in : (u : ℕ) → Among u targets → u < length nodes
  target_in u (inl e) = subst (λ z. z < length nodes) (sym e) x_in
  target_in u (inr m) = utilities_inside nodes g agent u m

  pub closed : Closed nodes kept
  closed = closed_of nodes kept (ancestors_law nodes targets g (λ v c. target_in v (among_of v targets c))).0

  target_kept : (u : ℕ) → Among u targets → Among u kept
  target_kept u m = listed_kept nodes targets g target_in u m

  keep_kept : (v : ℕ) → Contains (x ∷ []) v → Among v kept
  keep_kept v c = elim (among_of v (x ∷ []) c) [
    | inl e ↦ target_kept v (inl e)
    | inr m ↦ absurd m
  ]

  -- the plan without a utility, and that with a utility of the agent, have nodes of the scope alone
  pub alone_inside : (v : ℕ) → in_plan nodes (plan_given x None) v ≡ true → Among v kept
  alone_inside = plan_inside nodes kept closed (plan_given x None) keep_kept (λ u e. absurd (none u e))
    where
      none : (u : ℕ) → None ≡ Some u → ⊥
      none u e = cc

  pub utility_inside : (u : ℕ) → Among u (utilities_for nodes agent) → (v : ℕ) → in_plan nodes (plan_given x (Some u)) v ≡ true → Among v kept
  utility_inside u m = plan_inside nodes kept closed (plan_given x (Some u)) keep_kept (λ z e. subst (λ y. Among y kept) (same u z e) (target_kept u (inr m)))
    where
      same : (a b : ℕ) → Some a ≡ Some b → a ≡ b
      same a b e = cc

  -- ---- a plan of the scope
  module _ (utility : Option ℕ) (inside : (v : ℕ) → in_plan nodes (plan_given x utility) v ≡ true → Among v kept) (h : HasChanceTables nodes) where
    abbrev plan : PlanView
    plan = plan_given x utility

    abbrev lacking : ℕ
    lacking = chances_lacking nodes x agent utility

    -- what it lacks in the scope
    pub lacking_positive : 0 < lacking
    lacking_positive = product_positive (chance_factor nodes) (lacking_in nodes kept plan) (chances_positive nodes h)

    -- the totals of its tables, times the chance totals that it lacks, are P where no rule's total
    -- counts
    pub tables_within : (p : List RuleView) → ((v : ℕ) → Among v (ruled_nodes nodes plan) → weight_total nodes p v ≡ chance_factor nodes v)
        → nat_product_over (weight_total nodes p) (ruled_nodes nodes plan) * lacking ≤ product_given nodes x agent
    tables_within p factor = tables_fit nodes kept closed plan inside (chance_factor nodes) (chances_positive nodes h) (weight_total nodes p) (chance_factor nodes) (λ v m. le_of_eq (factor v m)) (λ v m. le_refl (chance_factor nodes v))

  -- ---- with pure rules
  module _ (p : List RuleView) (h : HasChanceTables nodes) (r : IsProfile nodes p) (unit : HasUnitRules nodes p) where
    t : HasTables nodes p
    t = tables_of nodes p g h r

    factor_is : (v : ℕ) → weight_total nodes p v ≡ chance_factor nodes v
    factor_is v = unit_factor (node_at nodes v).kind (chance_total nodes v) (rule_total p v) (λ e. unit v (decision_of nodes v e))

    -- the totals left out
    abbrev pub left : ℕ
    left = mass_left_out nodes p kept

    -- what a plan of the scope lacks: the totals left out, and the chance totals that it lacks in
    -- the scope
    pub lacks : (utility : Option ℕ) → ((v : ℕ) → in_plan nodes (plan_given x utility) v ≡ true → Among v kept) → missing_total nodes p (plan_given x utility) ≡ left * chances_lacking nodes x agent utility
    lacks utility inside =
        missing_is nodes p kept closed (plan_given x utility) inside
        ∙ ap (λ n. left * n) (product_at (weight_total nodes p) (chance_factor nodes) (lacking_in nodes kept (plan_given x utility)) (λ v m. factor_is v))

    -- pure rules have totals that don't count
    pub pure_within : (utility : Option ℕ) → ((v : ℕ) → in_plan nodes (plan_given x utility) v ≡ true → Among v kept)
        → nat_product_over (weight_total nodes p) (ruled_nodes nodes (plan_given x utility)) * chances_lacking nodes x agent utility ≤ product_given nodes x agent
    pure_within utility inside = tables_within utility inside h p (λ v m. factor_is v)

    none_some : (d : ℕ) → None ≡ Some d → ⊥
    none_some d e = cc

    -- ---- the weight
    module _ (state mass : ℕ) (q : World) (i : InRange (states_of nodes) q) (at : q x ≡ state) (is : IsMassAt nodes p x state mass) where
      pub mass_whole : mass_given nodes p x state ≡ pos (left * scope_mass_given nodes x agent mass)
      mass_whole =
          ap (mass_given nodes p x) (sym at)
          ∙ sym (summed.mass_is nodes p g t x x_in q i)
          ∙ ap pos ((λ j. sym (is q i at) j * lacks None alone_inside j) ∙ regroup mass left (chances_lacking nodes x agent None))
        where
          regroup : (a b c : ℕ) → a * (b * c) ≡ b * (a * c)
          regroup a b c = sym (mass_is_ring.times_assoc a b c) ∙ ap (λ n. n * c) (mass_is_ring.times_comm a b) ∙ mass_is_ring.times_assoc b a c

      pub mass_within : scope_mass_given nodes x agent mass ≤ product_given nodes x agent
      mass_within = le_trans (mul-le-mul sum_le (le_refl (chances_lacking nodes x agent None))) (pure_within None alone_inside)
        where
          sum_le : mass ≤ nat_product_over (weight_total nodes p) (ruled_nodes nodes (plan_given x None))
          sum_le =
              le_trans (le_of_eq (is q i at))
              (le_trans (over_le (states_of nodes) (eliminated_nodes nodes (plan_given x None)) (product_of mass_ring (first_tables mass_cells nodes p (plan_given x None))) (λ y. ring_product mass_ring (λ v. nat_abs (table nodes p v y)) (ruled_nodes nodes (plan_given x None)))
              (λ y j. le_of_eq (first_product mass_cells mass_is_ring nodes p (plan_given x None) y ∙ mass_is_ring.times_unit (ring_product mass_ring (λ v. nat_abs (table nodes p v y)) (ruled_nodes nodes (plan_given x None))))) q i)
              (le_trans (weights_le nodes p g t (plan_given x None) (λ d e. absurd (none_some d e)) q i)
              (le_of_eq (nat_product_is (weight_total nodes p) (ruled_nodes nodes (plan_given x None))))))

    -- ---- the worths
    module _ (state : ℕ) (worths : List ℤ) (q : World) (i : InRange (states_of nodes) q) (at : q x ≡ state) (has : HasWorthsAt nodes p x state worths) where
      abbrev worth : ℕ → ℤ
      worth u = slice_index_or worths u (pos 0)

      kind_is : (u : ℕ) → is_utility_of nodes agent u ≡ true → (node_at nodes u).kind ≡ Utility
      kind_is u e = kind_of_utility (node_at nodes u).kind (and_both (is_utility (node_at nodes u).kind) (owns nodes agent u) e).0

      listed : (u : ℕ) → u < length nodes → is_utility_of nodes agent u ≡ true → Among u (utilities_for nodes agent)
      listed u l e = filter_has (is_utility_of nodes agent) u (numbers_of nodes) (number nodes u l) e

      worth_sum : (u : ℕ) → u < length nodes → is_utility_of nodes agent u ≡ true → worth u ≡ plan_sum gain_cells nodes p (plan_given x (Some u)) q
      worth_sum u l e = has.each u l (kind_is u e) q i at

      -- the part of one utility
      abbrev part : ℕ → ℤ
      part u = sum_worlds nodes (λ w. cond (eqb (w x) state) (weight nodes p w *ℤ cell_in nodes u w) (pos 0))

      part_is : (u : ℕ) → u < length nodes → is_utility_of nodes agent u ≡ true → part u ≡ pos left *ℤ (worth u *ℤ pos (chances_lacking nodes x agent (Some u)))
      part_is u l e =
          ap (λ s. sum_worlds nodes (λ w. cond (eqb (w x) s) (weight nodes p w *ℤ cell_in nodes u w) (pos 0))) (sym at)
          ∙ sym (summed.worth_is nodes p g t x x_in q i u)
          ∙ (λ j. sym (worth_sum u l e) j *ℤ pos (lacks (Some u) (utility_inside u (listed u l e)) j))
          ∙ regroup (worth u) left (chances_lacking nodes x agent (Some u))
        where
          regroup : (a : ℤ) (b c : ℕ) → a *ℤ pos (b * c) ≡ pos b *ℤ (a *ℤ pos c)
          regroup a b c = simp products

      pub gain_whole : UtilityByUtility → gain_given nodes p agent x state ≡ pos left *ℤ scope_gain_given nodes x agent worths
      gain_whole law =
          law nodes p agent x state
          ∙ sum_each_cong (λ u. cond (is_utility_of nodes agent u) (part u) (pos 0)) (λ u. pos left *ℤ share_given nodes x agent worths u) (numbers_of nodes) (λ u m. each u (numbered nodes u m) (is_utility_of nodes agent u) refl)
          ∙ sym (sum_each_mul (pos left) (share_given nodes x agent worths) (numbers_of nodes))
        where
          each : (u : ℕ) → u < length nodes → (b : Bool) → is_utility_of nodes agent u ≡ b → cond b (part u) (pos 0) ≡ pos left *ℤ cond b (worth u *ℤ pos (chances_lacking nodes x agent (Some u))) (pos 0)
          each u l true e = part_is u l e
          each u l false e = sym (mul_zero (pos left))

      pub worth_within : (u : ℕ) → u < length nodes → is_utility_of nodes agent u ≡ true → nat_abs (worth u *ℤ pos (chances_lacking nodes x agent (Some u))) ≤ product_given nodes x agent * greatest_abs (node_at nodes u).cells
      worth_within u l e =
          le_trans (le_of_eq (abs_mul (worth u) (pos lacking)))
          (le_trans (mul-le-mul sum_le (le_refl lacking))
          (le_trans (le_of_eq (mass_is_ring.times_assoc top (nat_product_over (weight_total nodes p) (ruled_nodes nodes plan)) lacking))
          (le_trans (mul-le-mul (le_refl top) (pure_within (Some u) (utility_inside u (listed u l e)))) (le_of_eq (mass_is_ring.times_comm top (product_given nodes x agent))))))
        where
          plan : PlanView
          plan = plan_given x (Some u)

          lacking : ℕ
          lacking = chances_lacking nodes x agent (Some u)

          top : ℕ
          top = greatest_abs (node_at nodes u).cells

          sum_le : nat_abs (worth u) ≤ top * nat_product_over (weight_total nodes p) (ruled_nodes nodes plan)
          sum_le =
              le_trans (le_of_eq (ap nat_abs (worth_sum u l e)))
              (le_trans (gains_le nodes p g t plan (λ d k. absurd (none_some d k)) (product_of gain_ring (first_tables gain_cells nodes p plan)) top small q i)
              (le_of_eq (ap (λ n. top * n) (nat_product_is (weight_total nodes p) (ruled_nodes nodes plan)))))
            where
              small : (y : World) → nat_abs (product_of gain_ring (first_tables gain_cells nodes p plan) y) ≤ ring_product mass_ring (λ v. nat_abs (table nodes p v y)) (ruled_nodes nodes plan) * top
              small y = subst (λ z. nat_abs z ≤ ring_product mass_ring (λ v. nat_abs (table nodes p v y)) (ruled_nodes nodes plan) * top) (sym (gain_first nodes p t plan y u refl))
                  (abs_product nodes p (ruled_nodes nodes plan) y (value_of nodes u y) top (cell_le (node_at nodes u).cells (row_of nodes u y)))

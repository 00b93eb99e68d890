-- The plans of a scope keep its P.
use Rattle.std.proofs.Common.{◌≡◌, ◌≢◌, ◌∙◌, ℕ, ◌*◌, ◌<◌, ◌≤◌, Bool, true, false, not, cond, eqb, List, [], ◌∷◌, refl, sym, ap, subst, inl, arith, pos, nat_abs, le_trans, le_refl, le_of_eq, mul-le-mul, option_to_list}
use Rattle.std.proofs.Math.Decide.{ℕ_discrete}
use Rattle.std.proofs.Math.Nat.{mul-le-mul_right, le_of_mul-le-mul_left}
use Rattle.maid_model.specs.declared.diagrams.Kind.{Kind}
use Rattle.maid_model.specs.declared.diagrams.Kind.TheVariants.{Chance, Decision, Utility}
use Rattle.maid_model.specs.Bounds.{bound_by, bound_factor}
use Rattle.maid_model.specs.Gains.{greatest_abs, base_total, base_mass}
use Rattle.maid_model.specs.Graph.{IsGraph}
use Rattle.maid_model.specs.Nodes.{IsDecision, node_at, states_of, numbers_of}
use Rattle.maid_model.specs.Parts.{left_out, mass_left_out}
use Rattle.maid_model.specs.Relevance.{IsGoal}
use Rattle.maid_model.specs.Scopes.{scope_of, scope_product}
use Rattle.maid_model.specs.Tables.{weight_total, total_by, chance_total, rule_total}
use Rattle.maid_model.specs.Views.{NodeView, RuleView}
use Rattle.maid_model.proofs.Setting.{HasTables}
use Rattle.maid_model.proofs.Weighing.{product_positive}
use Rattle.finite_sums.specs.Members.{Among}
use Rattle.finite_sums.specs.Sums.{World, InRange, nat_product_over}
use Rattle.finite_sums.proofs.Lists.{among_filter}
use Rattle.maid_laws.proofs.Booleans.{eqb_yes, eqb_no, not_both}
use Rattle.maid_laws.proofs.Grouped.{passes_not}
use Rattle.maid_laws.proofs.Tied.{tables_of, decision_of}
use Rattle.cell_rings.specs.Rings.{mass_ring}
use Rattle.cell_rings.specs.RingLaws.{mass_is_ring, abs_mul}
use Rattle.ring_sums.proofs.Sums.{mul_left_comm}
use Rattle.part_laws.specs.ScopeLaws.{HasSmallRules}
use Rattle.part_laws.proofs.NaturalSums.{product_le, some_factors_le}
use Rattle.part_laws.proofs.PartLaws.{positive_law}
use Rattle.part_laws.proofs.PartNodes.{Closed}
use Rattle.part_laws.proofs.PartSums.{is_out}
use Rattle.part_laws.proofs.ScopeBounds.{factors_positive}
use Rattle.plan_sums.specs.Plans.{PlanView, mass_cells, gain_cells, has, in_plan, plan_nodes, ruled_nodes, plan_sum, row_plan, gain_plan}
use Rattle.plan_sums.proofs.Closed.{kept_in, own_row_out}
use Rattle.plan_sums.proofs.Filters.{has_yes}
use Rattle.plan_sums.proofs.Results.{results_keep_bounds}
use Rattle.scope_sums.specs.Missing.{lacking_in, missing_in, missing_in_without}
use Rattle.scope_sums.specs.Laws.{ScopesFitPlans, MissingIsPositive}
use Rattle.scope_sums.proofs.Lacking.{all_nodes, kept_nodes_are}
use Rattle.scope_sums.proofs.Summed.{product_at, missing_is, missing_without_is, scope_is_closed, own_in_scope, row_inside, gain_inside}

-- ---- what is missing
-- d's own may be left out
without_positive : (nodes : List NodeView) (p : List RuleView) (t : HasTables nodes p) (d v : ℕ) → 0 < cond (eqb v d) 1 (weight_total nodes p v)
without_positive nodes p t d v = go (eqb v d) (t.positive v)
  where
    go : (b : Bool) → 0 < weight_total nodes p v → 0 < cond b 1 (weight_total nodes p v)
    go true h = omega arith
    go false h = h

pub positive_missing_law : MissingIsPositive
positive_missing_law nodes p kept plan g h r =
    let t = tables_of nodes p g h r in (
      product_positive (weight_total nodes p) (lacking_in nodes kept plan) t.positive,
      λ d. product_positive (λ v. cond (eqb v d) 1 (weight_total nodes p v)) (lacking_in nodes kept plan) (without_positive nodes p t d),
    )

-- ---- numbers
-- a factor of a bounded product
pub second_fits : (a b m : ℕ) → 0 < a → a * b ≤ m → b ≤ m
second_fits a b m h k = omega (arith, mul-le-mul_right b h)

-- a common factor taken off
pub taken_off : (l s x m : ℕ) → 0 < l → s * (l * x) ≤ l * m → s * x ≤ m
taken_off l s x m h k = le_of_mul-le-mul_left (subst (λ z. z ≤ l * m) (mul_left_comm mass_ring mass_is_ring s l x) k) h

-- ---- tables of a plan and those that it lacks
module _ (nodes : List NodeView) (kept : List ℕ) (c : Closed nodes kept) (plan : PlanView) (inside : (v : ℕ) → in_plan nodes plan v ≡ true → Among v kept) (bound : ℕ → ℕ) (positive : (v : ℕ) → 0 < bound v) where
  -- where each counts at most its factor
  pub tables_fit : (f h : ℕ → ℕ) → ((v : ℕ) → Among v (ruled_nodes nodes plan) → f v ≤ bound v) → ((v : ℕ) → Among v (lacking_in nodes kept plan) → h v ≤ bound v)
      → nat_product_over f (ruled_nodes nodes plan) * nat_product_over h (lacking_in nodes kept plan) ≤ nat_product_over bound kept
  tables_fit f h k l =
      go (nat_product_over f (ruled_nodes nodes plan)) (nat_product_over h (lacking_in nodes kept plan)) (nat_product_over bound (plan_nodes nodes plan)) (nat_product_over bound (lacking_in nodes kept plan)) (nat_product_over bound kept)
      (le_trans (product_le f bound (ruled_nodes nodes plan) k) (some_factors_le bound (λ v. not (has (option_to_list plan.without) v)) (plan_nodes nodes plan) (λ v. positive v)))
      (product_le h bound (lacking_in nodes kept plan) l)
      (kept_nodes_are nodes kept c plan inside bound)
    where
      go : (a b x y m : ℕ) → a ≤ x → b ≤ y → m ≡ y * x → a * b ≤ m
      go a b x y m h k e = le_trans (mul-le-mul h k) (le_of_eq (mass_is_ring.times_comm x y ∙ sym e))

-- ---- factors
-- a table's or a rule's total, where the rule is small
small_factor : (k : Kind) (chance rule states : ℕ) → (k ≡ Decision → rule ≤ states) → total_by k chance rule ≤ bound_by k chance states
small_factor Chance chance rule states h = le_refl chance
small_factor Decision chance rule states h = h refl
small_factor Utility chance rule states h = le_refl 1

module _ (nodes : List NodeView) (p : List RuleView) (d : ℕ) (g : IsGraph nodes) (t : HasTables nodes p) (is : IsDecision nodes d) (small : HasSmallRules nodes p d) where
  weight_fits : (v : ℕ) → v ≢ d → weight_total nodes p v ≤ bound_factor nodes v
  weight_fits v n = small_factor (node_at nodes v).kind (chance_total nodes v) (rule_total p v) (states_of nodes v) (λ e. small v (decision_of nodes v e) n)

  -- d's own is the count of its states, or 1
  base_fits : (v : ℕ) → base_total nodes p d v ≤ bound_factor nodes v
  base_fits v = go (ℕ_discrete v d)
    where
      go : Dec (v ≡ d) → base_total nodes p d v ≤ bound_factor nodes v
      go (yes e) = le_of_eq (ap (λ b. cond b (states_of nodes d) (weight_total nodes p v)) (eqb_yes v d e) ∙ sym (ap (bound_factor nodes) e ∙ ap (λ k. bound_by k (chance_total nodes d) (states_of nodes d)) is.kind))
      go (no n) = subst (λ z. z ≤ bound_factor nodes v) (sym (ap (λ b. cond b (states_of nodes d) (weight_total nodes p v)) (eqb_no v d n))) (weight_fits v n)

  without_fits : ((v : ℕ) → 0 < bound_factor nodes v) → (v : ℕ) → cond (eqb v d) 1 (weight_total nodes p v) ≤ bound_factor nodes v
  without_fits some v = go (ℕ_discrete v d)
    where
      go : Dec (v ≡ d) → cond (eqb v d) 1 (weight_total nodes p v) ≤ bound_factor nodes v
      go (yes e) = subst (λ z. z ≤ bound_factor nodes v) (sym (ap (λ b. cond b 1 (weight_total nodes p v)) (eqb_yes v d e))) (some v)
      go (no n) = subst (λ z. z ≤ bound_factor nodes v) (sym (ap (λ b. cond b 1 (weight_total nodes p v)) (eqb_no v d n))) (weight_fits v n)

  -- the whole's bound: what is left out, times the scope's
  base_is : base_mass nodes p d ≡ mass_left_out nodes p (scope_of nodes d) * nat_product_over (base_total nodes p d) (scope_of nodes d)
  base_is =
      all_nodes nodes (scope_of nodes d) (scope_is_closed nodes d g is) (base_total nodes p d)
      ∙ ap (λ x. x * nat_product_over (base_total nodes p d) (scope_of nodes d))
      (product_at (base_total nodes p d) (weight_total nodes p) (left_out nodes (scope_of nodes d))
      (λ v m. ap (λ b. cond b (states_of nodes d) (weight_total nodes p v)) (eqb_no v d (λ e. is_out nodes (scope_of nodes d) (scope_is_closed nodes d g is) v m (subst (λ z. Among z (scope_of nodes d)) (sym e) (own_in_scope nodes d g is))))))

  base_le : nat_product_over (base_total nodes p d) (scope_of nodes d) ≤ scope_product nodes d
  base_le = product_le (base_total nodes p d) (bound_factor nodes) (scope_of nodes d) (λ v m. base_fits v)

  -- the nodes of the plans' tables, and of those that they lack
  gain_ruled : (u v : ℕ) → Among v (ruled_nodes nodes (gain_plan nodes d u)) → v ≢ d
  gain_ruled u v m e = not_both (has (d ∷ []) v) (has_yes v (d ∷ []) (inl e)) (passes_not (has (d ∷ [])) v (among_filter (λ x. not (has (d ∷ []) x)) v (plan_nodes nodes (gain_plan nodes d u)) m).1)

  gain_lacking : (u v : ℕ) → Among v (lacking_in nodes (scope_of nodes d) (gain_plan nodes d u)) → v ≢ d
  gain_lacking u v m e =
      not_both (in_plan nodes (gain_plan nodes d u) v) (subst (λ z. in_plan nodes (gain_plan nodes d u) z ≡ true) (sym e) (kept_in nodes g (gain_plan nodes d u) d (inl refl)))
      (passes_not (λ x. in_plan nodes (gain_plan nodes d u) x) v (among_filter (λ x. not (in_plan nodes (gain_plan nodes d u) x)) v (scope_of nodes d) m).1)

  row_ruled : (v : ℕ) → Among v (ruled_nodes nodes (row_plan nodes d)) → v ≢ d
  row_ruled v m e =
      not_both (in_plan nodes (row_plan nodes d) v) (among_filter (λ x. in_plan nodes (row_plan nodes d) x) v (numbers_of nodes) (among_filter (λ x. not (has [] x)) v (plan_nodes nodes (row_plan nodes d)) m).0).1
      (subst (λ z. in_plan nodes (row_plan nodes d) z ≡ false) (sym e) (own_row_out nodes g d))

pub fit_law : ScopesFitPlans
fit_law nodes p d g h r is small = record {
  gain_tables = gain_tables;
  row_tables = row_tables;
  gain = λ u q goal i.
      subst (λ z. z ≤ scope_product nodes d * greatest_abs (node_at nodes u).cells) (sym (abs_mul (plan_sum gain_cells nodes p (gain_plan nodes d u) q) (pos (missing_in nodes p (scope_of nodes d) (gain_plan nodes d u)))))
      (le_trans (gain_kept u q goal i) (mul-le-mul_right (greatest_abs (node_at nodes u).cells) (base_le nodes p d g t is small)));
  row = λ q i. le_trans (row_kept q i) (base_le nodes p d g t is small);
  missing = λ u goal. second_fits (nat_product_over (weight_total nodes p) (ruled_nodes nodes (gain_plan nodes d u))) (missing_in nodes p (scope_of nodes d) (gain_plan nodes d u)) (scope_product nodes d)
      (product_positive (weight_total nodes p) (ruled_nodes nodes (gain_plan nodes d u)) t.positive) (gain_tables u goal);
  missing_row = second_fits (nat_product_over (weight_total nodes p) (ruled_nodes nodes (row_plan nodes d))) (missing_in_without nodes p d (scope_of nodes d) (row_plan nodes d)) (scope_product nodes d)
      (product_positive (weight_total nodes p) (ruled_nodes nodes (row_plan nodes d)) t.positive) row_tables;
}
  where
    t : HasTables nodes p
    t = tables_of nodes p g h r

    positive : (v : ℕ) → 0 < bound_factor nodes v
    positive = factors_positive nodes g h

    some : 0 < mass_left_out nodes p (scope_of nodes d)
    some = positive_law nodes p (scope_of nodes d) g h r

    gain_tables : (u : ℕ) → IsGoal nodes d u
        → nat_product_over (weight_total nodes p) (ruled_nodes nodes (gain_plan nodes d u)) * missing_in nodes p (scope_of nodes d) (gain_plan nodes d u) ≤ scope_product nodes d
    gain_tables u goal = tables_fit nodes (scope_of nodes d) (scope_is_closed nodes d g is) (gain_plan nodes d u) (gain_inside nodes d g is u goal) (bound_factor nodes) positive (weight_total nodes p) (weight_total nodes p)
        (λ v m. weight_fits nodes p d g t is small v (gain_ruled nodes p d g t is small u v m)) (λ v m. weight_fits nodes p d g t is small v (gain_lacking nodes p d g t is small u v m))

    row_tables : nat_product_over (weight_total nodes p) (ruled_nodes nodes (row_plan nodes d)) * missing_in_without nodes p d (scope_of nodes d) (row_plan nodes d) ≤ scope_product nodes d
    row_tables = tables_fit nodes (scope_of nodes d) (scope_is_closed nodes d g is) (row_plan nodes d) (row_inside nodes d g is) (bound_factor nodes) positive (weight_total nodes p) (λ v. cond (eqb v d) 1 (weight_total nodes p v))
        (λ v m. weight_fits nodes p d g t is small v (row_ruled nodes p d g t is small v m)) (λ v m. without_fits nodes p d g t is small positive v)

    gain_kept : (u : ℕ) (q : World) → IsGoal nodes d u → InRange (states_of nodes) q
        → nat_abs (plan_sum gain_cells nodes p (gain_plan nodes d u) q) * missing_in nodes p (scope_of nodes d) (gain_plan nodes d u) ≤ nat_product_over (base_total nodes p d) (scope_of nodes d) * greatest_abs (node_at nodes u).cells
    gain_kept u q goal i =
        taken_off (mass_left_out nodes p (scope_of nodes d)) (nat_abs (plan_sum gain_cells nodes p (gain_plan nodes d u) q)) (missing_in nodes p (scope_of nodes d) (gain_plan nodes d u)) (nat_product_over (base_total nodes p d) (scope_of nodes d) * greatest_abs (node_at nodes u).cells) some
        (subst (λ z. nat_abs (plan_sum gain_cells nodes p (gain_plan nodes d u) q) * z ≤ mass_left_out nodes p (scope_of nodes d) * (nat_product_over (base_total nodes p d) (scope_of nodes d) * greatest_abs (node_at nodes u).cells))
        (missing_is nodes p (scope_of nodes d) (scope_is_closed nodes d g is) (gain_plan nodes d u) (gain_inside nodes d g is u goal))
        (le_trans ((results_keep_bounds nodes p g h r).gain d u q is i)
        (le_of_eq (ap (λ z. z * greatest_abs (node_at nodes u).cells) (base_is nodes p d g t is small) ∙ mass_is_ring.times_assoc (mass_left_out nodes p (scope_of nodes d)) (nat_product_over (base_total nodes p d) (scope_of nodes d)) (greatest_abs (node_at nodes u).cells)))))

    row_kept : (q : World) → InRange (states_of nodes) q
        → plan_sum mass_cells nodes p (row_plan nodes d) q * missing_in_without nodes p d (scope_of nodes d) (row_plan nodes d) ≤ nat_product_over (base_total nodes p d) (scope_of nodes d)
    row_kept q i =
        taken_off (mass_left_out nodes p (scope_of nodes d)) (plan_sum mass_cells nodes p (row_plan nodes d) q) (missing_in_without nodes p d (scope_of nodes d) (row_plan nodes d)) (nat_product_over (base_total nodes p d) (scope_of nodes d)) some
        (subst (λ z. plan_sum mass_cells nodes p (row_plan nodes d) q * z ≤ mass_left_out nodes p (scope_of nodes d) * nat_product_over (base_total nodes p d) (scope_of nodes d))
        (missing_without_is nodes p (scope_of nodes d) (scope_is_closed nodes d g is) (row_plan nodes d) (row_inside nodes d g is) d (own_in_scope nodes d g is))
        (le_trans ((results_keep_bounds nodes p g h r).row d q is i) (le_of_eq (base_is nodes p d g t is small))))

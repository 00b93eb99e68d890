-- The same of an agent's scope, with the plans of its utilities.
use Rattle.std.proofs.Common.{◌≡◌, ◌∙◌, ℕ, ◌*◌, ◌<◌, ◌≤◌, Bool, true, cond, filter, List, [], refl, sym, ap, subst, arith, Some, ℤ, pos, ◌*ℤ◌, nat_abs, le_trans, le_of_eq}
use Rattle.std.proofs.Math.Nat.{le_of_mul-le-mul_left}
use Rattle.std.proofs.Math.Path.{fun_ext}
use Rattle.maid_model.specs.declared.diagrams.Kind.{Kind}
use Rattle.maid_model.specs.declared.diagrams.Kind.TheVariants.{Chance, Decision, Utility}
use Rattle.maid_model.specs.Gains.{gain_of, mass, greatest_abs}
use Rattle.maid_model.specs.Graph.{IsGraph}
use Rattle.maid_model.specs.Nodes.{node_at, states_of, numbers_of, is_utility_of}
use Rattle.maid_model.specs.Parts.{mass_left_out}
use Rattle.maid_model.specs.Scopes.{utilities_for, scope_for, scope_part_for, rules_in_scope_for, chance_factor, chance_factor_by, scope_product_for}
use Rattle.maid_model.specs.Tables.{weight_total, total_by, chance_total, rule_total}
use Rattle.maid_model.specs.Views.{NodeView, RuleView}
use Rattle.maid_model.proofs.Leaves.{sum_each_cong}
use Rattle.maid_model.proofs.Setting.{HasTables}
use Rattle.maid_model.proofs.Weighing.{product_positive}
use Rattle.finite_sums.specs.Members.{Among}
use Rattle.finite_sums.specs.Sums.{World, InRange, sum_over, sum_each, nat_product_over}
use Rattle.finite_sums.proofs.Lists.{among_filter}
use Rattle.maid_laws.proofs.Members.{among_of}
use Rattle.maid_laws.proofs.Tied.{tables_of, decision_of}
use Rattle.cell_rings.specs.Rings.{gain_ring, both_ring}
use Rattle.cell_rings.specs.RingLaws.{mass_is_ring, abs_mul}
use Rattle.ring_sums.specs.Tables.{product_of}
use Rattle.ring_sums.proofs.SumLaws.{sums_worlds}
use Rattle.part_laws.specs.ScopeLaws.{HasUnitRules}
use Rattle.part_laws.proofs.PartLaws.{agents_gains_law, mass_law, positive_law, listed_kept}
use Rattle.part_laws.proofs.PartNodes.{Closed, closed_of}
use Rattle.part_laws.proofs.PartSums.{sum_each-some}
use Rattle.part_laws.proofs.ScopeBounds.{chances_positive}
use Rattle.part_laws.proofs.ScopeLaws.{scope_for_closed, agents_scopes_law, utilities_inside, utility_listed}
use Rattle.plan_sums.specs.Laws.{missing_total, worth_part}
use Rattle.plan_sums.specs.Plans.{gain_cells, both_cells, in_plan, eliminated_nodes, ruled_nodes, first_tables, plan_sum, worth_plan}
use Rattle.plan_sums.proofs.Added.{parts, sum_each_mul}
use Rattle.plan_sums.proofs.Parts.{worth_is}
use Rattle.plan_sums.proofs.Products.{gain_first, both_first_g, gain_of_over}
use Rattle.plan_sums.proofs.Results.{results_keep_bounds}
use Rattle.scope_sums.specs.Missing.{missing_in}
use Rattle.scope_sums.specs.Laws.{GainsOfAgentsScopes, MassOfAgentsScopes, AgentsScopesFitPlans}
use Rattle.scope_sums.proofs.Lacking.{plan_inside, all_nodes}
use Rattle.scope_sums.proofs.Kept.{second_fits, taken_off, tables_fit}
use Rattle.scope_sums.proofs.Summed.{cancel_factor, outward, product_at, missing_is}

-- terms that count where a test holds
passing_terms : (a : ℕ → Bool) (f : ℕ → ℤ) (vs : List ℕ) → sum_each (λ v. cond (a v) (f v) (pos 0)) vs ≡ sum_each f (filter a vs)
passing_terms a f vs =
    sum_each-some (λ v. cond (a v) (f v) (pos 0)) a vs (λ v m e. ap (λ b. cond b (f v) (pos 0)) e)
    ∙ sum_each_cong (λ v. cond (a v) (f v) (pos 0)) f (filter a vs) (λ v m. ap (λ b. cond b (f v) (pos 0)) (among_filter a v vs m).1)

-- a plan of one utility gives the same gain in numbers as in pairs
gain_same : (nodes : List NodeView) (p : List RuleView) (t : HasTables nodes p) (u : ℕ) (q : World) → plan_sum gain_cells nodes p (worth_plan u) q ≡ (plan_sum both_cells nodes p (worth_plan u) q).g
gain_same nodes p t u q =
    sums_worlds (states_of nodes) (eliminated_nodes nodes (worth_plan u)) (product_of gain_ring (first_tables gain_cells nodes p (worth_plan u))) q
    ∙ ap (λ h. sum_over (states_of nodes) (eliminated_nodes nodes (worth_plan u)) h q) (fun_ext (λ x. gain_first nodes p t (worth_plan u) x u refl ∙ sym (both_first_g nodes p t (worth_plan u) x u refl)))
    ∙ sym (gain_of_over (states_of nodes) (eliminated_nodes nodes (worth_plan u)) (product_of both_ring (first_tables both_cells nodes p (worth_plan u))) q)

-- a positive factor of two equal products
cancel_product : (l a b : ℕ) → 0 < l → l * a ≡ l * b → a ≡ b
cancel_product l a b h e = equal a b (le_of_mul-le-mul_left (le_of_eq e) h) (le_of_mul-le-mul_left (le_of_eq (sym e)) h)
  where
    equal : (a b : ℕ) → a ≤ b → b ≤ a → a ≡ b
    equal a b h k = omega arith

-- the factor of a table, and of a rule that adds up to 1
pub unit_factor : (k : Kind) (chance rule : ℕ) → (k ≡ Decision → rule ≡ 1) → total_by k chance rule ≡ chance_factor_by k chance
unit_factor Chance chance rule h = refl
unit_factor Decision chance rule h = h refl
unit_factor Utility chance rule h = refl

module _ (nodes : List NodeView) (agent : ℕ) (g : IsGraph nodes) where
  closed_for : Closed nodes (scope_for nodes agent)
  closed_for = closed_of nodes (scope_for nodes agent) (scope_for_closed nodes g agent)

  utility_in_scope : (u : ℕ) → Among u (utilities_for nodes agent) → Among u (scope_for nodes agent)
  utility_in_scope u m = listed_kept nodes (utilities_for nodes agent) g (utilities_inside nodes g agent) u m

  worth_inside : (u : ℕ) → Among u (utilities_for nodes agent) → (v : ℕ) → in_plan nodes (worth_plan u) v ≡ true → Among v (scope_for nodes agent)
  worth_inside u m = plan_inside nodes (scope_for nodes agent) closed_for (worth_plan u) (λ v k. absurd (among_of v [] k)) (λ x e. subst (λ z. Among z (scope_for nodes agent)) (same u x e) (utility_in_scope u m))
    where
      same : (a b : ℕ) → Some a ≡ Some b → a ≡ b
      same a b e = cc

pub agents_sums_law : GainsOfAgentsScopes
agents_sums_law nodes p agent g h r = record { gain = gain }
  where
    t : HasTables nodes p
    t = tables_of nodes p g h r

    term : World → ℕ → ℤ
    term q u = plan_sum gain_cells nodes p (worth_plan u) q *ℤ pos (missing_in nodes p (scope_for nodes agent) (worth_plan u))

    gain : (q : World) → InRange (states_of nodes) q
        → gain_of (scope_part_for nodes agent) (rules_in_scope_for nodes p agent) agent
        ≡ sum_each (λ u. plan_sum gain_cells nodes p (worth_plan u) q *ℤ pos (missing_in nodes p (scope_for nodes agent) (worth_plan u))) (utilities_for nodes agent)
    gain q i =
        cancel_factor (mass_left_out nodes p (scope_for nodes agent)) (gain_of (scope_part_for nodes agent) (rules_in_scope_for nodes p agent) agent) (sum_each (term q) (utilities_for nodes agent))
        (positive_law nodes p (scope_for nodes agent) g h r)
        (sym (agents_gains_law nodes p (scope_for nodes agent) agent g h r (scope_for_closed nodes g agent) (agents_scopes_law nodes agent g).1)
        ∙ (parts nodes p).worth agent
        ∙ passing_terms (is_utility_of nodes agent) (worth_part nodes p) (numbers_of nodes)
        ∙ sum_each_cong (worth_part nodes p) (λ u. pos (mass_left_out nodes p (scope_for nodes agent)) *ℤ term q u) (utilities_for nodes agent)
        (λ u m. sym (worth_is nodes p g t u q i)
        ∙ ap (λ z. z *ℤ pos (missing_total nodes p (worth_plan u))) (sym (gain_same nodes p t u q))
        ∙ outward (plan_sum gain_cells nodes p (worth_plan u) q) (missing_total nodes p (worth_plan u)) (mass_left_out nodes p (scope_for nodes agent)) (missing_in nodes p (scope_for nodes agent) (worth_plan u))
        (missing_is nodes p (scope_for nodes agent) (closed_for nodes agent g) (worth_plan u) (worth_inside nodes agent g u m)))
        ∙ sym (sum_each_mul (pos (mass_left_out nodes p (scope_for nodes agent))) (term q) (utilities_for nodes agent)))

-- ---- pure rules
module _ (nodes : List NodeView) (p : List RuleView) (agent : ℕ) (g : IsGraph nodes) (unit : HasUnitRules nodes p) where
  factor_is : (v : ℕ) → weight_total nodes p v ≡ chance_factor nodes v
  factor_is v = unit_factor (node_at nodes v).kind (chance_total nodes v) (rule_total p v) (λ e. unit v (decision_of nodes v e))

  totals_are : nat_product_over (weight_total nodes p) (scope_for nodes agent) ≡ scope_product_for nodes agent
  totals_are = product_at (weight_total nodes p) (chance_factor nodes) (scope_for nodes agent) (λ v m. factor_is v)

  -- the mass of the whole: what is left out, times P
  mass_is : mass nodes p ≡ mass_left_out nodes p (scope_for nodes agent) * scope_product_for nodes agent
  mass_is = all_nodes nodes (scope_for nodes agent) (closed_for nodes agent g) (weight_total nodes p) ∙ ap (λ z. mass_left_out nodes p (scope_for nodes agent) * z) totals_are

pub agents_mass_law : MassOfAgentsScopes
agents_mass_law nodes p agent g h r unit =
    cancel_product (mass_left_out nodes p (scope_for nodes agent)) (mass (scope_part_for nodes agent) (rules_in_scope_for nodes p agent)) (scope_product_for nodes agent) (positive_law nodes p (scope_for nodes agent) g h r)
    (sym (mass_law nodes p (scope_for nodes agent) g h r (scope_for_closed nodes g agent)) ∙ mass_is nodes p agent g unit)

pub agents_fit_law : AgentsScopesFitPlans
agents_fit_law nodes p agent u g h r unit within kind owner = record {
  tables = tables;
  gain = λ q i.
      subst (λ z. z ≤ scope_product_for nodes agent * greatest_abs (node_at nodes u).cells) (sym (abs_mul (plan_sum gain_cells nodes p (worth_plan u) q) (pos (missing_in nodes p (scope_for nodes agent) (worth_plan u)))))
      (taken_off (mass_left_out nodes p (scope_for nodes agent)) (nat_abs (plan_sum gain_cells nodes p (worth_plan u) q)) (missing_in nodes p (scope_for nodes agent) (worth_plan u)) (scope_product_for nodes agent * greatest_abs (node_at nodes u).cells)
      (positive_law nodes p (scope_for nodes agent) g h r) (whole q i));
  missing = second_fits (nat_product_over (weight_total nodes p) (ruled_nodes nodes (worth_plan u))) (missing_in nodes p (scope_for nodes agent) (worth_plan u)) (scope_product_for nodes agent)
      (product_positive (weight_total nodes p) (ruled_nodes nodes (worth_plan u)) t.positive) tables;
}
  where
    t : HasTables nodes p
    t = tables_of nodes p g h r

    listed : Among u (utilities_for nodes agent)
    listed = utility_listed nodes g agent u within kind owner

    tables : nat_product_over (weight_total nodes p) (ruled_nodes nodes (worth_plan u)) * missing_in nodes p (scope_for nodes agent) (worth_plan u) ≤ scope_product_for nodes agent
    tables = tables_fit nodes (scope_for nodes agent) (closed_for nodes agent g) (worth_plan u) (worth_inside nodes agent g u listed) (chance_factor nodes) (chances_positive nodes h) (weight_total nodes p) (weight_total nodes p)
        (λ v m. le_of_eq (factor_is nodes p agent g unit v)) (λ v m. le_of_eq (factor_is nodes p agent g unit v))

    whole : (q : World) → InRange (states_of nodes) q
        → nat_abs (plan_sum gain_cells nodes p (worth_plan u) q) * (mass_left_out nodes p (scope_for nodes agent) * missing_in nodes p (scope_for nodes agent) (worth_plan u))
        ≤ mass_left_out nodes p (scope_for nodes agent) * (scope_product_for nodes agent * greatest_abs (node_at nodes u).cells)
    whole q i =
        le_trans (le_of_eq (λ j. nat_abs (gain_same nodes p t u q j) * sym (missing_is nodes p (scope_for nodes agent) (closed_for nodes agent g) (worth_plan u) (worth_inside nodes agent g u listed)) j))
        (le_trans ((results_keep_bounds nodes p g h r).worth u q i)
        (le_of_eq (ap (λ z. z * greatest_abs (node_at nodes u).cells) (mass_is nodes p agent g unit) ∙ mass_is_ring.times_assoc (mass_left_out nodes p (scope_for nodes agent)) (scope_product_for nodes agent) (greatest_abs (node_at nodes u).cells))))

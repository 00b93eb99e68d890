-- Totals multiplied over sets: those that a plan lacks of a scope's nodes, and those of a whole
-- scope.
use Rattle.std.proofs.Common.{◌≡◌, ◌∙◌, ◌↔◌, ℕ, ◌<◌, Bool, true, false, not, cond, eqb, filter, List, Contains, length, slice_index, refl, sym, ap, subst, arith}
use Rattle.std.specs.List.{range_with_len}
use Rattle.std.specs.Prelude.{option_to_list}
use Rattle.finite_sums.specs.Sums.{nat_product_over}
use Rattle.finite_sums.proofs.Lists.{among_filter}
use Rattle.finite_sums.proofs.Members.{among_from_contains, contains_from_among, filter_has}
use Rattle.maid_model.specs.declared.diagrams.Kind.{Kind}
use Rattle.maid_model.specs.declared.diagrams.Kind.TheVariants.{Chance, Decision, Utility}
use Rattle.maid_model.specs.Graph.{IsGraph}
use Rattle.maid_model.specs.Nodes.{node_at, numbers_of}
use Rattle.maid_model.specs.Parts.{leads_to}
use Rattle.maid_model.specs.Profiles.{IsProfile}
use Rattle.maid_model.specs.Scopes.{chance_factor, chance_factor_by, scope_for, scope_product_for, utilities_for}
use Rattle.maid_model.specs.Tables.{HasChanceTables, chance_total, rule_total, total_by, weight_total}
use Rattle.maid_model.specs.Views.{NodeView, RuleView}
use Rattle.maid_laws.proofs.Booleans.{eqb_same, eqb_yes}
use Rattle.maid_laws.proofs.Rearranged.{number}
use Rattle.maid_laws.proofs.Tied.{decision_of, tables_of}
use Rattle.node_sets.specs.declared.sets.NodeSet.{NodeSet}
use Rattle.node_sets.specs.Sets.{holds, IsIn}
use Rattle.part_laws.specs.ScopeLaws.{HasUnitRules}
use Rattle.plan_sums.specs.Plans.{PlanView, has, in_plan, plan_nodes, ruled_nodes}
use Rattle.scope_sums.specs.Missing.{missing_in, missing_in_without}
use Rattle.scope_sums.proofs.Shares.{tested_product}
use Rattle.rule_solver.specs.Totals.{HasTotals, product_in}
use Rattle.rule_solver.proofs.ProductLemmas.{factor_in, same_products}

-- the nodes that pass a test are those that are listed
tested : (nodes : List NodeView) (q : ℕ → Bool) (v : ℕ) → v < length nodes → Contains (filter q (numbers_of nodes)) v ↔ (q v ≡ true)
tested nodes q v l = (
  (λ t. (among_filter q v (numbers_of nodes) (among_from_contains (filter q (numbers_of nodes)) v t)).1),
  (λ t. contains_from_among (filter q (numbers_of nodes)) v (filter_has q v (numbers_of nodes) (number nodes v l) t)),
)

-- a set of the members of a list of nodes that pass a test marks them
marked : (nodes : List NodeView) (q : ℕ → Bool) (set : NodeSet) → ((v : ℕ) → IsIn set v ↔ Contains (filter q (numbers_of nodes)) v) → (v : ℕ) → v < length nodes → IsIn set v ↔ (q v ≡ true)
marked nodes q set h v l = (
  (λ t. (among_filter q v (numbers_of nodes) (among_from_contains (filter q (numbers_of nodes)) v ((h v).0 t))).1),
  (λ t. (h v).1 (contains_from_among (filter q (numbers_of nodes)) v (filter_has q v (numbers_of nodes) (number nodes v l) t))),
)

module _ (nodes : List NodeView) (p : List RuleView) (totals : List ℕ) (are : HasTotals nodes p totals) where
  -- the listed totals of a set's members are those of the nodes
  pub listed_product : (set : NodeSet) → product_in totals set ≡ nat_product_over (λ v. cond (holds set v) (weight_total nodes p v) 1) (numbers_of nodes)
  listed_product set =
      (λ i. nat_product_over (factor_in totals set) (range_with_len 0 (are.count i)))
      ∙ same_products (factor_in totals set) (λ v. cond (holds set v) (weight_total nodes p v) 1) 0 (length nodes) (λ v l. ap (λ n. cond (holds set v) n 1) (are.each v (omega arith)))

  -- the product over a set of the nodes that pass two tests, factor by factor
  by_factors : (q r : ℕ → Bool) (f : ℕ → ℕ) (set : NodeSet) → ((v : ℕ) → v < length nodes → cond (holds set v) (weight_total nodes p v) 1 ≡ cond (q v) (cond (r v) (f v) 1) 1) → product_in totals set ≡ nat_product_over f (filter r (filter q (numbers_of nodes)))
  by_factors q r f set h =
      listed_product set
      ∙ same_products (λ v. cond (holds set v) (weight_total nodes p v) 1) (λ v. cond (q v) (cond (r v) (f v) 1) 1) 0 (length nodes) (λ v l. h v (omega arith))
      ∙ sym (tested_product (λ v. cond (r v) (f v) 1) q (numbers_of nodes))
      ∙ sym (tested_product f r (filter q (numbers_of nodes)))

  -- ---- what a plan lacks of the nodes that pass a test
  module _ (keep : ℕ → Bool) (plan : PlanView) (scope planned left : NodeSet)
      (scoped : (v : ℕ) → IsIn scope v ↔ Contains (filter keep (numbers_of nodes)) v)
      (plans : (v : ℕ) → IsIn planned v ↔ Contains (plan_nodes nodes plan) v)
    where
      -- with all totals
      pub missing_product : ((v : ℕ) → IsIn left v ↔ (IsIn scope v × (IsIn planned v → ⊥))) → product_in totals left ≡ missing_in nodes p (filter keep (numbers_of nodes)) plan
      missing_product lefts = by_factors keep (λ v. not (in_plan nodes plan v)) (weight_total nodes p) left (λ v l. go (holds left v) (keep v) (in_plan nodes plan v) (weight_total nodes p v) (
        (λ t. let r = (lefts v).0 t in ((marked nodes keep scope scoped v l).0 r.0, (λ k. r.1 ((marked nodes (in_plan nodes plan) planned plans v l).1 k)))),
        (λ r. (lefts v).1 ((marked nodes keep scope scoped v l).1 r.0, (λ k. r.1 ((marked nodes (in_plan nodes plan) planned plans v l).0 k)))),
      ))
        where
          go : (a b c : Bool) (n : ℕ) → (a ≡ true) ↔ ((b ≡ true) × (c ≡ true → ⊥)) → cond a n 1 ≡ cond b (cond (not c) n 1) 1
          go true true true n h = absurd ((h.0 refl).1 refl)
          go true true false n h = refl
          go true false c n h = absurd (let e = (h.0 refl).0 in cc)
          go false true true n h = refl
          go false true false n h = absurd (let e = h.1 (refl, λ k. cc) in cc)
          go false false c n h = refl

      -- without the decision's own
      pub missing_product_without : (d : ℕ) → ((v : ℕ) → IsIn left v ↔ ((IsIn scope v × (IsIn planned v → ⊥)) × (v ≡ d → ⊥))) → product_in totals left ≡ missing_in_without nodes p d (filter keep (numbers_of nodes)) plan
      missing_product_without d lefts = by_factors keep (λ v. not (in_plan nodes plan v)) (λ v. cond (eqb v d) 1 (weight_total nodes p v)) left (λ v l. go (holds left v) (keep v) (in_plan nodes plan v) (eqb v d) (weight_total nodes p v) (
        (λ t. let r = (lefts v).0 t in ((marked nodes keep scope scoped v l).0 r.0.0, (λ k. r.0.1 ((marked nodes (in_plan nodes plan) planned plans v l).1 k)), (λ e. r.1 (eqb_same v d e)))),
        (λ r. (lefts v).1 (((marked nodes keep scope scoped v l).1 r.0, (λ k. r.1 ((marked nodes (in_plan nodes plan) planned plans v l).0 k))), (λ e. r.2 (eqb_yes v d e)))),
      ))
        where
          go : (a b c e : Bool) (n : ℕ) → (a ≡ true) ↔ ((b ≡ true) × (c ≡ true → ⊥) × (e ≡ true → ⊥)) → cond a n 1 ≡ cond b (cond (not c) (cond e 1 n) 1) 1
          go true true true e n h = absurd ((h.0 refl).1 refl)
          go true true false true n h = absurd ((h.0 refl).2 refl)
          go true true false false n h = refl
          go true false c e n h = absurd (let f = (h.0 refl).0 in cc)
          go false true true e n h = refl
          go false true false true n h = refl
          go false true false false n h = absurd (let f = h.1 (refl, (λ k. cc), (λ k. cc)) in cc)
          go false false c e n h = refl

      -- the same where it is taken out of the set of those
      pub missing_product_after : (d : ℕ) (all : NodeSet) → ((v : ℕ) → IsIn all v ↔ (IsIn scope v × (IsIn planned v → ⊥))) → ((v : ℕ) → IsIn left v ↔ (IsIn all v × (v ≡ d → ⊥))) → product_in totals left ≡ missing_in_without nodes p d (filter keep (numbers_of nodes)) plan
      missing_product_after d all alls lefts = missing_product_without d (λ v. ((λ t. let r = (lefts v).0 t in ((alls v).0 r.0, r.1)), (λ r. (lefts v).1 ((alls v).1 r.0, r.1))))

  -- ---- what a plan's own tables add up to
  pub ruled_product : (plan : PlanView) (ruled : NodeSet) → ((v : ℕ) → IsIn ruled v ↔ (Contains (plan_nodes nodes plan) v × (has (option_to_list plan.without) v ≡ true → ⊥)))
      → product_in totals ruled ≡ nat_product_over (weight_total nodes p) (ruled_nodes nodes plan)
  ruled_product plan ruled are_ruled =
      by_factors (λ v. in_plan nodes plan v) (λ v. not (has (option_to_list plan.without) v)) (weight_total nodes p) ruled (λ v l. go (holds ruled v) (in_plan nodes plan v) (has (option_to_list plan.without) v) (weight_total nodes p v) (
        (λ t. let r = (are_ruled v).0 t in ((tested nodes (in_plan nodes plan) v l).0 r.0, r.1)),
        (λ r. (are_ruled v).1 ((tested nodes (in_plan nodes plan) v l).1 r.0, r.1)),
      ))
    where
      go : (a b c : Bool) (n : ℕ) → (a ≡ true) ↔ ((b ≡ true) × (c ≡ true → ⊥)) → cond a n 1 ≡ cond b (cond (not c) n 1) 1
      go true true true n h = absurd ((h.0 refl).1 refl)
      go true true false n h = refl
      go true false c n h = absurd (let e = (h.0 refl).0 in cc)
      go false true true n h = refl
      go false true false n h = absurd (let e = h.1 (refl, λ k. cc) in cc)
      go false false c n h = refl

  -- ---- all of a scope
  -- where rules add up to 1, the totals of an agent's scope multiply to its P
  pub scope_mass_is : HasUnitRules nodes p → (agent : ℕ) (scope : NodeSet) → ((v : ℕ) → IsIn scope v ↔ Contains (scope_for nodes agent) v) → product_in totals scope ≡ scope_product_for nodes agent
  scope_mass_is unit agent scope scoped =
      listed_product scope
      ∙ same_products (λ v. cond (holds scope v) (weight_total nodes p v) 1) (λ v. cond (leads_to nodes (utilities_for nodes agent) v) (chance_factor nodes v) 1) 0 (length nodes)
      (λ v l. both (holds scope v) (leads_to nodes (utilities_for nodes agent) v) (marked nodes (leads_to nodes (utilities_for nodes agent)) scope scoped v (omega arith)) (unit_factor (node_at nodes v).kind (chance_total nodes v) (rule_total p v) (λ e. unit v (decision_of nodes v e))))
      ∙ sym (tested_product (chance_factor nodes) (leads_to nodes (utilities_for nodes agent)) (numbers_of nodes))
    where
      unit_factor : (k : Kind) (chance rule : ℕ) → (k ≡ Decision → rule ≡ 1) → total_by k chance rule ≡ chance_factor_by k chance
      unit_factor Chance chance rule h = refl
      unit_factor Decision chance rule h = h refl
      unit_factor Utility chance rule h = refl

      both : {m n : ℕ} (a b : Bool) → (a ≡ true) ↔ (b ≡ true) → m ≡ n → cond a m 1 ≡ cond b n 1
      both true true h e = e
      both true false h e = absurd (let f = h.0 refl in cc)
      both false true h e = absurd (let f = h.1 refl in cc)
      both false false h e = refl

  -- each listed total is positive
  pub totals_positive : IsGraph nodes → HasChanceTables nodes → IsProfile nodes p → (v : ℕ) → v < length totals → 0 < slice_index totals v
  totals_positive graph tables profile v l = subst (λ n. 0 < n) (sym (are.each v (subst (λ n. v < n) are.count l))) ((tables_of nodes p graph tables profile).positive v)

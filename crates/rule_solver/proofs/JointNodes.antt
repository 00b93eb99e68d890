-- The nodes of a decision's joint sums: those with their own tables, and those that the goals'
-- plans eliminate.
use Rattle.std.proofs.Common.{◌≡◌, ◌≢◌, ◌∙◌, ◌⊎◌, ◌↔◌, inl, inr, ℕ, ◌<◌, ◌≤◌, Bool, true, false, not, ◌&&◌, eqb, filter, Contains, List, [], ◌∷◌, map, length, get_or, slice_index, refl, sym, ap, subst, arith, le_trans}
use Rattle.std.specs.List.{AllZip}
use Rattle.std.proofs.lemmas.List.{get_or_default}
use Rattle.finite_sums.specs.Members.{Among}
use Rattle.finite_sums.specs.Sums.{nat_product_over}
use Rattle.finite_sums.proofs.Lists.{among_filter}
use Rattle.finite_sums.proofs.Members.{among_from_contains, contains_from_among, filter_has}
use Rattle.maid_laws.proofs.Booleans.{eqb_no, eqb_yes, not_both}
use Rattle.maid_laws.proofs.Tied.{decision_of}
use Rattle.maid_model.specs.declared.diagrams.Kind.{Kind}
use Rattle.maid_model.specs.declared.diagrams.Kind.TheVariants.{Chance, Decision, Utility}
use Rattle.maid_model.specs.Bounds.{bound_by, bound_factor}
use Rattle.maid_model.specs.Diagrams.{greatest_number}
use Rattle.maid_model.specs.Graph.{AllDifferent, Arc, IsGraph, IsPathTo, Here, Along}
use Rattle.maid_model.specs.Nodes.{IsDecision, is_utility, node_at, numbers_of, states_of}
use Rattle.maid_model.specs.Parts.{leads_to}
use Rattle.maid_model.specs.Relevance.{IsGoal}
use Rattle.maid_model.specs.Scopes.{IsInScope, goals_of, scope_of, scope_product}
use Rattle.maid_model.specs.Tables.{chance_total, rule_total, total_by, weight_total}
use Rattle.maid_model.specs.Views.{NodeView, DiagramView, RuleView}
use Rattle.node_sets.specs.declared.sets.NodeSet.{NodeSet}
use Rattle.node_sets.specs.Sets.{IsIn, holds}
use Rattle.factor_core.specs.Slots.{nodes_in}
use Rattle.part_laws.proofs.NaturalSums.{product_le, some_factors_le}
use Rattle.part_laws.proofs.ScopeBounds.{factors_positive}
use Rattle.part_laws.proofs.ScopeLaws.{scopes_law}
use Rattle.plan_sums.specs.Plans.{eliminated_nodes, gain_plan}
use Rattle.plan_sums.proofs.Filters.{filter_cong, filter_filter}
use Rattle.joint_sums.specs.Joint.{IsJointOrder, joint_ruled, joint_summed, scope_nodes}
use Rattle.joint_sums.proofs.PlanSteps.{summed_by_plans}
use Rattle.joint_sums.proofs.ScopeNodes.{inside, no_utility, scope_nodes_are}
use Rattle.size_precheck.specs.Decisions.{IsStepOf}
use Rattle.size_precheck.specs.Sizes.{IsPlanned, SizedPlan, goal_list}
use Rattle.scope_sums.proofs.Shares.{tested_product}
use Rattle.rule_solver.specs.Sums.{IsSetting}
use Rattle.rule_solver.specs.Totals.{product_in}
use Rattle.rule_solver.proofs.GoalPlans.{goal_plan_at, goal_plans_long}
use Rattle.rule_solver.proofs.Missing.{listed_product}
use Rattle.rule_solver.proofs.SettingLemmas.{bool_same, goal_at, in_room, index_of_goal}

-- ---- the nodes with their own tables
eqb_same_yes : (v : ℕ) → eqb v v ≡ true
eqb_same_yes v = eqb_yes v v refl

-- a path begins at its end, or with an arc
path_starts : {Arc : ℕ → ℕ → Type 0} {to from : ℕ} → IsPathTo Arc to from → (from ≡ to) ⊎ ((next : ℕ) × Arc from next)
path_starts Here = inl refl
path_starts (Along {u} {v} a p) = inr (v, a)

module _ (nodes : List NodeView) (graph : IsGraph nodes) (d : ℕ) (is : IsDecision nodes d) where
  -- a utility of the scope is a goal
  utility_goal : (v : ℕ) → Contains (scope_of nodes d) v → (node_at nodes v).kind ≡ Utility → IsGoal nodes d v
  utility_goal v m e = go (((scopes_law nodes d graph is).1 v).0 m)
    where
      end : (t : ℕ) → (t ≡ d) ⊎ IsGoal nodes d t → v ≡ t → IsGoal nodes d v
      end t (inl f) k = absurd (let clash : Utility ≡ Decision = sym e ∙ ap (λ x. (node_at nodes x).kind) (k ∙ f) ∙ is.kind in cc)
      end t (inr g) k = subst (IsGoal nodes d) (sym k) g

      starts : (t : ℕ) → (t ≡ d) ⊎ IsGoal nodes d t → (v ≡ t) ⊎ ((next : ℕ) × Arc nodes v next) → IsGoal nodes d v
      starts t target (inl k) = end t target k
      starts t target (inr a) = absurd (graph.no_utility_parent v a.0 a.1 e)

      go : IsInScope nodes d v → IsGoal nodes d v
      go s = starts s.target s.is_target (path_starts s.path)

  module _ (scope left ruled : NodeSet) (scoped : (v : ℕ) → IsIn scope v ↔ Contains (scope_of nodes d) v)
      (lefts : (v : ℕ) → IsIn left v ↔ ((v ≡ d) ⊎ Contains (goals_of nodes d) v)) (ruleds : (v : ℕ) → IsIn ruled v ↔ (IsIn scope v × (IsIn left v → ⊥)))
    where
      both : (a b : Bool) → a ≡ true → b ≡ true → (a && b) ≡ true
      both a b h k = (λ i. h i && k i)

      halves : (a b : Bool) → (a && b) ≡ true → (a ≡ true) × (b ≡ true)
      halves true b h = (refl, h)
      halves false b h = absurd (cc)

      kind_of : (k : Kind) → is_utility k ≡ false → k ≢ Utility
      kind_of k e f = not_both (is_utility k) (ap is_utility f) e

      turned : (b : Bool) → not b ≡ true → b ≡ false
      turned true e = absurd (cc)
      turned false e = refl

      -- a goal has a number of its own
      goal_here : (v : ℕ) → IsGoal nodes d v → Contains (goals_of nodes d) v
      goal_here v g = index_of_goal nodes graph d is v g

      goal_kind : (v : ℕ) → Contains (goals_of nodes d) v → (node_at nodes v).kind ≡ Utility
      goal_kind v c = (subst (IsGoal nodes d) (get_or_default (goals_of nodes d) c.0 0 v c.1 ∙ c.2) (goal_at nodes graph d is c.0 c.1)).kind

      ruled_test : (v : ℕ) → Among v (numbers_of nodes) → holds ruled v ≡ (inside nodes d v && not (eqb v d))
      ruled_test v m = bool_same (holds ruled v) (inside nodes d v && not (eqb v d)) there back
        where
          there : holds ruled v ≡ true → (inside nodes d v && not (eqb v d)) ≡ true
          there e =
              let r = (ruleds v).0 e in
              let s = (scoped v).0 r.0 in
              let plain : (node_at nodes v).kind ≢ Utility = λ k. r.1 ((lefts v).1 (inr (goal_here v (utility_goal v s k)))) in
              let apart : v ≢ d = λ k. r.1 ((lefts v).1 (inl k)) in
              both (inside nodes d v) (not (eqb v d))
              (both (leads_to nodes (d ∷ goals_of nodes d) v) (not (is_utility (node_at nodes v).kind)) (among_filter (leads_to nodes (d ∷ goals_of nodes d)) v (numbers_of nodes) (among_from_contains (scope_of nodes d) v s)).1 (ap not (no_utility (node_at nodes v).kind plain)))
              (ap not (eqb_no v d apart))

          back : (inside nodes d v && not (eqb v d)) ≡ true → holds ruled v ≡ true
          back e =
              let h = halves (inside nodes d v) (not (eqb v d)) e in
              let k = halves (leads_to nodes (d ∷ goals_of nodes d) v) (not (is_utility (node_at nodes v).kind)) h.0 in
              let s : Contains (scope_of nodes d) v = contains_from_among (scope_of nodes d) v (filter_has (leads_to nodes (d ∷ goals_of nodes d)) v (numbers_of nodes) m k.0) in
              (ruleds v).1 (
                (scoped v).1 s,
                λ l. elim ((lefts v).0 l) as (λ _. ⊥) [
                  | inl f ↦ not_both (eqb v d) (eqb_yes_of v f) (turned (eqb v d) h.1)
                  | inr g ↦ kind_of (node_at nodes v).kind (turned (is_utility (node_at nodes v).kind) k.1) (goal_kind v g)
                ],
              )
            where
              eqb_yes_of : (v : ℕ) → v ≡ d → eqb v d ≡ true
              eqb_yes_of v f = subst (λ x. eqb v x ≡ true) f (eqb_same_yes v)

      -- the set, listed
      pub ruled_listed : nodes_in nodes (holds ruled) ≡ joint_ruled nodes d
      ruled_listed =
          filter_cong (holds ruled) (λ v. inside nodes d v && not (eqb v d)) (numbers_of nodes) ruled_test
          ∙ sym (filter_filter (λ v. not (eqb v d)) (inside nodes d) (numbers_of nodes))
          ∙ ap (filter (λ v. not (eqb v d))) (sym (scope_nodes_are nodes d))

-- the set of the nodes left out: the decision and its goals
pub left_members : (nodes : List NodeView) (d : ℕ) (goals : List ℕ) (one all : NodeSet) → goals ≡ goals_of nodes d → ((v : ℕ) → IsIn one v ↔ (v ≡ d)) → ((v : ℕ) → IsIn all v ↔ (IsIn one v ⊎ Contains goals v))
    → (v : ℕ) → IsIn all v ↔ ((v ≡ d) ⊎ Contains (goals_of nodes d) v)
left_members nodes d goals one all list ones adds v = (
  (λ e. elim ((adds v).0 e) as (λ _. (v ≡ d) ⊎ Contains (goals_of nodes d) v) [ inl o ↦ inl ((ones v).0 o) | inr g ↦ inr (subst (λ (l : List ℕ). Contains l v) list g) ]),
  (λ h. elim h as (λ _. IsIn all v) [ inl e ↦ (adds v).1 (inl ((ones v).1 e)) | inr g ↦ (adds v).1 (inr (subst (λ (l : List ℕ). Contains l v) (sym list) g)) ]),
)

-- ---- goals
module _ (nodes : List NodeView) (graph : IsGraph nodes) (d : ℕ) (is : IsDecision nodes d) where
  pub goal_listed_is : (u : ℕ) → Contains (goals_of nodes d) u → IsGoal nodes d u
  goal_listed_is u c = subst (IsGoal nodes d) (get_or_default (goals_of nodes d) c.0 0 u c.1 ∙ c.2) (goal_at nodes graph d is c.0 c.1)

  pub goal_within : (u : ℕ) → Contains (goals_of nodes d) u → u < length nodes
  goal_within u c = (goal_listed_is u c).within

-- ---- their totals
-- a table's or a rule's total, where the rule is small
small_factor : (k : Kind) (chance rule states : ℕ) → (k ≡ Decision → rule ≤ states) → total_by k chance rule ≤ bound_by k chance states
small_factor Chance chance rule states h = omega arith
small_factor Decision chance rule states h = h refl
small_factor Utility chance rule states h = omega arith

module _ (d : DiagramView) (p : List RuleView) (decision : ℕ) (totals : List ℕ) (scope : NodeSet) (s : IsSetting d p decision totals scope) where
  -- each is at most what the scope's P counts
  weight_fits : (v : ℕ) → v ≢ decision → weight_total d.nodes p v ≤ bound_factor d.nodes v
  weight_fits v n = small_factor (node_at d.nodes v).kind (chance_total d.nodes v) (rule_total p v) (states_of d.nodes v) (λ e. s.rules v (decision_of d.nodes v e) n)

  pub totals_small : nat_product_over (weight_total d.nodes p) (joint_ruled d.nodes decision) ≤ scope_product d.nodes decision
  totals_small =
      let positive = factors_positive d.nodes s.is_diagram.graph s.is_diagram.tables in
      le_trans (product_le (weight_total d.nodes p) (bound_factor d.nodes) (joint_ruled d.nodes decision) (λ v m. weight_fits v (apart v (among_filter (λ x. not (eqb x decision)) v (scope_nodes d.nodes decision) m).1)))
      (le_trans (some_factors_le (bound_factor d.nodes) (λ v. not (eqb v decision)) (scope_nodes d.nodes decision) (λ v. positive v))
      (some_factors_le (bound_factor d.nodes) (λ v. not (is_utility (node_at d.nodes v).kind)) (scope_of d.nodes decision) (λ v. positive v)))
    where
      apart : (v : ℕ) → not (eqb v decision) ≡ true → v ≢ decision
      apart v e f = go (eqb v decision) (subst (λ x. eqb v x ≡ true) f (eqb_same_yes v)) e
        where
          go : (b : Bool) → b ≡ true → not b ≡ true → ⊥
          go true h k = absurd (cc)
          go false h k = absurd (cc)

  module _ (left ruled : NodeSet) (lefts : (v : ℕ) → IsIn left v ↔ ((v ≡ decision) ⊎ Contains (goals_of d.nodes decision) v)) (ruleds : (v : ℕ) → IsIn ruled v ↔ (IsIn scope v × (IsIn left v → ⊥))) where
    pub ruled_list : nodes_in d.nodes (holds ruled) ≡ joint_ruled d.nodes decision
    ruled_list = ruled_listed d.nodes s.is_diagram.graph decision s.is_decision scope left ruled s.is_scope lefts ruleds

    pub ruled_total : product_in totals ruled ≡ nat_product_over (weight_total d.nodes p) (joint_ruled d.nodes decision)
    ruled_total =
        listed_product d.nodes p totals s.has_totals ruled
        ∙ sym (tested_product (weight_total d.nodes p) (holds ruled) (numbers_of d.nodes))
        ∙ ap (nat_product_over (weight_total d.nodes p)) ruled_list

    pub ruled_fits : product_in totals ruled ≤ greatest_number
    ruled_fits = in_room d p decision totals scope s (product_in totals ruled) (subst (λ n. n ≤ scope_product d.nodes decision) (sym ruled_total) totals_small)

-- ---- the order
module _ (nodes : List NodeView) (graph : IsGraph nodes) (d : ℕ) (is : IsDecision nodes d) (plans : List SizedPlan) (kept : AllZip (IsPlanned nodes) (map (λ u. gain_plan nodes d u) (goal_list nodes d)) plans) where
  -- the plan at a place is that of the goal there
  plan_there : (plan : SizedPlan) → Contains plans plan → (u : ℕ) × IsGoal nodes d u × IsPlanned nodes (gain_plan nodes d u) plan
  plan_there plan (k, l, e) =
      let long = goal_plans_long nodes d plans kept in
      let inside : k < length (goals_of nodes d) = omega (arith, long, l) in
      (slice_index (goals_of nodes d) k, goal_at nodes graph d is k inside, goal_plan_at nodes d plans kept k plan inside (sym e))

  -- the nodes that the plans eliminate are those that are summed out
  pub steps_are : (u : ℕ) → IsGoal nodes d u → (v : ℕ) → IsStepOf plans v ↔ Contains (joint_summed nodes d) v
  steps_are u goal v = (there, back)
    where
      there : IsStepOf plans v → Contains (joint_summed nodes d) v
      there (plan, m, c) =
          let at = plan_there plan m in
          (summed_by_plans nodes d u v graph is goal).1 (at.0, at.1, (at.2.made.order.all v).0 c)

      back : Contains (joint_summed nodes d) v → IsStepOf plans v
      back c =
          let w = (summed_by_plans nodes d u v graph is goal).0 c in
          let place = index_of_goal nodes graph d is w.0 w.1 in
          let long = goal_plans_long nodes d plans kept in
          let within : place.0 < length plans = let l = place.1 in omega (arith, long, l) in
          let here = some_plan plans place.0 within in
          let planned = goal_plan_at nodes d plans kept place.0 here.0 place.1 here.1 in
          let which : slice_index (goals_of nodes d) place.0 ≡ w.0 = get_or_default (goals_of nodes d) place.0 0 w.0 place.1 ∙ place.2 in
          (here.0, (place.0, within, sym here.1), (planned.made.order.all v).1 (subst (λ x. Contains (eliminated_nodes nodes (gain_plan nodes d x)) v) (sym which) w.2))
        where
          some_plan : (ps : List SizedPlan) (k : ℕ) → k < length ps → (plan : SizedPlan) × (plan ≡ get_or ps k plan)
          some_plan [] k l = absurd (omega arith)
          some_plan (q ∷ ps) k l = (get_or (q ∷ ps) k q, get_or_default (q ∷ ps) k q (get_or (q ∷ ps) k q) l)

  pub order_is : (u : ℕ) → IsGoal nodes d u → (steps : List ℕ) → AllDifferent steps → ((v : ℕ) → Contains steps v ↔ IsStepOf plans v) → IsJointOrder nodes d steps
  order_is u goal steps once all = record {
    once = once;
    all = λ v. ((λ c. (steps_are u goal v).0 ((all v).0 c)), (λ c. (all v).1 ((steps_are u goal v).1 c)));
  }

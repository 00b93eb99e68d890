-- Diagrams that differ in the cells of chance nodes alone have the same scopes, and with the same
-- totals the same bounds.
use Rattle.std.proofs.Common.{◌≡◌, ◌∙◌, ℕ, zero, suc, ◌*◌, ◌^◌, ◌<◌, ◌≤◌, max, true, ◌&&◌, ◌||◌, ◌==◌, List, ◌∷◌, length, filter, slice_index_or, refl, sym, ap, subst, inl, inr}
use Rattle.std.proofs.Math.Path.{fun_ext}
use Rattle.std.specs.List.{list_any, range_with_len}
use Rattle.finite_sums.proofs.Lists.{among_filter}
use Rattle.finite_sums.specs.Members.{Among}
use Rattle.finite_sums.specs.Sums.{nat_product_over}
use Rattle.maid_model.specs.declared.diagrams.Kind.{Kind}
use Rattle.maid_model.specs.declared.diagrams.Kind.TheVariants.{Chance, Decision, Utility}
use Rattle.maid_model.specs.Bounds.{bound_by, bound_factor}
use Rattle.maid_model.specs.Diagrams.{greatest_number}
use Rattle.maid_model.specs.Gains.{greatest_abs}
use Rattle.maid_model.specs.Graph.{descends, leads_within}
use Rattle.maid_model.specs.Nodes.{IsDecision, agent_of, is_utility, is_utility_of, node_at, numbers_of, parents_of}
use Rattle.maid_model.specs.Parts.{with_ancestors}
use Rattle.maid_model.specs.Scopes.{FailsFirst, FailsFirstFor, KeepsScopedBounds, PassesInScope, chance_factor, chance_factor_by, goals_of, greatest_of, scope_bound, scope_bound_for, scope_for, scope_of, scope_product, scope_product_for, utilities_for}
use Rattle.maid_model.specs.Tables.{chance_total}
use Rattle.maid_model.specs.Views.{NodeView, DiagramView}
use Rattle.part_laws.proofs.NaturalSums.{same_sum}
use Rattle.part_laws.proofs.PartSums.{and_both}
use Rattle.reach_laws.proofs.Perfect.{IsLike, turned, decision_back}
use Rattle.weight_scale.specs.Bound.{IsPassedAt, IsPassedByUtilities}

-- the one is like the other, which is like a third
pub through : (a b c : List NodeView) → IsLike a b → IsLike b c → IsLike a c
through a b c l m = record { len = m.len ∙ l.len; kinds = λ v. m.kinds v ∙ l.kinds v; owners = λ v. m.owners v ∙ l.owners v; states = λ v. m.states v ∙ l.states v; parents = λ v. m.parents v ∙ l.parents v }

-- ---- arcs
module _ (nodes others : List NodeView) (len : length others ≡ length nodes) (parents : (v : ℕ) → parents_of others v ≡ parents_of nodes v) where
  leads_same : (n u v : ℕ) → leads_within others n u v ≡ leads_within nodes n u v
  leads_same zero u v = refl
  leads_same (suc n) u v = λ i. list_any (λ x. (x == u) || leads_same n u x i) (parents v i)

  -- as many nodes with the same parents descend alike
  pub descends_along : (u v : ℕ) → descends others u v ≡ descends nodes u v
  descends_along u v = ap (λ n. leads_within others n u v) len ∙ leads_same (length nodes) u v

-- ---- goals and scopes
module _ (nodes others : List NodeView) (l : IsLike nodes others) where
  pub numbers_same : numbers_of others ≡ numbers_of nodes
  numbers_same = ap (range_with_len 0) l.len

  pub descends_same : (u v : ℕ) → descends others u v ≡ descends nodes u v
  descends_same = descends_along nodes others l.len l.parents

  pub agent_same : (d : ℕ) → agent_of others d ≡ agent_of nodes d
  agent_same d = ap (λ vs. slice_index_or vs 0 0) (l.owners d)

  pub utility_same : (agent v : ℕ) → is_utility_of others agent v ≡ is_utility_of nodes agent v
  utility_same agent v = λ i. is_utility (l.kinds v i) && list_any (λ a. a == agent) (l.owners v i)

  pub goals_same : (d : ℕ) → goals_of others d ≡ goals_of nodes d
  goals_same d = λ i. filter (fun_ext test i) (numbers_same i)
    where
      test : (u : ℕ) → (is_utility_of others (agent_of others d) u && descends others d u) ≡ (is_utility_of nodes (agent_of nodes d) u && descends nodes d u)
      test u = λ i. (is_utility (l.kinds u i) && list_any (λ a. a == agent_same d i) (l.owners u i)) && descends_same d u i

  pub utilities_same : (agent : ℕ) → utilities_for others agent ≡ utilities_for nodes agent
  utilities_same agent = λ i. filter (fun_ext (utility_same agent) i) (numbers_same i)

  ancestors_same : (of : List ℕ) → with_ancestors others of ≡ with_ancestors nodes of
  ancestors_same of = λ i. filter (fun_ext test i) (numbers_same i)
    where
      test : (v : ℕ) → list_any (λ u. (u == v) || descends others v u) of ≡ list_any (λ u. (u == v) || descends nodes v u) of
      test v = λ i. list_any (λ u. (u == v) || descends_same v u i) of

  pub scope_same : (d : ℕ) → scope_of others d ≡ scope_of nodes d
  scope_same d = ap (λ us. with_ancestors others (d ∷ us)) (goals_same d) ∙ ancestors_same (d ∷ goals_of nodes d)

  pub scope_for_same : (agent : ℕ) → scope_for others agent ≡ scope_for nodes agent
  scope_for_same agent = ap (with_ancestors others) (utilities_same agent) ∙ ancestors_same (utilities_for nodes agent)

-- ---- bounds
utility_kind : (k : Kind) → is_utility k ≡ true → k ≡ Utility
utility_kind Chance e = cc
utility_kind Decision e = cc
utility_kind Utility e = refl

-- the diagrams are alike, with the same totals and the same values
pub record HasSameBounds (d e : DiagramView) : Type 0 where
  pub like : IsLike d.nodes e.nodes
  pub totals : (v : ℕ) → chance_total e.nodes v ≡ chance_total d.nodes v
  pub values : (v : ℕ) → (node_at d.nodes v).kind ≡ Utility → (node_at e.nodes v).cells ≡ (node_at d.nodes v).cells
  pub agents : e.agents ≡ d.agents
  pub decimals : e.decimals ≡ d.decimals

module _ (d e : DiagramView) (h : HasSameBounds d e) where
  factor_same : ◌≡◌ {A = ℕ → ℕ} (bound_factor e.nodes) (bound_factor d.nodes)
  factor_same = fun_ext (λ v. λ i. bound_by (h.like.kinds v i) (h.totals v i) (h.like.states v i))

  chance_same : ◌≡◌ {A = ℕ → ℕ} (chance_factor e.nodes) (chance_factor d.nodes)
  chance_same = fun_ext (λ v. λ i. chance_factor_by (h.like.kinds v i) (h.totals v i))

  product_same : (v : ℕ) → scope_product e.nodes v ≡ scope_product d.nodes v
  product_same v = λ i. nat_product_over (factor_same i) (scope_same d.nodes e.nodes h.like v i)

  product_for_same : (agent : ℕ) → scope_product_for e.nodes agent ≡ scope_product_for d.nodes agent
  product_for_same agent = λ i. nat_product_over (chance_same i) (scope_for_same d.nodes e.nodes h.like agent i)

  greatest_same : (v : ℕ) → greatest_of e.nodes (goals_of e.nodes v) ≡ greatest_of d.nodes (goals_of d.nodes v)
  greatest_same v =
      ap (greatest_of e.nodes) (goals_same d.nodes e.nodes h.like v)
      ∙ same_sum (λ u. greatest_abs (node_at e.nodes u).cells) (λ u. greatest_abs (node_at d.nodes u).cells) (goals_of d.nodes v) (λ u m. ap greatest_abs (h.values u (kind u m)))
    where
      kind : (u : ℕ) → Among u (goals_of d.nodes v) → (node_at d.nodes u).kind ≡ Utility
      kind u m =
          let t = (among_filter (λ u. is_utility_of d.nodes (agent_of d.nodes v) u && descends d.nodes v u) u (numbers_of d.nodes) m).1 in
          utility_kind (node_at d.nodes u).kind (and_both (is_utility (node_at d.nodes u).kind) (list_any (λ a. a == agent_of d.nodes v) ((node_at d.nodes u).owner ∷ (node_at d.nodes u).more)) (and_both (is_utility_of d.nodes (agent_of d.nodes v) u) (descends d.nodes v u) t).0).0

  greatest_for_same : (agent : ℕ) → greatest_of e.nodes (utilities_for e.nodes agent) ≡ greatest_of d.nodes (utilities_for d.nodes agent)
  greatest_for_same agent =
      ap (greatest_of e.nodes) (utilities_same d.nodes e.nodes h.like agent)
      ∙ same_sum (λ u. greatest_abs (node_at e.nodes u).cells) (λ u. greatest_abs (node_at d.nodes u).cells) (utilities_for d.nodes agent) (λ u m. ap greatest_abs (h.values u (kind u m)))
    where
      kind : (u : ℕ) → Among u (utilities_for d.nodes agent) → (node_at d.nodes u).kind ≡ Utility
      kind u m =
          let t = (among_filter (is_utility_of d.nodes agent) u (numbers_of d.nodes) m).1 in
          utility_kind (node_at d.nodes u).kind (and_both (is_utility (node_at d.nodes u).kind) (list_any (λ a. a == agent) ((node_at d.nodes u).owner ∷ (node_at d.nodes u).more)) t).0

  bound_same : (v : ℕ) → scope_bound e v ≡ scope_bound d v
  bound_same v = λ i. product_same v i * max (10 ^ h.decimals i) (greatest_same v i)

  bound_for_same : (agent : ℕ) → scope_bound_for e agent ≡ scope_bound_for d agent
  bound_for_same agent = λ i. product_for_same agent i * max (10 ^ h.decimals i) (greatest_for_same agent i)

  decision_there : (v : ℕ) → IsDecision e.nodes v → IsDecision d.nodes v
  decision_there = decision_back d.nodes e.nodes h.like

  decision_here : (v : ℕ) → IsDecision d.nodes v → IsDecision e.nodes v
  decision_here = decision_back e.nodes d.nodes (turned d.nodes e.nodes h.like)

  pub bounds_kept : KeepsScopedBounds d → KeepsScopedBounds e
  bounds_kept k = record {
    decisions = λ v is. subst (λ n. n ≤ greatest_number) (sym (bound_same v)) (k.decisions v (decision_there v is));
    agents = λ agent l. subst (λ n. n ≤ greatest_number) (sym (bound_for_same agent)) (k.agents agent (subst (λ n. agent < n) h.agents l));
  }

  fails_first : (v : ℕ) → FailsFirst d v → FailsFirst e v
  fails_first v f = record {
    decision = decision_here v f.decision;
    fails = subst (λ n. greatest_number < n) (sym (bound_same v)) f.fails;
    first = λ u is l. subst (λ n. n ≤ greatest_number) (sym (bound_same u)) (f.first u (decision_there u is) l);
  }

  fails_first_for : (agent : ℕ) → FailsFirstFor d agent → FailsFirstFor e agent
  fails_first_for agent f = record {
    within = subst (λ n. agent < n) (sym h.agents) f.within;
    fails = subst (λ n. greatest_number < n) (sym (bound_for_same agent)) f.fails;
    decisions = λ v is. subst (λ n. n ≤ greatest_number) (sym (bound_same v)) (f.decisions v (decision_there v is));
    first = λ other l. subst (λ n. n ≤ greatest_number) (sym (bound_for_same other)) (f.first other l);
  }

  pub passed_at : (v : ℕ) → IsPassedAt d v → IsPassedAt e v
  passed_at v (inl p) = inl (p.0, fails_first p.0 p.1, subst (λ f. PassesInScope f (scope_of e.nodes p.0) v) (sym factor_same) (subst (λ s. PassesInScope (bound_factor d.nodes) s v) (sym (scope_same d.nodes e.nodes h.like p.0)) p.2))
  passed_at v (inr p) = inr (p.0, fails_first_for p.0 p.1, subst (λ f. PassesInScope f (scope_for e.nodes p.0) v) (sym chance_same) (subst (λ s. PassesInScope (chance_factor d.nodes) s v) (sym (scope_for_same d.nodes e.nodes h.like p.0)) p.2))

  pub passed_by_utilities : IsPassedByUtilities d → IsPassedByUtilities e
  passed_by_utilities (inl p) = inl (p.0, fails_first p.0 p.1, subst (λ n. n ≤ greatest_number) (sym (product_same p.0)) p.2)
  passed_by_utilities (inr p) = inr (p.0, fails_first_for p.0 p.1, subst (λ n. n ≤ greatest_number) (sym (product_for_same p.0)) p.2)

-- The sets of a scope have the members that its definition lists.
use Rattle.std.proofs.Common.{◌≡◌, ◌⊎◌, ◌↔◌, ◌∙◌, ◌&&◌, ℕ, ◌<◌, Bool, true, false, cond, filter, List, [], ◌∷◌, Contains, length, refl, sym, ap, subst, inl, inr}
use Rattle.node_sets.specs.declared.sets.NodeSet.{NodeSet}
use Rattle.node_sets.specs.Sets.{holds, IsIn}
use Rattle.finite_sums.specs.Members.{Among}
use Rattle.finite_sums.proofs.Lists.{among_filter}
use Rattle.finite_sums.proofs.Members.{among_from_contains, contains_from_among, filter_has}
use Rattle.maid_model.specs.Views.{NodeView}
use Rattle.maid_model.specs.Graph.{Arc, IsPath, Here, Along, IsGraph, descends}
use Rattle.maid_model.specs.Nodes.{IsDecision, IsUtilityOf, node_at, numbers_of, is_utility, is_utility_of, owns, agent_of}
use Rattle.maid_model.specs.Relevance.{IsGoal}
use Rattle.maid_model.specs.Scopes.{IsInScope, goals_of, scope_for, scope_of, utilities_for}
use Rattle.maid_laws.proofs.Paths.{path_further}
use Rattle.maid_laws.proofs.Rearranged.{number, numbered}
use Rattle.part_laws.proofs.PartLaws.{kept_path, path_kept}
use Rattle.part_laws.proofs.PartSums.{and_both}
use Rattle.part_laws.proofs.ScopeLaws.{goal_listed, scope_has, scope_path, target_of, utilities_inside}
use Rattle.weight_scale.specs.ScopePlaces.{members_of}

same_test : (a b : Bool) → (a ≡ true → b ≡ true) → (b ≡ true → a ≡ true) → a ≡ b
same_test true b f g = sym (f refl)
same_test false true f g = g refl
same_test false false f g = refl

-- two tests that the same members of a list pass
same_filter : (p q : ℕ → Bool) (xs : List ℕ) → ((v : ℕ) → Among v xs → (p v ≡ true) ↔ (q v ≡ true)) → filter p xs ≡ filter q xs
same_filter p q [] h = refl
same_filter p q (x ∷ xs) h =
    let e = same_test (p x) (q x) (h x (inl refl)).0 (h x (inl refl)).1 in
    λ i. cond (e i) (x ∷ same_filter p q xs (λ u m. h u (inr m)) i) (same_filter p q xs (λ u m. h u (inr m)) i)

-- a set has the members of a list of the nodes that pass a test
pub members_are : (nodes : List NodeView) (q : ℕ → Bool) (set : NodeSet) → ((v : ℕ) → IsIn set v ↔ Contains (filter q (numbers_of nodes)) v) → members_of nodes set ≡ filter q (numbers_of nodes)
members_are nodes q set h = same_filter (holds set) q (numbers_of nodes) (λ v m. (
  (λ t. (among_filter q v (numbers_of nodes) (among_from_contains (filter q (numbers_of nodes)) v ((h v).0 t))).1),
  (λ t. (h v).1 (contains_from_among (filter q (numbers_of nodes)) v (filter_has q v (numbers_of nodes) m t))),
))

-- ---- the utilities of an agent
module _ (nodes : List NodeView) (agent : ℕ) (set : NodeSet) (is : (u : ℕ) → IsIn set u ↔ IsUtilityOf nodes agent u)
    (tested : (u : ℕ) → u < length nodes → holds set u ≡ is_utility_of nodes agent u) where
  pub utilities_are : members_of nodes set ≡ utilities_for nodes agent
  utilities_are = same_filter (holds set) (is_utility_of nodes agent) (numbers_of nodes) (λ u m. let e = tested u (numbered nodes u m) in ((λ t. sym e ∙ t), (λ t. e ∙ t)))

  pub utility_listed : (u : ℕ) → IsIn set u → Among u (utilities_for nodes agent)
  utility_listed u t = let l = ((is u).0 t).within in filter_has (is_utility_of nodes agent) u (numbers_of nodes) (number nodes u l) (sym (tested u l) ∙ t)

  pub utility_unlisted : (u : ℕ) → Among u (utilities_for nodes agent) → IsIn set u
  utility_unlisted u m = let r = among_filter (is_utility_of nodes agent) u (numbers_of nodes) m in tested u (numbered nodes u r.0) ∙ r.1

  -- those from which a path leads to one of them
  pub agents_ancestors : IsGraph nodes → (scope : NodeSet) → ((v : ℕ) → IsIn scope v ↔ ((to : ℕ) × IsIn set to × IsPath (Arc nodes) v to)) → (v : ℕ) → IsIn scope v ↔ Contains (scope_for nodes agent) v
  agents_ancestors g scope h v = (
    (λ t. let r = (h v).0 t in contains_from_among (scope_for nodes agent) v (path_kept nodes (utilities_for nodes agent) g (utilities_inside nodes g agent) r.0 v (utility_listed r.0 r.1) r.2)),
    (λ c. let r = kept_path nodes (utilities_for nodes agent) g (utilities_inside nodes g agent) v (among_from_contains (scope_for nodes agent) v c) in (h v).1 (r.0, utility_unlisted r.0 r.1, r.2)),
  )

-- ---- the goals of a decision
module _ (nodes : List NodeView) (g : IsGraph nodes) (d : ℕ) (is : IsDecision nodes d) (set : NodeSet) (goals : (u : ℕ) → IsIn set u ↔ IsGoal nodes d u) where
  abbrev goal_test : ℕ → Bool
  goal_test u = is_utility_of nodes (agent_of nodes d) u && descends nodes d u

  -- the decision is no utility, so what is listed is a goal
  goal_of_test : (u : ℕ) → u < length nodes → goal_test u ≡ true → IsGoal nodes d u
  goal_of_test u l t = go (target_of nodes g d is u (inr (filter_has goal_test u (numbers_of nodes) (number nodes u l) t)))
    where
      utility : is_utility (node_at nodes u).kind ≡ true
      utility = (and_both (is_utility (node_at nodes u).kind) (owns nodes (agent_of nodes d) u) (and_both (is_utility_of nodes (agent_of nodes d) u) (descends nodes d u) t).0).0

      never : u ≡ d → false ≡ true
      never e = ap is_utility (sym (ap (λ x. (node_at nodes x).kind) e ∙ is.kind)) ∙ utility

      go : (u ≡ d) ⊎ IsGoal nodes d u → IsGoal nodes d u
      go (inl e) = absurd (let n = never e in cc)
      go (inr h) = h

  test_of_goal : (u : ℕ) → IsGoal nodes d u → goal_test u ≡ true
  test_of_goal u h = (among_filter goal_test u (numbers_of nodes) (goal_listed nodes g d is u h)).1

  pub goals_are : members_of nodes set ≡ goals_of nodes d
  goals_are = same_filter (holds set) goal_test (numbers_of nodes) (λ u m. ((λ t. test_of_goal u ((goals u).0 t)), (λ t. (goals u).1 (goal_of_test u (numbered nodes u m) t))))

  -- a path to the decision is that of no arc, or comes in by a parent
  last_arc : {v : ℕ} → IsPath (Arc nodes) v d → (v ≡ d) ⊎ ((u : ℕ) × Arc nodes u d × IsPath (Arc nodes) v u)
  last_arc Here = inl refl
  last_arc (Along {u} a path) = elim (last_arc path) [
    | inl e ↦ inr (u, subst (Arc nodes u) e a, Here)
    | inr r ↦ inr (r.0, r.1, Along a r.2)
  ]

  -- what leads to a goal or to a parent, and the decision itself
  module _ (ends ancestors scope : NodeSet)
      (all : (u : ℕ) → IsIn ends u ↔ (IsIn set u ⊎ Arc nodes u d))
      (leads : (v : ℕ) → IsIn ancestors v ↔ ((to : ℕ) × IsIn ends to × IsPath (Arc nodes) v to))
      (own : (v : ℕ) → IsIn scope v ↔ (IsIn ancestors v ⊎ (v ≡ d)))
    where
      pub decisions_ancestors : (v : ℕ) → IsIn scope v ↔ Contains (scope_of nodes d) v
      decisions_ancestors v = (λ t. contains_from_among (scope_of nodes d) v (there ((own v).0 t)), λ c. back (scope_path nodes g d is v (among_from_contains (scope_of nodes d) v c)))
        where
          ended : (to : ℕ) → IsPath (Arc nodes) v to → IsIn set to ⊎ Arc nodes to d → Among v (scope_of nodes d)
          ended to path (inl t) = scope_has nodes g d is to v (inr ((goals to).0 t)) path
          ended to path (inr a) = scope_has nodes g d is d v (inl refl) (path_further (Arc nodes) path a)

          there : IsIn ancestors v ⊎ (v ≡ d) → Among v (scope_of nodes d)
          there (inl t) = let r = (leads v).0 t in ended r.0 r.2 ((all r.0).0 r.1)
          there (inr e) = scope_has nodes g d is d v (inl refl) (subst (λ z. IsPath (Arc nodes) z d) (sym e) Here)

          arrives : (v ≡ d) ⊎ ((u : ℕ) × Arc nodes u d × IsPath (Arc nodes) v u) → IsIn scope v
          arrives (inl e) = (own v).1 (inr e)
          arrives (inr r) = (own v).1 (inl ((leads v).1 (r.0, (all r.0).1 (inr r.1), r.2)))

          back : IsInScope nodes d v → IsIn scope v
          back s = elim s.is_target [
            | inl e ↦ arrives (last_arc (subst (IsPath (Arc nodes) v) e s.path))
            | inr goal ↦ (own v).1 (inl ((leads v).1 (s.target, (all s.target).1 (inl ((goals s.target).1 goal)), s.path)))
          ]

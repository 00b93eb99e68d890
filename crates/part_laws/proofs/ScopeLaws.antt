-- The laws of scopes, for every diagram.
use Rattle.std.proofs.Common.{◌≡◌, ◌⊎◌, ℕ, ◌<◌, true, ◌&&◌, List, ◌∷◌, length, refl, sym, ap, subst, inl, inr}
use Rattle.maid_model.specs.declared.diagrams.Kind.TheVariants.{Utility}
use Rattle.maid_model.specs.Graph.{Arc, IsPath, IsPathTo, Here, Along, IsGraph, descends}
use Rattle.maid_model.specs.Nodes.{IsDecision, node_at, numbers_of, is_utility, is_utility_of, owns, Owns, agent_of, owners_of}
use Rattle.maid_model.specs.Relevance.{IsLive, IsInFamily, IsGoal}
use Rattle.maid_model.specs.Views.{NodeView}
use Rattle.maid_model.proofs.Descent.{path_from_test, test_from_path}
use Rattle.finite_sums.proofs.Lists.{among_filter}
use Rattle.finite_sums.proofs.Members.{any_is}
use Rattle.finite_sums.specs.Members.{Among}
use Rattle.maid_model.specs.Parts.{IsAncestral}
use Rattle.maid_model.specs.Scopes.{goals_of, utilities_for, scope_of, scope_for, IsInScope}
use Rattle.part_laws.specs.ScopeLaws.{ScopesAreParts, AgentsScopesAreParts, ReliesInScope}
use Rattle.maid_laws.proofs.Basis.{among_filter_in}
use Rattle.maid_laws.proofs.Leads.{Leads, ends, head_down, head_up}
use Rattle.maid_laws.proofs.Members.{among_of, contains_of, arc_of}
use Rattle.maid_laws.proofs.Notions.{IsParent}
use Rattle.maid_laws.proofs.Ordered.{setup_of}
use Rattle.maid_laws.proofs.Orders.{ordered}
use Rattle.part_laws.proofs.PartSums.{and_both}
use Rattle.maid_laws.proofs.Proportions.{kind_of_utility}
use Rattle.maid_laws.proofs.Rearranged.{number, numbered}
use Rattle.maid_laws.proofs.Relies.{steps_of_relies}
use Rattle.part_laws.proofs.PartLaws.{ancestors_closed, kept_path, path_kept, listed_kept}

module _ (nodes : List NodeView) (g : IsGraph nodes) (d : ℕ) (is : IsDecision nodes d) where
  pub target_of : (u : ℕ) → Among u (d ∷ goals_of nodes d) → (u ≡ d) ⊎ IsGoal nodes d u
  target_of u (inl e) = inl e
  target_of u (inr m) =
      let r = among_filter (λ x. is_utility_of nodes (agent_of nodes d) x && descends nodes d x) u (numbers_of nodes) m in
      let a = and_both (is_utility_of nodes (agent_of nodes d) u) (descends nodes d u) r.1 in
      let b = and_both (is_utility (node_at nodes u).kind) (owns nodes (agent_of nodes d) u) a.0 in
      inr (record { within = numbered nodes u r.0; kind = kind_of_utility (node_at nodes u).kind b.0; owner = (any_is (agent_of nodes d) (owners_of nodes u)).0 b.1; below = path_from_test nodes d u a.1 })

  pub goal_listed : (u : ℕ) → IsGoal nodes d u → Among u (goals_of nodes d)
  goal_listed u h =
      among_filter_in (λ x. is_utility_of nodes (agent_of nodes d) x && descends nodes d x) u (numbers_of nodes) (number nodes u h.within)
      (λ i. (ap is_utility h.kind i && (any_is (agent_of nodes d) (owners_of nodes u)).1 h.owner i) && test_from_path nodes d u h.below i)

  pub targets_inside : (u : ℕ) → Among u (d ∷ goals_of nodes d) → u < length nodes
  targets_inside u m = elim (target_of u m) [ inl e ↦ subst (λ z. z < length nodes) (sym e) is.within | inr h ↦ h.within ]

  target_listed : (u : ℕ) → (u ≡ d) ⊎ IsGoal nodes d u → Among u (d ∷ goals_of nodes d)
  target_listed u (inl e) = inl e
  target_listed u (inr h) = inr (goal_listed u h)

  pub scope_closed : IsAncestral nodes (scope_of nodes d)
  scope_closed = ancestors_closed nodes (d ∷ goals_of nodes d) g targets_inside

  pub scope_has : (u v : ℕ) → (u ≡ d) ⊎ IsGoal nodes d u → IsPath (Arc nodes) v u → Among v (scope_of nodes d)
  scope_has u v t h = path_kept nodes (d ∷ goals_of nodes d) g targets_inside u v (target_listed u t) h

  pub scope_path : (v : ℕ) → Among v (scope_of nodes d) → IsInScope nodes d v
  scope_path v m = let r = kept_path nodes (d ∷ goals_of nodes d) g targets_inside v m in record { target = r.0; is_target = target_of r.0 r.1; path = r.2 }

pub scopes_law : ScopesAreParts
scopes_law nodes d g is = (
  scope_closed nodes g d is,
  (λ v. ((λ k. scope_path nodes g d is v (among_of v (scope_of nodes d) k)), (λ s. contains_of v (scope_of nodes d) (scope_has nodes g d is s.target v s.is_target s.path)))),
  contains_of d (scope_of nodes d) (scope_has nodes g d is d d (inl refl) Here),
  (λ u h. contains_of u (scope_of nodes d) (scope_has nodes g d is u u (inr h) Here)),
)

module _ (nodes : List NodeView) (g : IsGraph nodes) (agent : ℕ) where
  pub utility_listed : (u : ℕ) → u < length nodes → (node_at nodes u).kind ≡ Utility → Owns nodes agent u → Among u (utilities_for nodes agent)
  utility_listed u l k o = among_filter_in (is_utility_of nodes agent) u (numbers_of nodes) (number nodes u l) (λ i. ap is_utility k i && (any_is agent (owners_of nodes u)).1 o i)

  pub utilities_inside : (u : ℕ) → Among u (utilities_for nodes agent) → u < length nodes
  utilities_inside u m = numbered nodes u (among_filter (is_utility_of nodes agent) u (numbers_of nodes) m).0

  pub scope_for_closed : IsAncestral nodes (scope_for nodes agent)
  scope_for_closed = ancestors_closed nodes (utilities_for nodes agent) g utilities_inside

pub agents_scopes_law : AgentsScopesAreParts
agents_scopes_law nodes agent g = (
  scope_for_closed nodes g agent,
  (λ u l k o. contains_of u (scope_for nodes agent) (listed_kept nodes (utilities_for nodes agent) g (utilities_inside nodes g agent) u (utility_listed nodes g agent u l k o))),
)

-- a walk from an extra parent goes down to the goal, or to d or one of its parents
down_to : (nodes : List NodeView) (Live : ℕ → Type 0) (d goal : ℕ) {x : ℕ} → Leads (IsParent nodes) Live (IsInFamily (IsParent nodes) d) goal true x → (t : ℕ) × ((t ≡ d) ⊎ (t ≡ goal)) × IsPath (Arc nodes) x t
down_to nodes Live d goal ends = (goal, inr refl, Here)
down_to nodes Live d goal (head_down {x = x} {c = c} n a l h) = let r = down_to nodes Live d goal h in (r.0, r.1, Along (arc_of nodes x c a) r.2)
down_to nodes Live d goal (head_up {x = x} (inl e) a l h) = (d, inl refl, subst (IsPathTo (Arc nodes) d) (sym e) Here)
down_to nodes Live d goal (head_up {x = x} (inr b) a l h) = (d, inl refl, Along (arc_of nodes x d b) Here)

pub relies_law : ReliesInScope
relies_law nodes d e g r =
    let o = ordered nodes g in
    let t = down_to nodes (IsLive nodes) d r.goal (steps_of_relies nodes o.order (setup_of nodes o) d e r) in
    record { target = t.0; is_target = elim t.1 [ inl k ↦ inl k | inr k ↦ inr (subst (IsGoal nodes d) (sym k) r.is_goal) ]; path = t.2 }

-- The nodes that are summed out are those of the goals' plans: a path from such a node leads to the
-- decision, which each plan keeps, or to a goal.
use Rattle.std.proofs.Common.{◌≡◌, ◌≢◌, ◌⊎◌, ◌∙◌, ℕ, true, false, not, List, ◌∷◌, subst, inl, inr, ap, Contains, Some, refl}
use Rattle.maid_model.specs.declared.diagrams.Kind.TheVariants.{Utility}
use Rattle.maid_model.specs.Graph.{Arc, Descends, IsGraph, IsPath, Here, Along}
use Rattle.maid_model.specs.Nodes.{IsDecision, node_at, parents_of, numbers_of, is_utility}
use Rattle.maid_model.specs.Relevance.{IsGoal}
use Rattle.maid_model.specs.Scopes.{IsInScope, scope_of}
use Rattle.maid_model.specs.Views.{NodeView}
use Rattle.finite_sums.specs.Members.{Among}
use Rattle.finite_sums.proofs.Lists.{among_filter}
use Rattle.maid_laws.proofs.Basis.{among_filter_in}
use Rattle.maid_laws.proofs.Booleans.{not_both}
use Rattle.maid_laws.proofs.Grouped.{passes_not}
use Rattle.maid_laws.proofs.Members.{among_of, contains_of}
use Rattle.maid_laws.proofs.Rearranged.{number}
use Rattle.part_laws.proofs.ScopeLaws.{scope_path}
use Rattle.plan_sums.specs.Plans.{has, in_plan, plan_nodes, eliminated_nodes, gain_plan}
use Rattle.plan_sums.proofs.Filters.{has_yes}
use Rattle.plan_sums.proofs.Scopes.{tests_plan_nodes}
use Rattle.scope_sums.proofs.Summed.{gain_inside}
use Rattle.joint_sums.specs.Joint.{scope_nodes, joint_summed}
use Rattle.joint_sums.specs.Laws.{SummedByPlans}
use Rattle.joint_sums.proofs.ScopeNodes.{no_utility, node_kind, node_within, summed_in, summed_out}

-- a path between different nodes has an arc
longer : (nodes : List NodeView) (v t : ℕ) → IsPath (Arc nodes) v t → v ≢ t → Descends (Arc nodes) v t
longer nodes v t Here n = absurd (n refl)
longer nodes v t (Along {v = x} a path) n = (x, a, path)

module _ (nodes : List NodeView) (d : ℕ) (g : IsGraph nodes) (is : IsDecision nodes d) (v : ℕ) where
  -- a node that some plan has and does not keep
  by_plan : (u : ℕ) → in_plan nodes (gain_plan nodes d u) v ≡ true → Among v (joint_summed nodes d) → Contains (eliminated_nodes nodes (gain_plan nodes d u)) v
  by_plan u e m = contains_of v (eliminated_nodes nodes (gain_plan nodes d u))
      (among_filter_in (λ x. not (has (d ∷ parents_of nodes d) x)) v (plan_nodes nodes (gain_plan nodes d u))
      (among_filter_in (λ x. in_plan nodes (gain_plan nodes d u) x) v (numbers_of nodes) (number nodes v (node_within nodes d v node)) e)
      (ap not (summed_out nodes d v m)))
    where
      node : Among v (scope_nodes nodes d)
      node = (among_filter (λ x. not (has (d ∷ parents_of nodes d) x)) v (scope_nodes nodes d) m).0

  there : (goal : ℕ) → IsGoal nodes d goal → Among v (joint_summed nodes d) → (u : ℕ) × IsGoal nodes d u × Contains (eliminated_nodes nodes (gain_plan nodes d u)) v
  there goal h m = elim path.is_target [
    | inl e ↦ (goal, h, by_plan goal ((tests_plan_nodes nodes (gain_plan nodes d goal) v).1 (inr (kind, (d, inl (contains_of d (d ∷ parents_of nodes d) (inl refl)), longer nodes v d (subst (λ z. IsPath (Arc nodes) v z) e path.path) apart)))) m)
    | inr k ↦ (path.target, k, by_plan path.target ((tests_plan_nodes nodes (gain_plan nodes d path.target) v).1 (inr (kind, (path.target, inr refl, longer nodes v path.target path.path (λ e. kind (ap (λ x. (node_at nodes x).kind) e ∙ k.kind)))))) m)
  ]
    where
      node : Among v (scope_nodes nodes d)
      node = (among_filter (λ x. not (has (d ∷ parents_of nodes d) x)) v (scope_nodes nodes d) m).0

      kind : (node_at nodes v).kind ≢ Utility
      kind e = not_both (is_utility (node_at nodes v).kind) (ap is_utility e) (node_kind nodes d v node)

      apart : v ≢ d
      apart e = not_both (has (d ∷ parents_of nodes d) v) (has_yes v (d ∷ parents_of nodes d) (inl e)) (summed_out nodes d v m)

      path : IsInScope nodes d v
      path = scope_path nodes g d is v (among_filter (λ x. not (is_utility (node_at nodes x).kind)) v (scope_of nodes d) node).0

  back : (u : ℕ) → IsGoal nodes d u → Contains (eliminated_nodes nodes (gain_plan nodes d u)) v → Among v (joint_summed nodes d)
  back u h c = summed_in nodes d v (among_filter_in (λ x. not (is_utility (node_at nodes x).kind)) v (scope_of nodes d) (gain_inside nodes d g is u h v inside) (ap not (no_utility (node_at nodes v).kind (kind ((tests_plan_nodes nodes (gain_plan nodes d u) v).0 inside))))) out
    where
      m : Among v (plan_nodes nodes (gain_plan nodes d u)) × (not (has (d ∷ parents_of nodes d) v) ≡ true)
      m = among_filter (λ x. not (has (d ∷ parents_of nodes d) x)) v (plan_nodes nodes (gain_plan nodes d u)) (among_of v (eliminated_nodes nodes (gain_plan nodes d u)) c)

      inside : in_plan nodes (gain_plan nodes d u) v ≡ true
      inside = (among_filter (λ x. in_plan nodes (gain_plan nodes d u) x) v (numbers_of nodes) m.0).1

      out : has (d ∷ parents_of nodes d) v ≡ false
      out = passes_not (has (d ∷ parents_of nodes d)) v m.1

      kind : Contains (d ∷ parents_of nodes d) v ⊎ (((node_at nodes v).kind ≢ Utility) × ((t : ℕ) × (Contains (d ∷ parents_of nodes d) t ⊎ (Some u ≡ Some t)) × Descends (Arc nodes) v t)) → (node_at nodes v).kind ≢ Utility
      kind (inl k) = absurd (not_both (has (d ∷ parents_of nodes d) v) (has_yes v (d ∷ parents_of nodes d) (among_of v (d ∷ parents_of nodes d) k)) out)
      kind (inr (n, rest)) = n

pub summed_by_plans : SummedByPlans
summed_by_plans nodes d goal v g is h = (
  λ c. there nodes d g is v goal h (among_of v (joint_summed nodes d) c),
  λ (u, k, c). contains_of v (joint_summed nodes d) (back nodes d g is v u k c),
)

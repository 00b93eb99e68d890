-- The chance and decision nodes of a scope: with each its parents, and the parents of the goals.
use Rattle.std.proofs.Common.{◌≡◌, ◌≢◌, ℕ, ◌<◌, Bool, true, false, not, ◌&&◌, eqb, filter, List, ◌∷◌, length, refl, sym, ap, subst, inl, inr}
use Rattle.maid_model.specs.declared.diagrams.Kind.{Kind}
use Rattle.maid_model.specs.declared.diagrams.Kind.TheVariants.{Chance, Decision, Utility}
use Rattle.maid_model.specs.Graph.{IsGraph}
use Rattle.maid_model.specs.Nodes.{IsDecision, node_at, parents_of, numbers_of, is_utility}
use Rattle.maid_model.specs.Parts.{leads_to}
use Rattle.maid_model.specs.Relevance.{IsGoal}
use Rattle.maid_model.specs.Scopes.{goals_of, scope_of}
use Rattle.maid_model.specs.Views.{NodeView}
use Rattle.finite_sums.specs.Members.{Among}
use Rattle.finite_sums.proofs.Lists.{among_filter}
use Rattle.maid_laws.proofs.Basis.{among_filter_in}
use Rattle.maid_laws.proofs.Booleans.{eqb_no, not_both}
use Rattle.maid_laws.proofs.Collapse.{Apart}
use Rattle.maid_laws.proofs.Grouped.{passes_not}
use Rattle.maid_laws.proofs.Members.{arc_of}
use Rattle.maid_laws.proofs.Notions.{IsParent}
use Rattle.maid_laws.proofs.Ranks.{arc_inside}
use Rattle.maid_laws.proofs.Rearranged.{apart_filter, range_apart, number, numbered}
use Rattle.plan_sums.specs.Plans.{has}
use Rattle.plan_sums.proofs.Filters.{filter_filter, has_yes}
use Rattle.scope_sums.proofs.Summed.{scope_is_closed, own_in_scope, goal_in_scope}
use Rattle.joint_sums.specs.Joint.{scope_nodes, joint_ruled, joint_summed}

pub no_utility : (k : Kind) → k ≢ Utility → is_utility k ≡ false
no_utility Chance n = refl
no_utility Decision n = refl
no_utility Utility n = absurd (n refl)

both : (a b : Bool) → a ≡ true → b ≡ true → (a && b) ≡ true
both a b h k = (λ i. h i && k i)

pub halves : (a b : Bool) → (a && b) ≡ true → (a ≡ true) × (b ≡ true)
halves true b h = (refl, h)
halves false b h = absurd (cc)

module _ (nodes : List NodeView) (d : ℕ) where
  -- in the scope, and no utility
  abbrev pub inside : ℕ → Bool
  inside v = leads_to nodes (d ∷ goals_of nodes d) v && not (is_utility (node_at nodes v).kind)

  pub scope_nodes_are : scope_nodes nodes d ≡ filter (λ v. inside v) (numbers_of nodes)
  scope_nodes_are = filter_filter (λ v. not (is_utility (node_at nodes v).kind)) (λ v. leads_to nodes (d ∷ goals_of nodes d) v) (numbers_of nodes)

  pub scope_nodes_apart : Apart (scope_nodes nodes d)
  scope_nodes_apart = apart_filter (λ v. not (is_utility (node_at nodes v).kind)) (scope_of nodes d) (apart_filter (λ v. leads_to nodes (d ∷ goals_of nodes d) v) (numbers_of nodes) (range_apart 0 (length nodes)))

  pub summed_apart : Apart (joint_summed nodes d)
  summed_apart = apart_filter (λ v. not (has (d ∷ parents_of nodes d) v)) (scope_nodes nodes d) scope_nodes_apart

  pub ruled_apart : Apart (joint_ruled nodes d)
  ruled_apart = apart_filter (λ v. not (eqb v d)) (scope_nodes nodes d) scope_nodes_apart

  -- ---- members
  pub node_inside : (v : ℕ) → Among v (scope_nodes nodes d) → inside v ≡ true
  node_inside v m =
      let a = among_filter (λ x. not (is_utility (node_at nodes x).kind)) v (scope_of nodes d) m in
      both (leads_to nodes (d ∷ goals_of nodes d) v) (not (is_utility (node_at nodes v).kind)) (among_filter (λ x. leads_to nodes (d ∷ goals_of nodes d) x) v (numbers_of nodes) a.0).1 a.1

  pub node_within : (v : ℕ) → Among v (scope_nodes nodes d) → v < length nodes
  node_within v m = numbered nodes v (among_filter (λ x. leads_to nodes (d ∷ goals_of nodes d) x) v (numbers_of nodes) (among_filter (λ x. not (is_utility (node_at nodes x).kind)) v (scope_of nodes d) m).0).0

  pub node_kind : (v : ℕ) → Among v (scope_nodes nodes d) → is_utility (node_at nodes v).kind ≡ false
  node_kind v m = passes_not (λ x. is_utility (node_at nodes x).kind) v (among_filter (λ x. not (is_utility (node_at nodes x).kind)) v (scope_of nodes d) m).1

  pub inside_node : (v : ℕ) → v < length nodes → inside v ≡ true → Among v (scope_nodes nodes d)
  inside_node v l e =
      let h = halves (leads_to nodes (d ∷ goals_of nodes d) v) (not (is_utility (node_at nodes v).kind)) e in
      among_filter_in (λ x. not (is_utility (node_at nodes x).kind)) v (scope_of nodes d) (among_filter_in (λ x. leads_to nodes (d ∷ goals_of nodes d) x) v (numbers_of nodes) (number nodes v l) h.0) h.1

  pub ruled_node : (v : ℕ) → Among v (joint_ruled nodes d) → Among v (scope_nodes nodes d)
  ruled_node v m = (among_filter (λ x. not (eqb x d)) v (scope_nodes nodes d) m).0

  pub ruled_in : (v : ℕ) → Among v (scope_nodes nodes d) → v ≢ d → Among v (joint_ruled nodes d)
  ruled_in v m n = among_filter_in (λ x. not (eqb x d)) v (scope_nodes nodes d) m (ap not (eqb_no v d n))

  pub summed_in : (v : ℕ) → Among v (scope_nodes nodes d) → has (d ∷ parents_of nodes d) v ≡ false → Among v (joint_summed nodes d)
  summed_in v m e = among_filter_in (λ x. not (has (d ∷ parents_of nodes d) x)) v (scope_nodes nodes d) m (ap not e)

  pub summed_out : (v : ℕ) → Among v (joint_summed nodes d) → has (d ∷ parents_of nodes d) v ≡ false
  summed_out v m = passes_not (has (d ∷ parents_of nodes d)) v (among_filter (λ x. not (has (d ∷ parents_of nodes d) x)) v (scope_nodes nodes d) m).1

  -- the nodes that are summed out have their tables
  pub summed_ruled : (v : ℕ) → Among v (joint_summed nodes d) → Among v (joint_ruled nodes d)
  summed_ruled v m = ruled_in v (among_filter (λ x. not (has (d ∷ parents_of nodes d) x)) v (scope_nodes nodes d) m).0
      (λ e. not_both (has (d ∷ parents_of nodes d) v) (has_yes v (d ∷ parents_of nodes d) (inl e)) (summed_out v m))

  -- ---- parents
  module _ (g : IsGraph nodes) (is : IsDecision nodes d) where
    -- a parent of a node of the scope is one of these nodes
    pub parent_node : (u v : ℕ) → IsParent nodes u v → Among v (scope_of nodes d) → Among u (scope_nodes nodes d)
    parent_node u v a m = among_filter_in (λ x. not (is_utility (node_at nodes x).kind)) u (scope_of nodes d) ((scope_is_closed nodes d g is).parents u v a m)
        (ap not (no_utility (node_at nodes u).kind (g.no_utility_parent u v (arc_of nodes u v a))))

    pub inside_closed : (u v : ℕ) → IsParent nodes u v → inside v ≡ true → inside u ≡ true
    inside_closed u v a e = node_inside u (parent_node u v a (among_filter (λ x. not (is_utility (node_at nodes x).kind)) v (scope_of nodes d) (inside_node v (arc_inside nodes u v a) e)).0)

    pub goal_parent : (u x : ℕ) → IsGoal nodes d u → IsParent nodes x u → Among x (scope_nodes nodes d)
    goal_parent u x h a = parent_node x u a (goal_in_scope nodes d g is u h)

    -- the decision and its parents
    pub own_node : Among d (scope_nodes nodes d)
    own_node = among_filter_in (λ x. not (is_utility (node_at nodes x).kind)) d (scope_of nodes d) (own_in_scope nodes d g is) (ap (λ k. not (is_utility k)) is.kind)

    pub family_node : (v : ℕ) → Among v (d ∷ parents_of nodes d) → Among v (scope_nodes nodes d)
    family_node v (inl e) = subst (λ z. Among z (scope_nodes nodes d)) (sym e) own_node
    family_node v (inr m) = parent_node v d m (own_in_scope nodes d g is)

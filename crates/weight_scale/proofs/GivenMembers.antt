-- The set of an agent's scope where a node's state is given has the members that its definition
-- lists.
use Rattle.std.proofs.Common.{◌≡◌, ◌⊎◌, ◌↔◌, ℕ, ◌<◌, List, ◌∷◌, Contains, length, sym, subst, inl, inr}
use Rattle.node_sets.specs.declared.sets.NodeSet.{NodeSet}
use Rattle.node_sets.specs.Sets.{holds, IsIn}
use Rattle.finite_sums.proofs.Members.{among_from_contains, contains_from_among}
use Rattle.maid_model.specs.Views.{NodeView}
use Rattle.maid_model.specs.Graph.{Arc, IsPath, IsGraph}
use Rattle.maid_model.specs.Nodes.{IsUtilityOf, is_utility_of}
use Rattle.maid_model.specs.Scopes.{utilities_for}
use Rattle.part_laws.specs.PartLaws.{AncestorsAreClosed}
use Rattle.part_laws.proofs.ScopeLaws.{utilities_inside}
use Rattle.weight_scale.specs.Given.{scope_given}
use Rattle.weight_scale.proofs.ScopeMembers.{utility_listed, utility_unlisted}

module _ (nodes : List NodeView) (x agent : ℕ) (g : IsGraph nodes) (l : x < length nodes) (set : NodeSet) (is : (u : ℕ) → IsIn set u ↔ IsUtilityOf nodes agent u)
    (tested : (u : ℕ) → u < length nodes → holds set u ≡ is_utility_of nodes agent u) where
  abbrev targets : List ℕ
  targets = x ∷ utilities_for nodes agent

  listed : (u : ℕ) → IsIn set u ⊎ (u ≡ x) → Contains targets u
  listed u (inl t) = contains_from_among targets u (inr (utility_listed nodes agent set is tested u t))
  listed u (inr e) = contains_from_among targets u (inl e)

  unlisted : (u : ℕ) → Contains targets u → IsIn set u ⊎ (u ≡ x)
  unlisted u c = elim (among_from_contains targets u c) [
    | inl e ↦ inr e
    | inr m ↦ inl (utility_unlisted nodes agent set is tested u m)
  ]

  inside : (u : ℕ) → Contains targets u → u < length nodes
  inside u c = elim (among_from_contains targets u c) [
    | inl e ↦ subst (λ z. z < length nodes) (sym e) l
    | inr m ↦ utilities_inside nodes g agent u m
  ]

  -- what leads to the node or to a utility
  pub given_ancestors : AncestorsAreClosed → (ends scope : NodeSet) → ((u : ℕ) → IsIn ends u ↔ (IsIn set u ⊎ (u ≡ x))) → ((v : ℕ) → IsIn scope v ↔ ((to : ℕ) × IsIn ends to × IsPath (Arc nodes) v to))
      → (v : ℕ) → IsIn scope v ↔ Contains (scope_given nodes x agent) v
  given_ancestors law ends scope all leads v =
      let k = (law nodes targets g inside).1 v in (
        (λ t. let r = (leads v).0 t in k.1 (r.0, listed r.0 ((all r.0).0 r.1), r.2)),
        (λ c. let r = k.0 c in (leads v).1 (r.0, (all r.0).1 (unlisted r.0 r.1), r.2)),
      )

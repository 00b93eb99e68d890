-- The chance totals of a scope's nodes that are left where a plan's nodes are taken out.
use Rattle.std.proofs.Common.{◌≡◌, ◌⊎◌, ◌↔◌, ℕ, ◌∷◌, List, Some, None, true, ℤ}
use Rattle.maid_model.specs.Graph.{Arc, IsPath}
use Rattle.maid_model.specs.Nodes.{is_utility, is_utility_of, node_at, owns}
use Rattle.maid_model.specs.Parts.{leads_to}
use Rattle.maid_model.specs.Scopes.{utilities_for}
use Rattle.maid_model.specs.Views.{DiagramView}
use Rattle.maid_laws.proofs.Proportions.{kind_of_utility}
use Rattle.node_sets.specs.declared.sets.NodeSet.{NodeSet}
use Rattle.node_sets.specs.Sets.{IsIn}
use Rattle.part_laws.proofs.PartSums.{and_both}
use Rattle.evidence.specs.Sizes.{plan_given}
use Rattle.evidence.specs.Stakes.{IsGivenStake, chances_in, chances_lacking}
use Rattle.evidence.proofs.Planned.{alone, with_utility}
use Rattle.evidence.proofs.Products.{left_product}

module _ (d : DiagramView) (x agent mass : ℕ) (worths : List ℤ) (scope : NodeSet) (is : IsGivenStake d x agent mass worths scope) where
  pub left_alone : (own planned left : NodeSet) → ((v : ℕ) → IsIn own v ↔ (v ≡ x)) → ((v : ℕ) → IsIn planned v ↔ ((to : ℕ) × IsIn own to × IsPath (Arc d.nodes) v to))
      → ((v : ℕ) → IsIn left v ↔ (IsIn scope v × (IsIn planned v → ⊥))) → chances_in d.nodes left ≡ chances_lacking d.nodes x agent None
  left_alone own planned left o a l =
      left_product d.nodes (leads_to d.nodes (x ∷ utilities_for d.nodes agent)) (plan_given x None) scope planned left is.is_scope (λ v h. alone d.nodes is.is_diagram.graph x own planned o a v) l

  pub left_utility : (u : ℕ) → is_utility_of d.nodes agent u ≡ true → (own ends ancestors planned left : NodeSet)
      → ((v : ℕ) → IsIn own v ↔ (v ≡ x)) → ((v : ℕ) → IsIn ends v ↔ (IsIn own v ⊎ (v ≡ u)))
      → ((v : ℕ) → IsIn ancestors v ↔ ((to : ℕ) × IsIn ends to × IsPath (Arc d.nodes) v to)) → ((v : ℕ) → IsIn planned v ↔ (IsIn ancestors v × (v ≡ u → ⊥)))
      → ((v : ℕ) → IsIn left v ↔ (IsIn scope v × (IsIn planned v → ⊥))) → chances_in d.nodes left ≡ chances_lacking d.nodes x agent (Some u)
  left_utility u owned own ends ancestors planned left o e a p l =
      left_product d.nodes (leads_to d.nodes (x ∷ utilities_for d.nodes agent)) (plan_given x (Some u)) scope planned left is.is_scope
      (λ v h. with_utility d.nodes is.is_diagram.graph x u is.plain (kind_of_utility (node_at d.nodes u).kind (and_both (is_utility (node_at d.nodes u).kind) (owns d.nodes agent u) owned).0) own ends ancestors planned o e a p v) l

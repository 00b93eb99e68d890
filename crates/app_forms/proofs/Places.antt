-- The state that the words name is one of its node.
use Rattle.std.proofs.Common.{◌≡◌, ◌<◌, List, ℕ, length, subst}
use Rattle.maid_model.specs.Names.{NamesView, NamesFit}
use Rattle.maid_model.specs.Nodes.{node_at, states_of}
use Rattle.maid_model.specs.Views.{DiagramView}
use Rattle.maid_model.specs.declared.diagrams.Kind.{Kind}
use Rattle.maid_model.specs.declared.diagrams.Kind.TheVariants.{Chance, Utility}
use Rattle.app_forms.specs.Chances.{IsStatePlace}
use Rattle.app_forms.specs.declared.forms.chances.StatePlace.{StatePlace}

no_utility : (kind : Kind) → kind ≡ Chance → kind ≡ Utility → ⊥
no_utility kind chance utility = absurd cc

module _ (d : DiagramView) (names : NamesView) (name label : List ℕ) (place : StatePlace) (fit : NamesFit d names) (is : IsStatePlace d names name label place) where
  node_within : place.node < length d.nodes
  node_within = subst (λ n. place.node < n) fit.nodes is.node.first.within

  pub state_within : place.state < states_of d.nodes place.node
  state_within = subst (λ n. place.state < n) (fit.states place.node node_within (no_utility (node_at d.nodes place.node).kind is.node.kind)) is.state.within

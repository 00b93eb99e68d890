-- A chance node and one of its states, as the words name them.
use Rattle.std.specs.Prelude.{◌≡◌, ℕ, List}
use Rattle.first_fault.specs.Passes.{over}
use Rattle.maid_model.specs.Names.{NamesView, IsFirstPlace, labels_of}
use Rattle.maid_model.specs.Nodes.{node_at}
use Rattle.maid_model.specs.Views.{DiagramView}
use Rattle.maid_model.specs.declared.diagrams.Kind.TheVariants.{Chance}
use Rattle.app_forms.specs.declared.forms.chances.StatePlace.{StatePlace}

-- x is the node of that name, and a chance node
pub record IsChanceNode (d : DiagramView) (names : NamesView) (name : List ℕ) (x : ℕ) : Type 0 where
  pub first : IsFirstPlace names.nodes name x
  pub kind : (node_at d.nodes x).kind ≡ Chance

-- the chance node of that name, and the first of its states with that label
pub record IsStatePlace
    (d : DiagramView) (names : NamesView) (name label : List ℕ) (place : StatePlace) : Type 0 where
  pub node : IsChanceNode d names name place.node
  pub state : IsFirstPlace (labels_of names place.node) label place.state

-- a chance node has that name
abbrev pub HasChanceNode : DiagramView → NamesView → List ℕ → Type 0
HasChanceNode d names name = (x : ℕ) × IsChanceNode d names name x

-- and one of its states that label
abbrev pub HasState : DiagramView → NamesView → List ℕ → List ℕ → Type 0
HasState d names name label = (place : StatePlace) × IsStatePlace d names name label place

-- of the node and the state that is so
abbrev pub at_state :
    {O : Type 0} → DiagramView → NamesView → List ℕ → List ℕ → (ℕ → ℕ → O → Type 0) → O → Type 0
at_state d names name label P =
    over (IsStatePlace d names name label) (λ place. P place.node place.state)

-- no state of the node has the label
abbrev pub LacksLabel : NamesView → ℕ → List ℕ → Type 0
LacksLabel names x label = (s : ℕ) → IsFirstPlace (labels_of names x) label s → ⊥

-- The diagram that reports and lines are of: a decision with two states and a utility, both of one
-- agent.
use Rattle.std.specs.Borrow.{Bor}
use Rattle.std.specs.Global.{Vec}
use Rattle.std.specs.Prelude.{◌≡◌, ℕ, List, [], ◌∷◌, codes, map, pos}
use Rattle.maid_model.specs.Views.{DiagramView, diagram_of}
use Rattle.maid_model.specs.Names.{NamesView}
use Rattle.sample_diagrams.specs.Nodes.{decision_node, utility_node}

-- the list has copies of these words
abbrev pub AreCopies : List (Bor (List ℕ)) → Vec (Vec ℕ) → Type 0
AreCopies words list = map (λ word. word.items) list.items ≡ map (λ word. word.now) words

-- both states of the decision are worth 5
abbrev pub tie_diagram : DiagramView
tie_diagram =
    diagram_of (decision_node 0 2 [] ∷ utility_node 0 (0 ∷ []) (pos 5 ∷ pos 5 ∷ []) ∷ []) 1 0

-- the names in that diagram
abbrev pub tie_names : NamesView
tie_names = record {
  nodes = codes "D" ∷ codes "U" ∷ [];
  labels = (codes "x" ∷ codes "y" ∷ []) ∷ [] ∷ [];
  agents = codes "agent" ∷ [];
}

-- The small diagram that the tests edit, and answers to it.
use Rattle.std.specs.Prelude.{ℕ, List, [], ◌∷◌, map, pos, None}
use Rattle.maid_model.specs.Views.{DiagramView, AnswerView, diagram_of}
use Rattle.sample_diagrams.specs.Nodes.{chance_node, decision_node, utility_node}

-- two chance nodes, a decision over both, a rival's decision over the second, and a utility over
-- the first decision
abbrev pub example : DiagramView
example = diagram_of (
    chance_node 2 [] (pos 1 ∷ pos 1 ∷ [])
    ∷ chance_node 2 [] (pos 1 ∷ pos 3 ∷ [])
    ∷ decision_node 0 2 (0 ∷ 1 ∷ [])
    ∷ decision_node 1 2 (1 ∷ [])
    ∷ utility_node 0 (2 ∷ []) (pos 0 ∷ pos 5 ∷ [])
    ∷ []) 2 0

-- an answer of these choices, without worths
abbrev pub answer_of : ℕ → List ℕ → AnswerView
answer_of decision choices = record {
  decision = decision;
  rows = map (λ choice. record { choice = choice; worth = None }) choices;
}

-- the rival takes its second state in the first row and its first one in the second, and the other
-- decision always its first
abbrev pub answers : List AnswerView
answers = answer_of 3 (1 ∷ 0 ∷ []) ∷ answer_of 2 (0 ∷ 0 ∷ 0 ∷ 0 ∷ []) ∷ []

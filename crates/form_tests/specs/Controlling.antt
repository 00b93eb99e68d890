-- The small diagram that the test of control runs.
use Rattle.std.specs.Prelude.{[], ◌∷◌, pos}
use Rattle.maid_model.specs.Views.{DiagramView, diagram_of}
use Rattle.sample_diagrams.specs.Nodes.{chance_node, decision_node, utility_node}

-- what the day is like, a choice that sees it, an outcome that is what was chosen, and what day and
-- outcome pay
abbrev pub example : DiagramView
example = diagram_of (
    chance_node 2 [] (pos 1 ∷ pos 1 ∷ [])
    ∷ decision_node 0 2 (0 ∷ [])
    ∷ chance_node 2 (1 ∷ []) (pos 1 ∷ pos 0 ∷ pos 0 ∷ pos 1 ∷ [])
    ∷ utility_node 0 (0 ∷ 2 ∷ []) (pos 3 ∷ pos 0 ∷ pos 0 ∷ pos 1 ∷ [])
    ∷ []) 1 0

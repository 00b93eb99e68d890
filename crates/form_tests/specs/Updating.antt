-- The small diagrams that are updated.
use Rattle.std.specs.Prelude.{ℤ, Bool, true, false, List, [], ◌∷◌, pos}
use Rattle.maid_model.specs.Views.{DiagramView, diagram_of}
use Rattle.sample_diagrams.specs.Nodes.{chance_node, decision_node, utility_node}

-- an agent that takes both decisions is paid for being alike, or for the second state of the second
-- decision
abbrev pub paid : Bool → List ℤ
paid true = pos 0 ∷ pos 10 ∷ pos 0 ∷ pos 20 ∷ []
paid false = pos 10 ∷ pos 0 ∷ pos 0 ∷ pos 20 ∷ []

-- two decisions of one agent that see nothing, and another agent that watches
abbrev pub meeting : Bool → DiagramView
meeting climbs = diagram_of (
    decision_node 0 2 []
    ∷ decision_node 0 2 []
    ∷ utility_node 0 (0 ∷ 1 ∷ []) (paid climbs)
    ∷ utility_node 1 (0 ∷ 1 ∷ []) (pos 5 ∷ pos 0 ∷ pos 0 ∷ pos 7 ∷ [])
    ∷ []) 2 1

-- each of two agents takes a decision: the one is paid where they agree, the other where they don't
abbrev pub pennies : DiagramView
pennies = diagram_of (
    decision_node 0 2 []
    ∷ decision_node 1 2 []
    ∷ utility_node 0 (0 ∷ 1 ∷ []) (pos 1 ∷ pos 0 ∷ pos 0 ∷ pos 1 ∷ [])
    ∷ utility_node 1 (0 ∷ 1 ∷ []) (pos 0 ∷ pos 1 ∷ pos 1 ∷ pos 0 ∷ [])
    ∷ []) 2 0

-- a right guess at a coin that is seen pays 1
abbrev pub guessing : DiagramView
guessing = diagram_of (
    chance_node 2 [] (pos 1 ∷ pos 1 ∷ [])
    ∷ decision_node 0 2 (0 ∷ [])
    ∷ utility_node 0 (0 ∷ 1 ∷ []) (pos 1 ∷ pos 0 ∷ pos 0 ∷ pos 1 ∷ [])
    ∷ []) 1 0

-- nothing is decided
abbrev pub nothing : DiagramView
nothing = diagram_of [] 1 0

-- The small diagrams that the tests of evidence run.
use Rattle.std.specs.Prelude.{[], ◌∷◌, pos, negsuc}
use Rattle.maid_model.specs.Views.{DiagramView, diagram_of}
use Rattle.sample_diagrams.specs.Nodes.{chance_node, decision_node, utility_node}

-- a coin whose sides are worth 1/2 and -5/4
abbrev pub coin : DiagramView
coin = diagram_of (
    chance_node 2 [] (pos 1 ∷ pos 1 ∷ [])
    ∷ utility_node 0 (0 ∷ []) (pos 50 ∷ negsuc 124 ∷ [])
    ∷ []) 1 2

-- a node that never has its second state, and no agent
abbrev pub certain : DiagramView
certain = diagram_of (chance_node 2 [] (pos 1 ∷ pos 0 ∷ []) ∷ []) 0 0

-- a coin of weights 1 and 3, a bet on it that doesn't see it, a node that repeats the bet, and what
-- the pairs pay: 4, 0, 1 and 2
abbrev pub bet : DiagramView
bet = diagram_of (
    chance_node 2 [] (pos 1 ∷ pos 3 ∷ [])
    ∷ decision_node 0 2 []
    ∷ chance_node 2 (1 ∷ []) (pos 1 ∷ pos 0 ∷ pos 0 ∷ pos 1 ∷ [])
    ∷ utility_node 0 (0 ∷ 1 ∷ []) (pos 4 ∷ pos 0 ∷ pos 1 ∷ pos 2 ∷ [])
    ∷ []) 1 0

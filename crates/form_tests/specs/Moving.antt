-- The small diagrams that the tests of thresholds run.
use Rattle.std.specs.Prelude.{ℤ, Bool, true, false, List, [], ◌∷◌, pos, negsuc}
use Rattle.maid_model.specs.Views.{DiagramView, diagram_of}
use Rattle.sample_diagrams.specs.Nodes.{chance_node, decision_node, utility_node}

-- what is shown of the oil, with a test and without
abbrev pub shown : List ℤ
shown =
    pos 18 ∷ pos 9 ∷ pos 3 ∷ pos 10 ∷ pos 10 ∷ pos 10
    ∷ pos 9 ∷ pos 12 ∷ pos 9 ∷ pos 10 ∷ pos 10 ∷ pos 10
    ∷ pos 3 ∷ pos 12 ∷ pos 15 ∷ pos 10 ∷ pos 10 ∷ pos 10 ∷ []

-- what drilling pays where the well is dry, wet or soaking
abbrev pub drilled : List ℤ
drilled = negsuc 69 ∷ pos 0 ∷ pos 50 ∷ pos 0 ∷ pos 200 ∷ pos 0 ∷ []

-- whether to test a well, the oil, what the test shows, whether to drill after it, the cost of the
-- test, and the pay
abbrev pub oil : DiagramView
oil = diagram_of (
    decision_node 0 2 []
    ∷ chance_node 3 [] (pos 5 ∷ pos 3 ∷ pos 2 ∷ [])
    ∷ chance_node 3 (1 ∷ 0 ∷ []) shown
    ∷ decision_node 0 2 (0 ∷ 2 ∷ [])
    ∷ utility_node 0 (0 ∷ []) (negsuc 9 ∷ pos 0 ∷ [])
    ∷ utility_node 0 (1 ∷ 3 ∷ []) drilled
    ∷ []) 1 0

-- the first state may have no weight
abbrev pub signal_weights : Bool → List ℤ
signal_weights true = pos 1 ∷ pos 1 ∷ []
signal_weights false = pos 0 ∷ pos 1 ∷ []

-- the decision sees the signal: 3 for the first state in the one case, 1 for the second in the
-- other
abbrev pub steer : Bool → DiagramView
steer even = diagram_of (
    chance_node 2 [] (signal_weights even)
    ∷ decision_node 0 2 (0 ∷ [])
    ∷ utility_node 0 (0 ∷ 1 ∷ []) (pos 3 ∷ pos 0 ∷ pos 0 ∷ pos 1 ∷ [])
    ∷ []) 1 0

-- the decision sees nothing: 1 for sure, or 2 in the one case or the other; and an echo, to which
-- nobody listens
abbrev pub bet : DiagramView
bet = diagram_of (
    chance_node 2 [] (pos 1 ∷ pos 1 ∷ [])
    ∷ decision_node 0 3 []
    ∷ utility_node 0 (0 ∷ 1 ∷ []) (pos 1 ∷ pos 2 ∷ pos 0 ∷ pos 1 ∷ pos 0 ∷ pos 2 ∷ [])
    ∷ chance_node 2 (0 ∷ []) (pos 1 ∷ pos 2 ∷ pos 2 ∷ pos 1 ∷ [])
    ∷ []) 1 0

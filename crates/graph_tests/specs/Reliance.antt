-- The small diagrams that the test runs: two decisions of one agent, and a utility over both.
use Rattle.std.specs.Prelude.{ℕ, Bool, true, false, List, [], ◌∷◌, pos}
use Rattle.maid_model.specs.Views.{DiagramView, diagram_of}
use Rattle.sample_diagrams.specs.Nodes.{decision_node, utility_node}

-- the second decision sees the first, or nothing
abbrev pub seen_if : Bool → List ℕ
seen_if true = 0 ∷ []
seen_if false = []

-- two decisions of two states, paid 1 where they agree
abbrev pub pair_diagram : Bool → DiagramView
pair_diagram sees = diagram_of (
    decision_node 0 2 []
    ∷ decision_node 0 2 (seen_if sees)
    ∷ utility_node 0 (0 ∷ 1 ∷ []) (pos 1 ∷ pos 0 ∷ pos 0 ∷ pos 1 ∷ [])
    ∷ []) 1 0

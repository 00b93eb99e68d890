-- The small diagrams that the test of information runs.
use Rattle.std.specs.Prelude.{ℕ, Bool, true, false, List, [], ◌∷◌, ℤ, pos}
use Rattle.maid_model.specs.Views.{DiagramView, diagram_of}
use Rattle.sample_diagrams.specs.Nodes.{chance_node, decision_node, utility_node}

-- the guess sees the first coin, and perhaps whether the coins are alike
abbrev pub seen_by : Bool → List ℕ
seen_by true = 0 ∷ 2 ∷ []
seen_by false = 0 ∷ []

-- a coin whose two sides are as likely
abbrev pub even : List ℤ
even = pos 1 ∷ pos 1 ∷ []

-- the first state where the coins are alike, the second where not
abbrev pub alike : List ℤ
alike = pos 1 ∷ pos 0 ∷ pos 0 ∷ pos 1 ∷ pos 0 ∷ pos 1 ∷ pos 1 ∷ pos 0 ∷ []

-- two coins, a node that tells whether they fell alike, and a guess at the second coin, which is
-- worth 1 if right
abbrev pub guessing : Bool → DiagramView
guessing told = diagram_of (
    chance_node 2 [] even
    ∷ chance_node 2 [] even
    ∷ chance_node 2 (0 ∷ 1 ∷ []) alike
    ∷ decision_node 0 2 (seen_by told)
    ∷ utility_node 0 (1 ∷ 3 ∷ []) (pos 1 ∷ pos 0 ∷ pos 0 ∷ pos 1 ∷ [])
    ∷ []) 1 0

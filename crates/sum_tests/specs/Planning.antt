-- The small diagrams whose plans are measured.
use Rattle.std.specs.Prelude.{List, [], ◌∷◌, ◌++◌, replicate, ℤ, pos}
use Rattle.maid_model.specs.Views.{NodeView, DiagramView, diagram_of}
use Rattle.sample_diagrams.specs.Nodes.{chance_node, decision_node, utility_node}

-- four cells of one
abbrev pub ones : List ℤ
ones = pos 1 ∷ pos 1 ∷ pos 1 ∷ pos 1 ∷ []

-- G, H over G, A over H, and B over G: a square of two states a node
abbrev pub square_nodes : List NodeView
square_nodes =
    chance_node 2 [] (pos 1 ∷ pos 1 ∷ [])
    ∷ chance_node 2 (0 ∷ []) ones
    ∷ chance_node 2 (1 ∷ []) ones
    ∷ chance_node 2 (0 ∷ []) ones
    ∷ []

-- a utility over A and B
abbrev pub pay : NodeView
pay = utility_node 0 (2 ∷ 3 ∷ []) ones

-- the square with one utility
abbrev pub square_diagram : DiagramView
square_diagram = diagram_of (square_nodes ++ pay ∷ []) 1 0

-- the square with two utilities
abbrev pub twice_paid : DiagramView
twice_paid = diagram_of (square_nodes ++ pay ∷ pay ∷ []) 1 0

-- two chance nodes, a decision that sees nothing, and three utilities over the second of them and
-- the decision
abbrev pub thrice_paid : DiagramView
thrice_paid = diagram_of (
    chance_node 2 [] (pos 1 ∷ pos 1 ∷ [])
    ∷ chance_node 2 (0 ∷ []) ones
    ∷ decision_node 0 2 []
    ∷ utility_node 0 (1 ∷ 2 ∷ []) ones
    ∷ utility_node 0 (1 ∷ 2 ∷ []) ones
    ∷ utility_node 0 (1 ∷ 2 ∷ []) ones
    ∷ []) 1 0

-- a chance node, a decision that sees it, and a utility over both
abbrev pub sighted_diagram : DiagramView
sighted_diagram = diagram_of (
    chance_node 2 [] (pos 1 ∷ pos 1 ∷ [])
    ∷ decision_node 0 2 (0 ∷ [])
    ∷ utility_node 0 (0 ∷ 1 ∷ []) ones
    ∷ []) 1 0

-- a decision of 16 states that 15 others see
abbrev pub star_diagram : DiagramView
star_diagram = diagram_of (decision_node 0 16 [] ∷ replicate 15 (decision_node 0 16 (0 ∷ []))) 1 0

-- a chance node that no decision sees, a decision, and utilities over both and over the chance node
-- alone
abbrev pub blind_diagram : DiagramView
blind_diagram = diagram_of (
    chance_node 2 [] (pos 1 ∷ pos 1 ∷ [])
    ∷ decision_node 0 2 []
    ∷ utility_node 0 (0 ∷ 1 ∷ []) ones
    ∷ utility_node 0 (0 ∷ []) (pos 1 ∷ pos 1 ∷ [])
    ∷ []) 1 0

-- the same where the decision sees the chance node
abbrev pub seeing_diagram : DiagramView
seeing_diagram = diagram_of (
    chance_node 2 [] (pos 1 ∷ pos 1 ∷ [])
    ∷ decision_node 0 2 (0 ∷ [])
    ∷ utility_node 0 (0 ∷ 1 ∷ []) ones
    ∷ utility_node 0 (0 ∷ []) (pos 1 ∷ pos 1 ∷ [])
    ∷ []) 1 0

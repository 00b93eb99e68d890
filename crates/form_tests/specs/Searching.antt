-- The small games that are searched.
use Rattle.std.specs.Prelude.{ℕ, zero, suc, Bool, true, false, List, [], ◌∷◌, ℤ, pos, negsuc, replicate}
use Rattle.maid_model.specs.declared.limits.TheConstants.{GREATEST_NUMBER}
use Rattle.maid_model.specs.Views.{DiagramView, diagram_of}
use Rattle.sample_diagrams.specs.Nodes.{chance_node, decision_node, utility_node}

-- the follower sees the leader's choice; in matching pennies and at the meeting nobody sees
-- anything
abbrev pub seen_in : ℕ → List ℕ
seen_in zero = []
seen_in (suc zero) = 0 ∷ []
seen_in (suc (suc n)) = []

-- what the first agent gets in matching pennies, in the game of leader and follower, and at the
-- meeting
abbrev pub first_pays : ℕ → List ℤ
first_pays zero = pos 1 ∷ negsuc 0 ∷ negsuc 0 ∷ pos 1 ∷ []
first_pays (suc zero) = pos 2 ∷ pos 0 ∷ pos 3 ∷ pos 1 ∷ []
first_pays (suc (suc n)) = pos 1 ∷ pos 0 ∷ pos 0 ∷ pos 4 ∷ []

-- what the second agent gets there
abbrev pub second_pays : ℕ → List ℤ
second_pays zero = negsuc 0 ∷ pos 1 ∷ pos 1 ∷ negsuc 0 ∷ []
second_pays (suc zero) = pos 1 ∷ pos 0 ∷ pos 0 ∷ pos 1 ∷ []
second_pays (suc (suc n)) = pos 2 ∷ pos 0 ∷ pos 0 ∷ pos 3 ∷ []

-- one agent decides, and then another, who may see the first decision
abbrev pub two_movers : ℕ → DiagramView
two_movers game = diagram_of (
    decision_node 0 2 []
    ∷ decision_node 1 2 (seen_in game)
    ∷ utility_node 0 (0 ∷ 1 ∷ []) (first_pays game)
    ∷ utility_node 1 (0 ∷ 1 ∷ []) (second_pays game)
    ∷ []) 2 0

-- one agent decides twice, and does not see its first decision
abbrev pub blind : DiagramView
blind = diagram_of (
    decision_node 0 2 []
    ∷ decision_node 0 2 []
    ∷ utility_node 0 (0 ∷ 1 ∷ []) (pos 1 ∷ pos 0 ∷ pos 0 ∷ pos 2 ∷ [])
    ∷ []) 1 0

-- a decision sees a chance node of 17 states
abbrev pub sight : DiagramView
sight = diagram_of (
    chance_node 17 [] (replicate 17 (pos 1))
    ∷ decision_node 0 2 (0 ∷ [])
    ∷ utility_node 0 (0 ∷ 1 ∷ []) (replicate 34 (pos 0))
    ∷ []) 1 0

-- what the first side of a coin pays: too much for the weight bound, or 1
abbrev pub prize : Bool → ℤ
prize true = pos GREATEST_NUMBER
prize false = pos 1

-- a utility over a coin; nobody decides
abbrev pub coin : Bool → DiagramView
coin heavy = diagram_of (
    chance_node 2 [] (pos 1 ∷ pos 1 ∷ [])
    ∷ utility_node 0 (0 ∷ []) (prize heavy ∷ pos 0 ∷ [])
    ∷ []) 1 0

-- The small diagrams whose weight bound the tests look at.
use Rattle.std.specs.Prelude.{ℕ, Bool, true, false, List, [], ◌∷◌, ℤ, pos}
use Rattle.maid_model.specs.Views.{DiagramView, diagram_of}
use Rattle.sample_diagrams.specs.Nodes.{chance_node, decision_node, shared_node, utility_node}

-- 2^125 or 2^100
abbrev pub weights_if : Bool → List ℤ
weights_if true = pos 42535295865117307932921825928971026432 ∷ []
weights_if false = pos 1267650600228229401496703205376 ∷ []

-- 2^100 or 1, and 0
abbrev pub values_if : Bool → List ℤ
values_if true = pos 1267650600228229401496703205376 ∷ pos 0 ∷ []
values_if false = pos 1 ∷ pos 0 ∷ []

-- the second agent as a further owner, or none
abbrev pub others_if : Bool → List ℕ
others_if true = 1 ∷ []
others_if false = []

-- a choice, a chance node and a utility over both, which the second agent may share; and beside
-- them a chance node and a utility of the second agent over it
abbrev pub two_parts : Bool → Bool → Bool → DiagramView
two_parts wide dear shared = diagram_of (
    decision_node 0 2 []
    ∷ chance_node 1 [] (weights_if wide)
    ∷ shared_node 0 (others_if shared) (0 ∷ 1 ∷ []) (values_if dear)
    ∷ chance_node 1 [] (weights_if false)
    ∷ utility_node 1 (3 ∷ []) (pos 1 ∷ [])
    ∷ []) 2 0

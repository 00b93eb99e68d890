-- The small diagrams that the test runs: a chance node that two decisions see, the second of which
-- sees the first too, and a utility over both decisions.
use Rattle.std.specs.Prelude.{ℕ, Bool, true, false, List, [], ◌∷◌, ℤ, pos}
use Rattle.maid_model.specs.Views.{DiagramView, diagram_of}
use Rattle.sample_diagrams.specs.Nodes.{chance_node, decision_node, utility_node}

-- one state alone, or two
abbrev pub states_if : Bool → ℕ
states_if true = 1
states_if false = 2

-- the chance node is sure of its one state, or has two that are as likely
abbrev pub weights_if : Bool → List ℤ
weights_if true = pos 1 ∷ []
weights_if false = pos 1 ∷ pos 1 ∷ []

-- what the decisions pay where the second has one state, or two
abbrev pub values_if : Bool → List ℤ
values_if true = pos 0 ∷ pos 2 ∷ []
values_if false = pos 0 ∷ pos 3 ∷ pos 2 ∷ pos 1 ∷ []

-- the agent itself, or its rival
abbrev pub agent_if : Bool → ℕ
agent_if true = 1
agent_if false = 0

-- The chance node may be sure, the second decision may be forced, and it may be a rival's, to whom
-- the utility is nothing.
abbrev pub example : Bool → Bool → Bool → DiagramView
example sure forced rival = diagram_of (
    chance_node (states_if sure) [] (weights_if sure)
    ∷ decision_node 0 2 (0 ∷ [])
    ∷ decision_node (agent_if rival) (states_if forced) (0 ∷ 1 ∷ [])
    ∷ utility_node 0 (1 ∷ 2 ∷ []) (values_if forced)
    ∷ []) 2 0

-- The small diagram whose plans the tests run.
use Rattle.std.specs.Prelude.{ℕ, ◌*◌, ◌≤◌, List, [], ◌∷◌, Some, pos, negsuc}
use Rattle.maid_model.specs.Views.{NodeView, DiagramView, diagram_of}
use Rattle.maid_model.specs.Profiles.{uniform_profile}
use Rattle.plan_sums.specs.Plans.{PlanView}
use Rattle.eliminate.specs.Results.{plan_total}
use Rattle.sample_diagrams.specs.Nodes.{chance_node, decision_node, utility_node}

-- a hidden node of weights 1 and 2, a signal of it, a decision that sees the signal, and a utility
-- of the hidden node and the decision
abbrev pub example_nodes : List NodeView
example_nodes =
    chance_node 2 [] (pos 1 ∷ pos 2 ∷ [])
    ∷ chance_node 2 (0 ∷ []) (pos 3 ∷ pos 1 ∷ pos 2 ∷ pos 2 ∷ [])
    ∷ decision_node 0 2 (1 ∷ [])
    ∷ utility_node 0 (0 ∷ 2 ∷ []) (pos 4 ∷ pos 0 ∷ negsuc 0 ∷ pos 5 ∷ [])
    ∷ []

-- their diagram, of one agent
abbrev pub example : DiagramView
example = diagram_of example_nodes 1 0

-- the plan of the decision's states: it and the signal are kept, and its own rule is left out
abbrev pub states_plan : PlanView
states_plan = record { keep = 2 ∷ 1 ∷ []; without = Some 2; utility = Some 3 }

-- under uniform rules the sums of the plan fit, where a size of at most that fits
abbrev pub ExampleFits : ℕ → PlanView → Type 0
ExampleFits most plan = 2 * plan_total example_nodes (uniform_profile example_nodes) plan ≤ most

-- The small diagram whose reports are checked, and those reports.
use Rattle.std.specs.Prelude.{[], ◌∷◌, pos}
use Rattle.maid_model.specs.declared.answers.Ratio.{Ratio}
use Rattle.maid_model.specs.declared.answers.Row.{Row}
use Rattle.maid_model.specs.Views.{DiagramView, SolvedView, diagram_of}
use Rattle.sample_diagrams.specs.Nodes.{decision_node, utility_node}

-- a plan, a reply that sees it, and what the pairs pay: 1, 4, 3 and 2
abbrev pub reply_diagram : DiagramView
reply_diagram = diagram_of (
    decision_node 0 2 []
    ∷ decision_node 0 2 (0 ∷ [])
    ∷ utility_node 0 (0 ∷ 1 ∷ []) (pos 1 ∷ pos 4 ∷ pos 3 ∷ pos 2 ∷ [])
    ∷ []) 1 0

-- the two rows of the reply, then the row of the plan
abbrev pub reply_report : Row → Row → Row → Ratio → SolvedView
reply_report first second plan gain = record {
  order = 1 ∷ 0 ∷ [];
  answers = record { decision = 1; rows = first ∷ second ∷ [] } ∷ record { decision = 0; rows = plan ∷ [] } ∷ [];
  gains = gain ∷ [];
}

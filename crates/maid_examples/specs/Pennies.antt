-- Two agents who choose unseen of each other and want opposite things.
use Rattle.std.specs.Prelude.{[], ◌∷◌, List, pos, negsuc}
use Rattle.maid_model.specs.Views.{NodeView, DiagramView}
use Rattle.maid_model.specs.Diagrams.{IsDiagram}
use Rattle.maid_model.specs.Relevance.{ReliesOn}
use Rattle.maid_model.specs.Placing.{HasRelianceOrder, IsRelianceCycle}
use Rattle.maid_examples.specs.Samples.{leader, follower, pay}

-- agent 0 gets 1 where both take the same state and -1 where not, agent 1 the other way round
abbrev pub pennies : List NodeView
pennies =
    leader
    ∷ follower []
    ∷ pay 0 (0 ∷ 1 ∷ []) (pos 1 ∷ negsuc 0 ∷ negsuc 0 ∷ pos 1 ∷ [])
    ∷ pay 1 (0 ∷ 1 ∷ []) (negsuc 0 ∷ pos 1 ∷ pos 1 ∷ negsuc 0 ∷ [])
    ∷ []

-- these nodes with two agents: a relevance cycle of two
abbrev pub pennies_diagram : DiagramView
pennies_diagram = record { nodes = pennies; agents = 2; decimals = 0 }

-- Each relies on the other, so neither can be placed first. The trail goes from the first to the
-- second and back: that is the cycle, and the one that begins with the second isn't.
pub record HasCycle : Type 0 where
  pub diagram : IsDiagram pennies_diagram
  pub on_second : ReliesOn pennies 0 1
  pub on_first : ReliesOn pennies 1 0
  pub no_order : HasRelianceOrder pennies → ⊥
  pub cycle : IsRelianceCycle pennies (0 ∷ 1 ∷ [])
  pub not_turned : IsRelianceCycle pennies (1 ∷ 0 ∷ []) → ⊥

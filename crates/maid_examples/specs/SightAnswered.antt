-- A leader who cares for its own choice alone, a follower in sight of it, and what is answered.
use Rattle.std.specs.Prelude.{List, [], ◌∷◌, pos}
use Rattle.maid_model.specs.declared.answers.Row.{Row}
use Rattle.maid_model.specs.Views.{NodeView, DiagramView, SolvedView}
use Rattle.maid_model.specs.Diagrams.{IsDiagram}
use Rattle.maid_model.specs.Relevance.{ReliesOn}
use Rattle.maid_model.specs.Answers.{IsAnswer}
use Rattle.maid_model.specs.Accepted.{IsAccepted}
use Rattle.maid_examples.specs.Samples.{leader, follower, pay, whole, reached, never}

-- The first state is worth 1 to the leader, and the second 0; the follower gets 1 where it takes
-- the leader's state.
abbrev pub trail : List NodeView
trail =
    leader
    ∷ follower (0 ∷ [])
    ∷ pay 0 (0 ∷ []) (pos 1 ∷ pos 0 ∷ [])
    ∷ pay 1 (0 ∷ 1 ∷ []) (pos 1 ∷ pos 0 ∷ pos 0 ∷ pos 1 ∷ [])
    ∷ []

-- these nodes with two agents: every row is reached
abbrev pub trail_diagram : DiagramView
trail_diagram = record { nodes = trail; agents = 2; decimals = 0 }

-- the leader takes the first state, worth 1, the follower answers in these rows, and each gets 1
abbrev pub report : List Row → SolvedView
report follows = record {
  order = 0 ∷ 1 ∷ [];
  answers = record { decision = 0; rows = reached 0 1 ∷ [] } ∷ record { decision = 1; rows = follows } ∷ [];
  gains = whole (pos 1) ∷ whole (pos 1) ∷ [];
}

-- it is a diagram, and nobody relies on anybody
pub record HasNoReliance : Type 0 where
  pub diagram : IsDiagram trail_diagram
  pub not_on_follower : ReliesOn trail 0 1 → ⊥
  pub not_on_leader : ReliesOn trail 1 0 → ⊥

-- The follower's base has the leader's uniform rule, so both of its rows have mass: it takes the
-- leader's state in both, worth 1. A mark at the second row, as where the follower sees a copy, is
-- no answer and not accepted.
pub record HasAnswer : Type 0 where
  pub answered : IsAnswer trail_diagram (report (reached 0 1 ∷ reached 1 1 ∷ []))
  pub not_marked : IsAnswer trail_diagram (report (reached 0 1 ∷ never 0 ∷ [])) → ⊥
  pub accepted : IsAccepted trail_diagram (report (reached 0 1 ∷ reached 1 1 ∷ []))
  pub mark_not_accepted : IsAccepted trail_diagram (report (reached 0 1 ∷ never 0 ∷ [])) → ⊥

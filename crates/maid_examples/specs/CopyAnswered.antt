-- A leader who cares for its own choice alone, a follower who sees a copy of it, and what is
-- answered.
use Rattle.std.specs.Prelude.{ℤ, List, [], ◌∷◌, pos}
use Rattle.maid_model.specs.declared.answers.Row.{Row}
use Rattle.maid_model.specs.Views.{NodeView, RuleView, DiagramView, SolvedView}
use Rattle.maid_model.specs.Diagrams.{IsDiagram}
use Rattle.maid_model.specs.Relevance.{ReliesOn}
use Rattle.maid_model.specs.Subgames.{IsSubgamePerfect}
use Rattle.maid_model.specs.Answers.{IsAnswer}
use Rattle.maid_model.specs.Accepted.{IsAccepted}
use Rattle.maid_laws.specs.Exchange.{IsBestInBases}
use Rattle.maid_examples.specs.Samples.{leader, copy, follower, pay, rule, whole, reached, never}

-- The first state is worth 1 to the leader, and the second 0; the follower gets 1 where it takes
-- the leader's state.
abbrev pub trace : List NodeView
trace =
    leader
    ∷ copy
    ∷ follower (1 ∷ [])
    ∷ pay 0 (0 ∷ []) (pos 1 ∷ pos 0 ∷ [])
    ∷ pay 1 (0 ∷ 2 ∷ []) (pos 1 ∷ pos 0 ∷ pos 0 ∷ pos 1 ∷ [])
    ∷ []

-- these nodes with two agents: a row that the plan never reaches
abbrev pub trace_diagram : DiagramView
trace_diagram = record { nodes = trace; agents = 2; decimals = 0 }

-- the leader is answered before the follower, in these rows, and the plan is worth these numbers
abbrev pub report : List Row → List Row → ℤ → ℤ → SolvedView
report leads follows leader follower = record {
  order = 0 ∷ 2 ∷ [];
  answers = record { decision = 0; rows = leads } ∷ record { decision = 2; rows = follows } ∷ [];
  gains = whole leader ∷ whole follower ∷ [];
}

-- The leader takes the first state, worth 1. Against that the copy shows the first state alone:
-- there the follower takes the first state too, worth 1. The row of the second is never reached and
-- takes the first state. Each gets 1.
abbrev pub answer : SolvedView
answer = report (reached 0 1 ∷ []) (reached 0 1 ∷ never 0 ∷ []) (pos 1) (pos 1)

-- another state where the row is never reached
abbrev pub other_where_never : SolvedView
other_where_never = report (reached 0 1 ∷ []) (reached 0 1 ∷ never 1 ∷ []) (pos 1) (pos 1)

-- a mark at a row that is reached
abbrev pub marked_where_reached : SolvedView
marked_where_reached = report (reached 0 1 ∷ []) (never 0 ∷ never 0 ∷ []) (pos 1) (pos 1)

-- a worth at the row that is never reached
abbrev pub worth_where_never : SolvedView
worth_where_never = report (reached 0 1 ∷ []) (reached 0 1 ∷ reached 0 0 ∷ []) (pos 1) (pos 1)

-- twice the leader's worth
abbrev pub worth_off : SolvedView
worth_off = report (reached 0 2 ∷ []) (reached 0 1 ∷ never 0 ∷ []) (pos 1) (pos 1)

-- the leader's lesser state, with all that follows of it
abbrev pub lesser_state : SolvedView
lesser_state = report (reached 1 0 ∷ []) (never 0 ∷ reached 1 1 ∷ []) (pos 0) (pos 1)

-- twice what the follower gets
abbrev pub gain_off : SolvedView
gain_off = report (reached 0 1 ∷ []) (reached 0 1 ∷ never 0 ∷ []) (pos 1) (pos 2)

-- it is a diagram; the follower relies on the leader, whose choice it doesn't see, and the leader
-- on nobody
pub record HasReliance : Type 0 where
  pub diagram : IsDiagram trace_diagram
  pub on_leader : ReliesOn trace 2 0
  pub not_on_follower : ReliesOn trace 0 2 → ⊥

-- the answer is one, and by no other entry
pub record HasAnswer : Type 0 where
  pub answered : IsAnswer trace_diagram answer
  pub not_other : IsAnswer trace_diagram other_where_never → ⊥
  pub not_marked : IsAnswer trace_diagram marked_where_reached → ⊥
  pub not_unmarked : IsAnswer trace_diagram worth_where_never → ⊥
  pub not_worth : IsAnswer trace_diagram worth_off → ⊥
  pub not_lesser : IsAnswer trace_diagram lesser_state → ⊥
  pub not_gain : IsAnswer trace_diagram gain_off → ⊥

-- the answer is accepted, and with another state where the row is never reached; no other is
pub record HasAccepted : Type 0 where
  pub answered : IsAccepted trace_diagram answer
  pub other : IsAccepted trace_diagram other_where_never
  pub not_marked : IsAccepted trace_diagram marked_where_reached → ⊥
  pub not_unmarked : IsAccepted trace_diagram worth_where_never → ⊥
  pub not_worth : IsAccepted trace_diagram worth_off → ⊥
  pub not_lesser : IsAccepted trace_diagram lesser_state → ⊥
  pub not_gain : IsAccepted trace_diagram gain_off → ⊥

-- the first state everywhere, as answered
abbrev pub plan : List RuleView
plan = rule 0 1 (1 ∷ 0 ∷ []) ∷ rule 2 1 (1 ∷ 0 ∷ 1 ∷ 0 ∷ []) ∷ []

-- By laws the answered plan is best in its bases and subgame-perfect.
pub record IsPerfect : Type 0 where
  pub best : IsBestInBases trace plan
  pub perfect : IsSubgamePerfect trace plan

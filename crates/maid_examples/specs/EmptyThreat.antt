-- A follower who sees the leader's move and wants to match it threatens to cross it.
use Rattle.std.specs.Prelude.{◌≡◌, ℕ, List, [], ◌∷◌, pos}
use Rattle.maid_model.specs.Views.{NodeView, RuleView, DiagramView}
use Rattle.maid_model.specs.Diagrams.{IsDiagram}
use Rattle.maid_model.specs.Profiles.{IsProfile, uniform_profile}
use Rattle.maid_model.specs.Gains.{gain_of}
use Rattle.maid_model.specs.Relevance.{ReliesOn}
use Rattle.maid_model.specs.Subgames.{IsListing, IsSubgameStart, IsSubgamePerfect, IsNoBetter, DiffersOnlyFor, gain_from}
use Rattle.maid_laws.specs.Exchange.{IsBestInBases}
use Rattle.maid_examples.specs.Samples.{leader, follower, pay, rule, HasRowSums}

-- The leader moves left or right, the follower in sight of it. Left is worth 2 to the leader where
-- the follower goes left too and 0 where not, right 3 and 1; the follower gets 1 where it goes the
-- leader's way.
abbrev pub moves : List NodeView
moves =
    leader
    ∷ follower (0 ∷ [])
    ∷ pay 0 (0 ∷ 1 ∷ []) (pos 2 ∷ pos 0 ∷ pos 3 ∷ pos 1 ∷ [])
    ∷ pay 1 (0 ∷ 1 ∷ []) (pos 1 ∷ pos 0 ∷ pos 0 ∷ pos 1 ∷ [])
    ∷ []

-- these nodes with two agents: a threat that holds at first and not later
abbrev pub moves_diagram : DiagramView
moves_diagram = record { nodes = moves; agents = 2; decimals = 0 }

-- the leader goes right, since the follower goes right whatever it sees
abbrev pub threat : List RuleView
threat = rule 0 1 (0 ∷ 1 ∷ []) ∷ rule 1 1 (0 ∷ 1 ∷ 0 ∷ 1 ∷ []) ∷ []

-- the leader goes right, and the follower would go its way
abbrev pub called : List RuleView
called = rule 0 1 (0 ∷ 1 ∷ []) ∷ rule 1 1 (1 ∷ 0 ∷ 0 ∷ 1 ∷ []) ∷ []

-- it is a diagram, and the rules are profiles of it
pub record IsSoundSample : Type 0 where
  pub diagram : IsDiagram moves_diagram
  pub of_threat : IsProfile moves threat
  pub of_called : IsProfile moves called

-- No agent gains by its own rules at the start: the leader gets 1, and left 0; the follower gets 1,
-- which is the most there is.
pub record HoldsAtFirst : Type 0 where
  pub leader : gain_of moves threat 0 ≡ pos 1
  pub follower : gain_of moves threat 1 ≡ pos 1
  pub no_gain : (agent : ℕ) (t : List RuleView) → IsProfile moves t
      → DiffersOnlyFor moves agent threat t → IsNoBetter moves agent threat t

-- But a subgame starts where the leader went left, and from there the threat is worth 0 to the
-- follower and the leader's way 1: the threat is not subgame-perfect.
pub record FailsAfterLeft : Type 0 where
  pub listing : IsListing moves (0 ∷ 1 ∷ [])
  pub start : IsSubgameStart moves (0 ∷ 1 ∷ []) (0 ∷ [])
  pub threatened : gain_from moves (0 ∷ 1 ∷ []) (0 ∷ []) threat 1 ≡ pos 0
  pub matched : gain_from moves (0 ∷ 1 ∷ []) (0 ∷ []) called 1 ≡ pos 1
  pub same_leader : DiffersOnlyFor moves 1 threat called
  pub not_perfect : IsSubgamePerfect moves threat → ⊥

-- The follower doesn't rely on the leader, so its base has uniform rules: in the row of left the
-- threat's state gains 0 and the other 1. The threat is not best in its bases.
pub record IsNotBest : Type 0 where
  pub not_on_leader : ReliesOn moves 1 0 → ⊥
  pub left : HasRowSums moves (uniform_profile moves) 1 0 (pos 1) (pos 0) (pos 1)
  pub not_best : IsBestInBases moves threat → ⊥

-- A copy of the leader's choice, which the follower sees in its place. Of its eight worlds the four
-- with a wrong copy have weight 0, and the copy's total is 1: so the sums are those of the follower
-- who sees the leader.
use Rattle.std.specs.Prelude.{ℕ, ◌<◌, List, [], ◌∷◌}
use Rattle.maid_model.specs.Views.{NodeView, DiagramView}
use Rattle.maid_model.specs.Diagrams.{IsDiagram}
use Rattle.maid_model.specs.Profiles.{IsProfile, uniform_profile}
use Rattle.maid_model.specs.Relevance.{ReliesOn}
use Rattle.maid_model.specs.Subgames.{IsListing, IsSubgameStart}
use Rattle.maid_examples.specs.Samples.{leader, copy, follower, leader_pay, follower_pay, plan}

-- the follower sees node 1, the copy
abbrev pub copied : List NodeView
copied = leader ∷ copy ∷ follower (1 ∷ []) ∷ leader_pay 2 ∷ follower_pay 0 2 ∷ []

-- these nodes with two agents: what a copy in the way changes of sight
abbrev pub copied_diagram : DiagramView
copied_diagram = record { nodes = copied; agents = 2; decimals = 0 }

-- Each relies on the other: by the walk new -> 2 -> 3, and by the walk new -> 0 -> 4, since 0 isn't
-- given. That the copy never fails isn't looked at.
pub record HasReliance : Type 0 where
  pub on_follower : ReliesOn copied 0 2
  pub on_leader : ReliesOn copied 2 0

-- Given the copy "much", the follower's histories are "much, much" and, of weight 0, "little,
-- much": one extends "much" and the other doesn't, so no subgame starts there. It's the same after
-- "little", and after a choice and its right copy.
pub record HasStarts : Type 0 where
  pub listing : IsListing copied (0 ∷ 1 ∷ 2 ∷ [])
  pub whole : IsSubgameStart copied (0 ∷ 1 ∷ 2 ∷ []) []
  pub not_after_leader :
      (state : ℕ) → state < 2 → IsSubgameStart copied (0 ∷ 1 ∷ 2 ∷ []) (state ∷ []) → ⊥
  pub not_after_copy :
      (state : ℕ) → state < 2 → IsSubgameStart copied (0 ∷ 1 ∷ 2 ∷ []) (state ∷ state ∷ []) → ⊥

-- it is a diagram, and the rules are profiles of it
pub record IsSoundSample : Type 0 where
  pub diagram : IsDiagram copied_diagram
  pub of_uniform : IsProfile copied (uniform_profile copied)
  pub of_plan : IsProfile copied (plan 2)

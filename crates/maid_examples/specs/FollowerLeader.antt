-- A leader asks much or little, and a follower takes or leaves in sight of it.
use Rattle.std.specs.Prelude.{◌≡◌, ℕ, ◌+◌, ◌<◌, List, [], ◌∷◌, pos, negsuc, ◌*ℤ◌}
use Rattle.maid_model.specs.Views.{NodeView, RuleView, DiagramView}
use Rattle.maid_model.specs.Diagrams.{IsDiagram}
use Rattle.maid_model.specs.Profiles.{IsProfile, uniform_profile}
use Rattle.maid_model.specs.Relevance.{ReliesOn}
use Rattle.maid_model.specs.Subgames.{IsListing, IsSubgameStart, gain_from, mass_from}
use Rattle.maid_examples.specs.Samples.{leader, follower, leader_pay, follower_pay, rule, plan, HasRowSums}

-- the two decide, and the utilities behind them are the leader's and the follower's
abbrev pub sight : List NodeView
sight = leader ∷ follower (0 ∷ []) ∷ leader_pay 1 ∷ follower_pay 0 1 ∷ []

-- these nodes with two agents: reliance one way, and a subgame behind each move
abbrev pub sight_diagram : DiagramView
sight_diagram = record { nodes = sight; agents = 2; decimals = 0 }

-- the leader asks much and little with these weights, the follower takes and leaves alike
abbrev pub mixed : ℕ → ℕ → List RuleView
mixed much little = rule 0 (much + little) (much ∷ little ∷ []) ∷ rule 1 2 (1 ∷ 1 ∷ 1 ∷ 1 ∷ []) ∷ []

-- whatever weights the leader has, the follower's gains and mass in a row are the weight of that
-- row times the same numbers
pub record HasSumsInProportion : Type 0 where
  pub much : (much little : ℕ) → HasRowSums sight (mixed much little) 1 0 (negsuc 1 *ℤ pos much)
      (pos much) (pos much)
  pub little : (much little : ℕ) → HasRowSums sight (mixed much little) 1 1 (pos 5 *ℤ pos little)
      (pos 0) (pos little)

-- The leader relies on the follower, by the walk new -> 1 -> 2. The follower doesn't rely on the
-- leader: given 0 and 1, a walk from a new parent of 0 can only turn at 0, back to the new parent.
pub record HasReliance : Type 0 where
  pub on_follower : ReliesOn sight 0 1
  pub not_on_leader : ReliesOn sight 1 0 → ⊥

-- A subgame starts before all, and at each state of the leader, since the follower sees it. From
-- little on the plan is worth 3 and 5, of mass 1.
pub record HasStarts : Type 0 where
  pub listing : IsListing sight (0 ∷ 1 ∷ [])
  pub whole : IsSubgameStart sight (0 ∷ 1 ∷ []) []
  pub after_leader : (state : ℕ) → state < 2 → IsSubgameStart sight (0 ∷ 1 ∷ []) (state ∷ [])
  pub leader_from_little : gain_from sight (0 ∷ 1 ∷ []) (1 ∷ []) (plan 1) 0 ≡ pos 3
  pub follower_from_little : gain_from sight (0 ∷ 1 ∷ []) (1 ∷ []) (plan 1) 1 ≡ pos 5
  pub mass_from_little : mass_from sight (0 ∷ 1 ∷ []) (1 ∷ []) (plan 1) ≡ 1

-- it is a diagram, and the rules are profiles of it
pub record IsSoundSample : Type 0 where
  pub diagram : IsDiagram sight_diagram
  pub of_uniform : IsProfile sight (uniform_profile sight)
  pub of_plan : IsProfile sight (plan 1)
  pub of_mixed : (much little : ℕ) → 0 < much + little → IsProfile sight (mixed much little)

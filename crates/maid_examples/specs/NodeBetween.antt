-- A node between the leader's choice and what the follower gets, with two states and with one.
use Rattle.std.specs.Prelude.{List, [], ◌∷◌, pos, negsuc}
use Rattle.maid_model.specs.declared.diagrams.Kind.TheVariants.{Chance}
use Rattle.maid_model.specs.Views.{NodeView, RuleView, DiagramView}
use Rattle.maid_model.specs.Diagrams.{IsDiagram}
use Rattle.maid_model.specs.Profiles.{IsProfile, uniform_profile}
use Rattle.maid_model.specs.Relevance.{IsLive, ReliesOn}
use Rattle.maid_examples.specs.Samples.{leader, copy, follower, leader_pay, follower_pay, pay, rule, HasRowSums, HasTwoGains}

-- node 1 with one state
abbrev pub narrow : NodeView
narrow = record {
  kind = Chance;
  owner = 0;
  more = [];
  states = 1;
  parents = 0 ∷ [];
  cells = pos 1 ∷ pos 1 ∷ [];
}

-- node 4, agent 1, over the one state: 3 taken and 1 left
abbrev pub narrow_pay : NodeView
narrow_pay = pay 1 (1 ∷ 2 ∷ []) (pos 3 ∷ pos 1 ∷ [])

-- the follower sees nothing, and its utility looks at the copy
abbrev pub joined : List NodeView
joined = leader ∷ copy ∷ follower [] ∷ leader_pay 2 ∷ follower_pay 1 2 ∷ []

-- one state in the copy's place
abbrev pub parted : List NodeView
parted = leader ∷ narrow ∷ follower [] ∷ leader_pay 2 ∷ narrow_pay ∷ []

-- the copy between with two agents: reliance both ways
abbrev pub joined_diagram : DiagramView
joined_diagram = record { nodes = joined; agents = 2; decimals = 0 }

-- the one state between with two agents: reliance one way
abbrev pub parted_diagram : DiagramView
parted_diagram = record { nodes = parted; agents = 2; decimals = 0 }

-- the leader asks much, the follower takes and leaves alike
abbrev pub asks_much : List RuleView
asks_much = rule 0 1 (1 ∷ 0 ∷ []) ∷ rule 2 2 (1 ∷ 1 ∷ []) ∷ []

-- the leader asks little, the follower takes and leaves alike
abbrev pub asks_little : List RuleView
asks_little = rule 0 1 (0 ∷ 1 ∷ []) ∷ rule 2 2 (1 ∷ 1 ∷ []) ∷ []

-- With two states: four worlds with a right copy, and the mass is 2 * 1 * 2. uniform: leader 5 - 1
-- + 3 + 0 = 7, follower -2 + 1 + 5 + 0 = 4 The follower has one row; its gains are summed over what
-- the leader asks, with the leader's weights. uniform: take -2 + 5 = 3, leave 1 + 0 = 1, mass 1 + 1
-- much asked: take -2, leave 1, mass 1; little asked: take 5, leave 0, mass 1: the best state is
-- another
pub record HasJoinedSums : Type 0 where
  pub uniform : HasTwoGains joined (uniform_profile joined) (pos 7) (pos 4) 4
  pub row : HasRowSums joined (uniform_profile joined) 2 0 (pos 3) (pos 1) (pos 2)
  pub much_asked : HasRowSums joined asks_much 2 0 (negsuc 1) (pos 1) (pos 1)
  pub little_asked : HasRowSums joined asks_little 2 0 (pos 5) (pos 0) (pos 1)

-- With one state: four worlds, and the mass is 2 * 1 * 2.
--   uniform: leader 5 - 1 + 3 + 0 = 7, follower 3 + 1 + 3 + 1 = 8
--   uniform: take 3 + 3 = 6, leave 1 + 1 = 2, mass 1 + 1
--   much or little asked: take 3, leave 1, mass 1: in the same proportion
pub record HasPartedSums : Type 0 where
  pub uniform : HasTwoGains parted (uniform_profile parted) (pos 7) (pos 8) 4
  pub row : HasRowSums parted (uniform_profile parted) 2 0 (pos 6) (pos 2) (pos 2)
  pub much_asked : HasRowSums parted asks_much 2 0 (pos 3) (pos 1) (pos 1)
  pub little_asked : HasRowSums parted asks_little 2 0 (pos 3) (pos 1) (pos 1)

-- The leader relies on the follower in both, by the walk new -> 2 -> 3. The follower relies on the
-- leader by the walk new -> 0 -> 1 -> 4 alone, which is none where node 1 has one state and so
-- isn't live.
pub record HasReliance : Type 0 where
  pub live : IsLive joined 1
  pub on_follower : ReliesOn joined 0 2
  pub on_leader : ReliesOn joined 2 0
  pub not_live : IsLive parted 1 → ⊥
  pub still_on_follower : ReliesOn parted 0 2
  pub not_on_leader : ReliesOn parted 2 0 → ⊥

-- both are diagrams, and the rules are profiles of both
pub record AreSound : Type 0 where
  pub two_states : IsDiagram joined_diagram
  pub one_state : IsDiagram parted_diagram
  pub uniform_joined : IsProfile joined (uniform_profile joined)
  pub much_joined : IsProfile joined asks_much
  pub little_joined : IsProfile joined asks_little
  pub uniform_parted : IsProfile parted (uniform_profile parted)
  pub much_parted : IsProfile parted asks_much
  pub little_parted : IsProfile parted asks_little

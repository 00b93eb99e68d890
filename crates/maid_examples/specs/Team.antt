-- A leader and a follower who share what comes of their choices, and a follower with a wish of its
-- own beside it.
use Rattle.std.specs.Prelude.{ℕ, ℤ, List, [], ◌∷◌, pos}
use Rattle.maid_model.specs.declared.diagrams.Kind.TheVariants.{Decision, Utility}
use Rattle.maid_model.specs.declared.answers.Row.{Row}
use Rattle.maid_model.specs.Views.{NodeView, RuleView, DiagramView, SolvedView}
use Rattle.maid_model.specs.Nodes.{IsOwnedBy}
use Rattle.maid_model.specs.Graph.{Arc, Descends}
use Rattle.maid_model.specs.Diagrams.{IsDiagram}
use Rattle.maid_model.specs.Profiles.{IsProfile, uniform_profile}
use Rattle.maid_model.specs.Relevance.{IsGoal, ReliesOn}
use Rattle.maid_model.specs.Answers.{IsAnswer}
use Rattle.maid_model.specs.Subgames.{IsSubgamePerfect}
use Rattle.maid_examples.specs.Samples.{leader, follower, pay, rule, whole, reached, HasTwoGains, HasRowSums}

-- what these agents get: 3 where both choices are the first state, 2 where both are the second, and
-- else 0
abbrev pub result : ℕ → List ℕ → NodeView
result owner more = record {
  kind = Utility;
  owner = owner;
  more = more;
  states = 1;
  parents = 0 ∷ 1 ∷ [];
  cells = pos 3 ∷ pos 0 ∷ pos 0 ∷ pos 2 ∷ [];
}

-- the follower alone gets 2 where it takes the second state
abbrev pub wish : NodeView
wish = pay 1 (1 ∷ []) (pos 0 ∷ pos 2 ∷ [])

-- two agents, of whom the second sees the first one's choice, and behind these decisions a result
-- and the wish
abbrev pub with_result : NodeView → NodeView → DiagramView
with_result first result =
    record { nodes = first ∷ follower (0 ∷ []) ∷ result ∷ wish ∷ []; agents = 2; decimals = 0 }

-- the result is the leader's and the follower's
abbrev pub team_diagram : DiagramView
team_diagram = with_result leader (result 0 (1 ∷ []))

-- its nodes
abbrev pub team : List NodeView
team = team_diagram.nodes

-- the leader takes the first state, and the follower takes what it sees
abbrev pub plan : List RuleView
plan = rule 0 1 (1 ∷ 0 ∷ []) ∷ rule 1 1 (1 ∷ 0 ∷ 0 ∷ 1 ∷ []) ∷ []

-- it is a diagram, and the rules are profiles of it
pub record IsSoundSample : Type 0 where
  pub diagram : IsDiagram team_diagram
  pub of_uniform : IsProfile team (uniform_profile team)
  pub of_plan : IsProfile team plan

-- a decision of both agents
abbrev pub both_decide : NodeView
both_decide =
    record { kind = Decision; owner = 0; more = 1 ∷ []; states = 2; parents = []; cells = [] }

-- A utility that names an agent twice makes no diagram, nor one that names an agent that there is
-- not, nor a decision of two agents.
pub record AreNone : Type 0 where
  pub named_twice : IsDiagram (with_result leader (result 0 (0 ∷ []))) → ⊥
  pub unknown_owner : IsDiagram (with_result leader (result 0 (2 ∷ []))) → ⊥
  pub shared_decision : IsDiagram (with_result both_decide (result 0 (1 ∷ []))) → ⊥

-- The result is the leader's and the follower's and nobody else's, and so a goal of both decisions.
-- The wish is a goal of the follower's decision alone, though it descends from both.
pub record IsShared : Type 0 where
  pub of_leader : IsOwnedBy team 2 0
  pub of_follower : IsOwnedBy team 2 1
  pub of_no_other : IsOwnedBy team 2 2 → ⊥
  pub goal_of_leader : IsGoal team 0 2
  pub goal_of_follower : IsGoal team 1 2
  pub wish_of_follower : IsGoal team 1 3
  pub wish_below_leader : Descends (Arc team) 0 3
  pub wish_not_of_leader : IsGoal team 0 3 → ⊥

-- The result counts in full for each. With uniform rules each of the four worlds has weight 1: 3 +
-- 2 = 5 for the leader, and 2 + 2 more for the follower, of mass 4. Under the plan each gets 3. At
-- the follower, in sight of the first state, 3 and the wish's 2, in sight of the second 0 and 2 +
-- 2, of mass 1 each. At the leader, against the plan, 3 and 2.
pub record HasSums : Type 0 where
  pub uniform : HasTwoGains team (uniform_profile team) (pos 5) (pos 9) 4
  pub planned : HasTwoGains team plan (pos 3) (pos 3) 1
  pub first : HasRowSums team (uniform_profile team) 1 0 (pos 3) (pos 2) (pos 1)
  pub second : HasRowSums team (uniform_profile team) 1 1 (pos 0) (pos 4) (pos 1)
  pub leads : HasRowSums team plan 0 0 (pos 3) (pos 2) (pos 1)

-- the leader relies on the follower, who sees it and so relies on nobody
pub record HasReliance : Type 0 where
  pub on_follower : ReliesOn team 0 1
  pub not_on_leader : ReliesOn team 1 0 → ⊥

-- the follower is answered before the leader, in these rows, and the plan is worth these numbers
abbrev pub report : List Row → Row → ℤ → ℤ → SolvedView
report follows leads leader follower = record {
  order = 1 ∷ 0 ∷ [];
  answers = record { decision = 1; rows = follows } ∷ record { decision = 0; rows = leads ∷ [] } ∷ [];
  gains = whole leader ∷ whole follower ∷ [];
}

-- The follower takes the state that it sees, worth 3 and 2 + 2, and the leader the first one, worth
-- 3. Each gets 3.
abbrev pub answer : SolvedView
answer = report (reached 0 3 ∷ reached 1 4 ∷ []) (reached 0 3) (pos 3) (pos 3)

-- what it would be if the result were the leader's alone: the follower follows its wish, and the
-- leader goes along
abbrev pub leaders_result : SolvedView
leaders_result = report (reached 1 2 ∷ reached 1 2 ∷ []) (reached 1 2) (pos 2) (pos 2)

-- if it were the follower's alone: the leader does not care
abbrev pub followers_result : SolvedView
followers_result = report (reached 0 3 ∷ reached 1 4 ∷ []) (reached 0 0) (pos 0) (pos 3)

-- if each had a half of it: the wish is worth more than 3/2, and the second state is 1 and 1 + 2
abbrev pub halved_result : SolvedView
halved_result = report (reached 1 2 ∷ reached 1 3 ∷ []) (reached 1 1) (pos 1) (pos 3)

-- the answer is one, and by a law its plan is subgame-perfect; what other shares of the result
-- would give is none
pub record HasAnswer : Type 0 where
  pub answered : IsAnswer team_diagram answer
  pub perfect : IsSubgamePerfect team plan
  pub not_leaders : IsAnswer team_diagram leaders_result → ⊥
  pub not_followers : IsAnswer team_diagram followers_result → ⊥
  pub not_halved : IsAnswer team_diagram halved_result → ⊥

-- Conditional expected utilities: sums over the worlds in which a node has a given state.
use Rattle.std.specs.Prelude.{◌≡◌, ℕ, ◌<◌, ◌*◌, ◌^◌, List, All, length, slice_index_or, pos, nat_abs}
use Rattle.maid_model.specs.declared.answers.Ratio.{Ratio}
use Rattle.maid_model.specs.Answers.{IsFraction, IsReduced, answered}
use Rattle.maid_model.specs.Profiles.{IsProfile}
use Rattle.maid_model.specs.Subgames.{IsSubgamePerfect, OwnsAll}
use Rattle.maid_model.specs.Views.{NodeView, DiagramView, RuleView, SolvedView}
use Rattle.reach_laws.specs.Evidence.{IsNoBetterGiven, all_seeing, all_seeing_diagram, gain_given, mass_given}

-- the agent's conditional expected utility under the profile: its gain over the worlds with this
-- state at x, over their weight, where utilities are whole numbers of one part in `scale`
abbrev pub IsExpectedGiven : List NodeView → ℕ → List RuleView → ℕ → ℕ → ℕ → Ratio → Type 0
IsExpectedGiven nodes scale p agent x state r =
    IsFraction r (gain_given nodes p agent x state) (nat_abs (mass_given nodes p x state) * scale)

-- what the profile is worth to each of the first n agents, given this state of x
pub record HasGainsGiven
    (d : DiagramView) (p : List RuleView) (x state n : ℕ) (gains : List Ratio) : Type 0 where
  pub count : length gains ≡ n
  pub each : (agent : ℕ) (r : Ratio) → agent < n
      → IsExpectedGiven d.nodes (10 ^ d.decimals) p agent x state (slice_index_or gains agent r)
  pub reduced : All IsReduced gains

-- and to all agents
abbrev pub HasAllGains : DiagramView → List RuleView → ℕ → ℕ → List Ratio → Type 0
HasAllGains d p x state gains = HasGainsGiven d p x state d.agents gains

-- the worlds with this state at x weigh nought under every profile
pub record IsImpossible (nodes : List NodeView) (x state : ℕ) : Type 0 where
  pub each : (p : List RuleView) → IsProfile nodes p → mass_given nodes p x state ≡ pos 0

-- ---- of an answer, where every decision sees x
-- its profile, in the diagram in which every decision sees x
abbrev pub profile_seeing : DiagramView → ℕ → SolvedView → List RuleView
profile_seeing d x solved = answered (all_seeing_diagram d x) solved

-- what an answer of the diagram is worth to each agent, given this state of x
abbrev pub IsWorthIn : DiagramView → ℕ → ℕ → SolvedView → List Ratio → Type 0
IsWorthIn d x state solved gains = HasAllGains d (answered d solved) x state gains

-- the same, where every decision sees x
abbrev pub IsWorthGiven : DiagramView → ℕ → ℕ → SolvedView → List Ratio → Type 0
IsWorthGiven d x state solved gains = IsWorthIn (all_seeing_diagram d x) x state solved gains

-- from no subgame start does an agent gain by other rules of its own
abbrev pub IsPerfectSeeing : DiagramView → ℕ → SolvedView → Type 0
IsPerfectSeeing d x solved = IsSubgamePerfect (all_seeing d.nodes x) (profile_seeing d x solved)

-- no profile is worth more, given this state of x, to an agent that owns all decisions
pub record IsBestGiven (d : DiagramView) (x state : ℕ) (solved : SolvedView) : Type 0 where
  pub greatest : (agent : ℕ) (t : List RuleView) → OwnsAll d.nodes agent
      → IsProfile (all_seeing d.nodes x) t
      → IsNoBetterGiven (all_seeing d.nodes x) x state agent (profile_seeing d x solved) t

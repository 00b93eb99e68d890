-- How great the rules of a profile are, and what it is worth.
use Rattle.std.specs.Prelude.{◌≡◌, ◌<◌, ◌≤◌, ◌^◌, ℕ, List, All, length, slice_index_or}
use Rattle.maid_model.specs.declared.answers.Ratio.{Ratio}
use Rattle.maid_model.specs.Answers.{IsExpectedUtility, IsReduced}
use Rattle.maid_model.specs.Nodes.{IsDecision, states_of}
use Rattle.maid_model.specs.Tables.{rule_total}
use Rattle.maid_model.specs.Views.{NodeView, DiagramView, RuleView}

-- no rule's total is more than its decision has states
abbrev pub KeepsStates : List NodeView → List RuleView → Type 0
KeepsStates nodes p = (v : ℕ) → IsDecision nodes v → rule_total p v ≤ states_of nodes v

-- the fraction is what the profile is worth to the agent
abbrev pub IsExpected : DiagramView → List RuleView → ℕ → Ratio → Type 0
IsExpected d p agent r = IsExpectedUtility d.nodes (10 ^ d.decimals) p agent r

-- what the profile is worth to each of the first n agents
pub record HasGains
    (d : DiagramView) (p : List RuleView) (n : ℕ) (gains : List Ratio) : Type 0 where
  pub count : length gains ≡ n
  pub each :
      (agent : ℕ) (r : Ratio) → agent < n → IsExpected d p agent (slice_index_or gains agent r)
  pub reduced : All IsReduced gains

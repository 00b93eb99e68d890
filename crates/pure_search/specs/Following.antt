-- Words of sums that follow lists of choices, for contracts between functions of the search alone.
use Rattle.std.specs.Prelude.{◌≡◌, ◌≢◌, ℕ, List, Option, Some, None, Contains}
use Rattle.std.specs.List.{flat_map}
use Rattle.maid_model.specs.Nodes.{IsDecision}
use Rattle.maid_model.specs.Parts.{place_in}
use Rattle.maid_model.specs.Profiles.{IsRule, SameRule, pure_row}
use Rattle.maid_model.specs.Scopes.{rules_in_scope_for, scope_part_for}
use Rattle.maid_model.specs.Tables.{rule_total, weights_of}
use Rattle.maid_model.specs.Views.{NodeView, RuleView}
use Rattle.reach_laws.specs.Equilibria.{profile_of}
use Rattle.tree_checker.specs.AgentSums.{IsAgentSum}
use Rattle.tree_checker.specs.declared.agent_sums.AgentSum.{AgentSum}

-- the place at which the node stands in the list, or it stands at none
abbrev pub TellsPlace : List ℕ → ℕ → Option ℕ → Type 0
TellsPlace kept v None = Contains kept v → ⊥
TellsPlace kept v (Some place) = Contains kept v × (place ≡ place_in kept v)

-- the rule of total 1 that takes in each row the chosen one of so many states
abbrev pub rule_taking : ℕ → ℕ → List ℕ → RuleView
rule_taking place states choices =
    record { decision = place; total = 1; weights = flat_map (pure_row states) choices }

-- the rule is one of a decision of the nodes
pub record IsRuleOfDecision (nodes : List NodeView) (r : RuleView) : Type 0 where
  pub decision : IsDecision nodes r.decision
  pub rule : IsRule nodes r

-- the sum has the rule at its decision, and all other rules that it had
pub record TakesRule (nodes : List NodeView) (rule : RuleView) (old new : AgentSum) : Type 0 where
  pub sum : IsAgentSum nodes new
  pub agent : new.agent ≡ old.agent
  pub weights : weights_of new.rules rule.decision ≡ rule.weights
  pub total : rule_total new.rules rule.decision ≡ rule.total
  pub others : (v : ℕ) → v ≢ rule.decision → SameRule new.rules old.rules v

-- where the decision stands among the kept nodes, the sum takes that rule there, and else it stays
pub record TakesRuleIfKept (nodes : List NodeView) (kept : List ℕ) (decision : ℕ) (rule : RuleView)
    (old new : AgentSum) : Type 0 where
  pub within : Contains kept decision → TakesRule nodes rule old new
  pub outside : (Contains kept decision → ⊥) → new ≡ old

-- the sum is the agent's, in the part of its scope, under the profile of the list of choices
pub record FollowsChoices (nodes : List NodeView) (agent : ℕ) (choices : List ℕ) (s : AgentSum)
    : Type 0 where
  pub ready : IsAgentSum (scope_part_for nodes agent) s
  pub agent_is : s.agent ≡ agent
  pub rules_are : s.rules ≡ rules_in_scope_for nodes (profile_of nodes choices) agent

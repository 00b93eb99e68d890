-- The laws of scopes: all that a decision's or an agent's sums look at, and the room that the bound
-- leaves them.
use Rattle.std.specs.Prelude.{◌≡◌, ◌≢◌, ◌⊎◌, ◌↔◌, ℕ, ◌<◌, ◌≤◌, ◌*◌, ◌^◌, max, List, length, Contains, nat_abs}
use Rattle.maid_model.specs.declared.diagrams.Kind.TheVariants.{Utility}
use Rattle.maid_model.specs.Views.{NodeView, DiagramView, RuleView, AnswerView}
use Rattle.maid_model.specs.Nodes.{IsDecision, node_at, states_of, Owns}
use Rattle.maid_model.specs.Graph.{IsGraph}
use Rattle.finite_sums.specs.Sums.{nat_product_over}
use Rattle.maid_model.specs.Diagrams.{greatest_number}
use Rattle.maid_model.specs.Tables.{HasChanceTables, rule_total}
use Rattle.maid_model.specs.Profiles.{IsProfile}
use Rattle.maid_model.specs.Gains.{gain_of, mass, gain_at, mass_at, base_mass, greatest_utility}
use Rattle.maid_model.specs.Relevance.{IsGoal, ReliesOn}
use Rattle.maid_model.specs.Answers.{IsBase, pure_profile}
use Rattle.maid_model.specs.Bounds.{KeepsBound}
use Rattle.maid_model.specs.Parts.{IsAncestral, with_ancestors}
use Rattle.maid_model.specs.Scopes.{PassesInScope, FailsFirst, FailsFirstFor, IsInScope, scope_of, scope_for, scope_part, place_in_scope, rules_in_scope, scope_part_for, rules_in_scope_for, goals_of, utilities_for, scope_product, scope_product_for, greatest_of, scope_bound, scope_bound_for, KeepsScopedBounds}

-- The scope of a decision keeps with each node its parents, and is told by paths. It has the
-- decision and all utilities of its agent that descend from it.
abbrev pub ScopesAreParts : Type 0
ScopesAreParts =
    (nodes : List NodeView) (d : ℕ) → IsGraph nodes → IsDecision nodes d
    → IsAncestral nodes (scope_of nodes d)
    × ((v : ℕ) → Contains (scope_of nodes d) v ↔ IsInScope nodes d v)
    × Contains (scope_of nodes d) d
    × ((u : ℕ) → IsGoal nodes d u → Contains (scope_of nodes d) u)

-- The scope of an agent keeps with each node its parents, and has all utilities of the agent.
abbrev pub AgentsScopesAreParts : Type 0
AgentsScopesAreParts = (nodes : List NodeView) (agent : ℕ) → IsGraph nodes
    → IsAncestral nodes (scope_for nodes agent)
    × ((u : ℕ) → u < length nodes → (node_at nodes u).kind ≡ Utility → Owns nodes agent u
    → Contains (scope_for nodes agent) u)

-- A decision relies only on decisions of its scope.
abbrev pub ReliesInScope : Type 0
ReliesInScope =
    (nodes : List NodeView) (d e : ℕ) → IsGraph nodes → ReliesOn nodes d e → IsInScope nodes d e

-- the rules of all other decisions add up to no more than the count of states, as pure and uniform
-- ones do
abbrev pub HasSmallRules : List NodeView → List RuleView → ℕ → Type 0
HasSmallRules nodes p d = (e : ℕ) → IsDecision nodes e → e ≢ d → rule_total p e ≤ states_of nodes e

-- the rules add up to 1, as pure ones do
abbrev pub HasUnitRules : List NodeView → List RuleView → Type 0
HasUnitRules nodes p = (e : ℕ) → IsDecision nodes e → rule_total p e ≡ 1

-- P and S of the decision, its gains and masses in the part of its scope, and what the call that
-- sums over the worlds of that part asks for are at most this number
pub record FitsScope (d : DiagramView) (p : List RuleView) (v most : ℕ) : Type 0 where
  pub call : base_mass (scope_part d.nodes v) (rules_in_scope d.nodes p v)
      (place_in_scope d.nodes v)
      * max (10 ^ d.decimals) (greatest_utility (scope_part d.nodes v)) ≤ most
  pub product : scope_product d.nodes v ≤ most
  pub utilities : greatest_of d.nodes (goals_of d.nodes v) ≤ most
  pub gain : (state row : ℕ) → nat_abs (gain_at (scope_part d.nodes v) (rules_in_scope d.nodes p v)
      (place_in_scope d.nodes v) state row) ≤ most
  pub mass : (row : ℕ) → nat_abs (mass_at (scope_part d.nodes v) (rules_in_scope d.nodes p v)
      (place_in_scope d.nodes v) row) ≤ most

-- the same of an agent, with its gain
pub record FitsAgentsScope (d : DiagramView) (p : List RuleView) (agent most : ℕ) : Type 0 where
  pub call : mass (scope_part_for d.nodes agent) (rules_in_scope_for d.nodes p agent)
      * max (10 ^ d.decimals) (greatest_utility (scope_part_for d.nodes agent)) ≤ most
  pub product : scope_product_for d.nodes agent ≤ most
  pub utilities : greatest_of d.nodes (utilities_for d.nodes agent) ≤ most
  pub gain : nat_abs (gain_of (scope_part_for d.nodes agent) (rules_in_scope_for d.nodes p agent)
      agent) ≤ most

-- The sums over the part of a decision's scope are at most the scope's bound.
abbrev pub SumsOfScopesFit : Type 0
SumsOfScopesFit = (d : DiagramView) (p : List RuleView) (v : ℕ) → IsGraph d.nodes
    → HasChanceTables d.nodes → IsProfile d.nodes p → IsDecision d.nodes v
    → HasSmallRules d.nodes p v → FitsScope d p v (scope_bound d v)

-- The sum over the part of an agent's scope is at most its bound, for pure rules.
abbrev pub SumsOfAgentsScopesFit : Type 0
SumsOfAgentsScopesFit = (d : DiagramView) (p : List RuleView) (agent : ℕ) → IsGraph d.nodes
    → HasChanceTables d.nodes → IsProfile d.nodes p → HasUnitRules d.nodes p
    → FitsAgentsScope d p agent (scope_bound_for d agent)

-- A profile of answered choices has such rules.
abbrev pub AnswersHaveUnitRules : Type 0
AnswersHaveUnitRules = (nodes : List NodeView) (answers : List AnswerView)
    → HasUnitRules nodes (pure_profile nodes answers)

-- The base of a decision in a profile of pure rules has small rules: pure where the decision
-- relies, uniform elsewhere.
abbrev pub BasesHaveSmallRules : Type 0
BasesHaveSmallRules = (nodes : List NodeView) (s base : List RuleView) (d : ℕ) → IsGraph nodes
    → HasUnitRules nodes s → IsBase nodes s d base → HasSmallRules nodes base d

-- Where the bounds of all scopes hold, no sum over a scope's part leaves its range.
abbrev pub ScopedSumsHaveRoom : Type 0
ScopedSumsHaveRoom = (d : DiagramView) (p : List RuleView) → IsGraph d.nodes
    → HasChanceTables d.nodes → IsProfile d.nodes p → KeepsScopedBounds d
    → ((v : ℕ) → IsDecision d.nodes v → HasSmallRules d.nodes p v → FitsScope d p v greatest_number)
    × ((agent : ℕ) → agent < d.agents → HasUnitRules d.nodes p
    → FitsAgentsScope d p agent greatest_number)

-- The bounds of all scopes hold wherever the bound of the whole diagram does.
abbrev pub ScopedBoundsAreWeaker : Type 0
ScopedBoundsAreWeaker = (d : DiagramView) → IsGraph d.nodes → HasChanceTables d.nodes → KeepsBound d
    → KeepsScopedBounds d

-- Either the bounds of all scopes hold, or there is a first that fails, of a decision or else of an
-- agent.
abbrev pub FirstFailureExists : Type 0
FirstFailureExists = (d : DiagramView) → KeepsScopedBounds d
    ⊎ (((v : ℕ) × FailsFirst d v) ⊎ ((agent : ℕ) × FailsFirstFor d agent))

-- Either P is within the range, or there is a first node of the scope at which it passes.
abbrev pub FirstPassingExists : Type 0
FirstPassingExists = (nodes : List NodeView) (of : List ℕ) (factor : ℕ → ℕ)
    → (nat_product_over factor (with_ancestors nodes of) ≤ greatest_number)
    ⊎ ((v : ℕ) × PassesInScope factor (with_ancestors nodes of) v)

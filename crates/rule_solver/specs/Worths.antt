-- What utilities give to expected utilities, as plans give it. Only private functions cite it.
use Rattle.std.specs.Global.{Vec}
use Rattle.std.specs.Prelude.{◌≡◌, ◌↔◌, ℕ, ◌<◌, ◌≤◌, List, length, slice_index_or, Contains, ℤ, pos, ◌*ℤ◌, if◌then◌else◌}
use Rattle.maid_model.specs.declared.answers.Ratio.{Ratio}
use Rattle.maid_model.specs.declared.diagrams.Kind.TheVariants.{Utility}
use Rattle.maid_model.specs.Diagrams.{IsDiagram, greatest_number}
use Rattle.maid_model.specs.Gains.{gain_of}
use Rattle.maid_model.specs.Nodes.{IsOwnedBy, is_utility_of, node_at, states_of}
use Rattle.maid_model.specs.Profiles.{IsProfile}
use Rattle.maid_model.specs.Scopes.{rules_in_scope_for, scope_bound_for, scope_for, scope_part_for}
use Rattle.maid_model.specs.Views.{NodeView, DiagramView, RuleView}
use Rattle.node_sets.specs.declared.sets.NodeSet.{NodeSet}
use Rattle.node_sets.specs.Sets.{IsIn}
use Rattle.finite_sums.specs.Sums.{World, InRange}
use Rattle.part_laws.specs.ScopeLaws.{HasUnitRules}
use Rattle.plan_sums.specs.Plans.{gain_cells, plan_sum, worth_plan}
use Rattle.scope_sums.specs.Missing.{missing_in}
use Rattle.rule_solver.specs.declared.worths.Stake.{Stake}
use Rattle.rule_solver.specs.Masses.{IsExpected}
use Rattle.rule_solver.specs.Totals.{HasTotals}

-- the worth is what the utility's plan sums to
abbrev pub IsWorth : List NodeView → List RuleView → ℕ → ℤ → Type 0
IsWorth nodes p u worth =
    (q : World) → InRange (states_of nodes) q → worth ≡ plan_sum gain_cells nodes p (worth_plan u) q

-- so it is if the agent owns the utility
abbrev pub IsWorthIfOwned : List NodeView → List RuleView → ℕ → ℕ → ℤ → Type 0
IsWorthIfOwned nodes p agent u worth = IsOwnedBy nodes u agent → IsWorth nodes p u worth

-- the list has the worth of each utility
pub record HasWorths (nodes : List NodeView) (p : List RuleView) (worths : List ℤ) : Type 0 where
  pub count : length worths ≡ length nodes
  pub each : (u : ℕ) → u < length nodes → (node_at nodes u).kind ≡ Utility
      → IsWorth nodes p u (slice_index_or worths u (pos 0))

-- the list has the worth of each of the agent's utilities
pub record HasWorthsFor
    (nodes : List NodeView) (p : List RuleView) (agent : ℕ) (worths : List ℤ) : Type 0 where
  pub count : length worths ≡ length nodes
  pub each : (u : ℕ) → u < length nodes → (node_at nodes u).kind ≡ Utility
      → IsOwnedBy nodes u agent → IsWorth nodes p u (slice_index_or worths u (pos 0))

-- so the program has them
abbrev pub AreWorthsFor : List NodeView → List RuleView → ℕ → Vec ℤ → Type 0
AreWorthsFor nodes p agent worths = HasWorthsFor nodes p agent worths.items

-- what a node gives to an agent's gain: a utility of the agent its worth times the totals of the
-- scope's nodes that its plan lacks
abbrev pub share_for : List NodeView → List RuleView → ℕ → List ℤ → ℕ → ℤ
share_for nodes p agent worths v = if is_utility_of nodes agent v
    then slice_index_or worths v (pos 0)
    *ℤ pos (missing_in nodes p (scope_for nodes agent) (worth_plan v))
    else pos 0

-- an agent and a profile of pure rules, within the bound, with the totals of all nodes, the worths
-- of the agent's utilities and its scope
pub record IsStake
    (d : DiagramView) (p : List RuleView) (agent : ℕ) (totals : List ℕ) (worths : List ℤ)
    (scope : NodeSet) : Type 0 where
  pub is_diagram : IsDiagram d
  pub within : agent < d.agents
  pub profile : IsProfile d.nodes p
  pub rules : HasUnitRules d.nodes p
  pub bound : scope_bound_for d agent ≤ greatest_number
  pub has_totals : HasTotals d.nodes p totals
  pub has_worths : HasWorthsFor d.nodes p agent worths
  pub is_scope : (v : ℕ) → IsIn scope v ↔ Contains (scope_for d.nodes agent) v

-- the agent's gain in the part of its scope
abbrev pub scope_gain_for : List NodeView → List RuleView → ℕ → ℤ
scope_gain_for nodes p agent =
    gain_of (scope_part_for nodes agent) (rules_in_scope_for nodes p agent) agent

-- ---- of a stake as the program has it
-- what the stake has is right
abbrev pub HoldsStake : Stake → Type 0
HoldsStake s =
    IsStake s.diagram.now s.profile.now s.agent s.totals.now s.worths.now s.scope

-- what a node gives to its agent's gain
abbrev pub share_of : Stake → ℕ → ℤ
share_of s v = share_for s.diagram.now.nodes s.profile.now s.agent s.worths.now v

-- its agent's gain
abbrev pub gain_to : Stake → ℤ
gain_to s = scope_gain_for s.diagram.now.nodes s.profile.now s.agent

-- what its profile is worth to its agent
abbrev pub IsExpectedTo : Stake → Ratio → Type 0
IsExpectedTo s r = IsExpected s.diagram.now s.profile.now s.agent r

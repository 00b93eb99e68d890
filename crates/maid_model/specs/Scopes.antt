-- The scopes of decisions and agents, and the weight bound that counts only them.
use Rattle.std.specs.Prelude.{◌≡◌, ◌⊎◌, ℕ, ◌<◌, ◌≤◌, ◌+◌, ◌*◌, ◌^◌, max, ◌&&◌, ltb, List, ◌∷◌, filter, Contains}
use Rattle.maid_model.specs.declared.diagrams.Kind.{Kind}
use Rattle.maid_model.specs.declared.diagrams.Kind.TheVariants.{Chance, Decision, Utility}
use Rattle.maid_model.specs.Views.{NodeView, DiagramView, RuleView}
use Rattle.maid_model.specs.Nodes.{IsDecision, node_at, numbers_of, is_utility_of, agent_of}
use Rattle.maid_model.specs.Graph.{Arc, IsPath, descends}
use Rattle.finite_sums.specs.Sums.{nat_product_over, nat_sum_over}
use Rattle.maid_model.specs.Tables.{chance_total}
use Rattle.maid_model.specs.Gains.{greatest_abs}
use Rattle.maid_model.specs.Relevance.{IsGoal}
use Rattle.maid_model.specs.Diagrams.{greatest_number}
use Rattle.maid_model.specs.Bounds.{bound_factor}
use Rattle.maid_model.specs.Parts.{with_ancestors, place_in, part_of, rules_in}

-- the utilities of d's agent that descend from d
abbrev pub goals_of : List NodeView → ℕ → List ℕ
goals_of nodes d =
    filter (λ u. is_utility_of nodes (agent_of nodes d) u && descends nodes d u) (numbers_of nodes)

-- the utilities of the agent
abbrev pub utilities_for : List NodeView → ℕ → List ℕ
utilities_for nodes agent = filter (is_utility_of nodes agent) (numbers_of nodes)

-- the scope of a decision: the nodes from which a path of nought or more arcs leads to it, or to a
-- utility of its agent that descends from it
abbrev pub scope_of : List NodeView → ℕ → List ℕ
scope_of nodes d = with_ancestors nodes (d ∷ goals_of nodes d)

-- the scope of an agent: the nodes from which a path of nought or more arcs leads to a utility of
-- the agent
abbrev pub scope_for : List NodeView → ℕ → List ℕ
scope_for nodes agent = with_ancestors nodes (utilities_for nodes agent)

-- the part of a decision's scope
abbrev pub scope_part : List NodeView → ℕ → List NodeView
scope_part nodes d = part_of nodes (scope_of nodes d)

-- the decision's number in the part of its scope
abbrev pub place_in_scope : List NodeView → ℕ → ℕ
place_in_scope nodes d = place_in (scope_of nodes d) d

-- a profile's rules in the part of a decision's scope
abbrev pub rules_in_scope : List NodeView → List RuleView → ℕ → List RuleView
rules_in_scope nodes p d = rules_in nodes p (scope_of nodes d)

-- the part of an agent's scope
abbrev pub scope_part_for : List NodeView → ℕ → List NodeView
scope_part_for nodes agent = part_of nodes (scope_for nodes agent)

-- a profile's rules in the part of an agent's scope
abbrev pub rules_in_scope_for : List NodeView → List RuleView → ℕ → List RuleView
rules_in_scope_for nodes p agent = rules_in nodes p (scope_for nodes agent)

-- P of a decision: the product of its scope's chance totals and of the state counts of its scope's
-- decisions
abbrev pub scope_product : List NodeView → ℕ → ℕ
scope_product nodes d = nat_product_over (bound_factor nodes) (scope_of nodes d)

-- how a node of that kind counts in the P of an agent: a chance node by its total, others not at
-- all
abbrev pub chance_factor_by : Kind → ℕ → ℕ
chance_factor_by Chance total = total
chance_factor_by Decision total = 1
chance_factor_by Utility total = 1

-- with what a scope's node counts in the P of an agent: a chance node with its total
abbrev pub chance_factor : List NodeView → ℕ → ℕ
chance_factor nodes v = chance_factor_by (node_at nodes v).kind (chance_total nodes v)

-- P of an agent: the product of its scope's chance totals
abbrev pub scope_product_for : List NodeView → ℕ → ℕ
scope_product_for nodes agent = nat_product_over (chance_factor nodes) (scope_for nodes agent)

-- the greatest absolute value of each utility of the list, added up
abbrev pub greatest_of : List NodeView → List ℕ → ℕ
greatest_of nodes us = nat_sum_over (λ u. greatest_abs (node_at nodes u).cells) us

-- a path of nought or more arcs leads from v to d, or to a utility of d's agent that descends from
-- d
pub record IsInScope (nodes : List NodeView) (d v : ℕ) : Type 0 where
  pub target : ℕ
  pub is_target : (target ≡ d) ⊎ IsGoal nodes d target
  pub path : IsPath (Arc nodes) v target

-- a decision's P, times the greatest of the utilities' scale and S
abbrev pub scope_bound : DiagramView → ℕ → ℕ
scope_bound d v =
    scope_product d.nodes v * max (10 ^ d.decimals) (greatest_of d.nodes (goals_of d.nodes v))

-- the same of an agent
abbrev pub scope_bound_for : DiagramView → ℕ → ℕ
scope_bound_for d agent = scope_product_for d.nodes agent
    * max (10 ^ d.decimals) (greatest_of d.nodes (utilities_for d.nodes agent))

-- the weight bound holds in the scope of each decision and of each agent
pub record KeepsScopedBounds (d : DiagramView) : Type 0 where
  pub decisions : (v : ℕ) → IsDecision d.nodes v → scope_bound d v ≤ greatest_number
  pub agents : (agent : ℕ) → agent < d.agents → scope_bound_for d agent ≤ greatest_number

-- the product over the scope's nodes before n in the text
abbrev pub product_before : (ℕ → ℕ) → List ℕ → ℕ → ℕ
product_before factor scope n = nat_product_over factor (filter (λ v. ltb v n) scope)

-- v is the first node of the scope in the text at which the product over the scope's nodes up to it
-- passes
pub record PassesInScope (factor : ℕ → ℕ) (scope : List ℕ) (v : ℕ) : Type 0 where
  pub listed : Contains scope v
  pub passes : greatest_number < product_before factor scope (v + 1)
  pub first : (n : ℕ) → n ≤ v → product_before factor scope n ≤ greatest_number

-- v is the first decision in the text whose scope's bound fails
pub record FailsFirst (d : DiagramView) (v : ℕ) : Type 0 where
  pub decision : IsDecision d.nodes v
  pub fails : greatest_number < scope_bound d v
  pub first : (e : ℕ) → IsDecision d.nodes e → e < v → scope_bound d e ≤ greatest_number

-- the bounds of all decisions' scopes hold, and the agent is the first whose scope's bound fails
pub record FailsFirstFor (d : DiagramView) (agent : ℕ) : Type 0 where
  pub within : agent < d.agents
  pub fails : greatest_number < scope_bound_for d agent
  pub decisions : (v : ℕ) → IsDecision d.nodes v → scope_bound d v ≤ greatest_number
  pub first : (other : ℕ) → other < agent → scope_bound_for d other ≤ greatest_number

-- What the plans of a scope sum to: the sums of the part that the scope makes, and their sizes.
use Rattle.std.specs.Prelude.{◌≡◌, ℕ, ◌<◌, ◌≤◌, ◌*◌, List, length, pos, ◌*ℤ◌, nat_abs}
use Rattle.maid_model.specs.declared.diagrams.Kind.TheVariants.{Utility}
use Rattle.maid_model.specs.Views.{NodeView, RuleView}
use Rattle.maid_model.specs.Nodes.{IsDecision, node_at, states_of, Owns}
use Rattle.maid_model.specs.Graph.{Arc, Descends, IsGraph}
use Rattle.finite_sums.specs.Sums.{World, InRange, sum_each, nat_product_over}
use Rattle.maid_model.specs.Tables.{HasChanceTables, row_of, weight_total}
use Rattle.maid_model.specs.Profiles.{IsProfile}
use Rattle.maid_model.specs.Gains.{gain_at, mass_at, gain_of, mass, greatest_abs}
use Rattle.maid_model.specs.Relevance.{IsGoal}
use Rattle.maid_model.specs.Scopes.{goals_of, utilities_for, scope_of, scope_for, scope_part, place_in_scope, rules_in_scope, scope_part_for, rules_in_scope_for, scope_product, scope_product_for}
use Rattle.part_laws.specs.ScopeLaws.{HasSmallRules, HasUnitRules}
use Rattle.plan_sums.specs.Plans.{mass_cells, gain_cells, plan_sum, ruled_nodes, row_plan, gain_plan, worth_plan, PlanView}
use Rattle.plan_sums.specs.Sizes.{IsPlan}
use Rattle.scope_sums.specs.Missing.{missing_in, missing_in_without}

-- ---- sums
-- the part of a decision's scope has as gains the sums of its goals' plans, each times the totals
-- of the scope's nodes that the plan lacks, and as masses those of the plan of its rows
pub record IsSumOfPlans (nodes : List NodeView) (p : List RuleView) (d : ℕ) : Type 0 where
  pub gain : (q : World) → InRange (states_of nodes) q
      → gain_at (scope_part nodes d) (rules_in_scope nodes p d) (place_in_scope nodes d) (q d)
      (row_of nodes d q)
      ≡ sum_each
      (λ u.
      plan_sum gain_cells nodes p (gain_plan nodes d u) q
      *ℤ pos (missing_in nodes p (scope_of nodes d) (gain_plan nodes d u)))
      (goals_of nodes d)
  pub mass_there : (q : World) → InRange (states_of nodes) q
      → mass_at (scope_part nodes d) (rules_in_scope nodes p d) (place_in_scope nodes d)
      (row_of nodes d q)
      ≡ pos (plan_sum mass_cells nodes p (row_plan nodes d) q
      * missing_in_without nodes p d (scope_of nodes d) (row_plan nodes d))

-- The sums of a decision in the part of its scope are those of its plans.
abbrev pub SumsOfScopes : Type 0
SumsOfScopes = (nodes : List NodeView) (p : List RuleView) (d : ℕ) → IsGraph nodes
    → HasChanceTables nodes → IsProfile nodes p → IsDecision nodes d → IsSumOfPlans nodes p d

-- the part of an agent's scope has as gain the sum of its utilities' plans, each times the totals
-- of the scope's nodes that the plan lacks
pub record IsGainOfPlans (nodes : List NodeView) (p : List RuleView) (agent : ℕ) : Type 0 where
  pub gain : (q : World) → InRange (states_of nodes) q
      → gain_of (scope_part_for nodes agent) (rules_in_scope_for nodes p agent) agent
      ≡ sum_each
      (λ u.
      plan_sum gain_cells nodes p (worth_plan u) q
      *ℤ pos (missing_in nodes p (scope_for nodes agent) (worth_plan u)))
      (utilities_for nodes agent)

-- The gain of an agent in the part of its scope is that of its utilities' plans.
abbrev pub GainsOfAgentsScopes : Type 0
GainsOfAgentsScopes = (nodes : List NodeView) (p : List RuleView) (agent : ℕ) → IsGraph nodes
    → HasChanceTables nodes → IsProfile nodes p → IsGainOfPlans nodes p agent

-- With pure rules the mass of that part is the agent's P.
abbrev pub MassOfAgentsScopes : Type 0
MassOfAgentsScopes = (nodes : List NodeView) (p : List RuleView) (agent : ℕ) → IsGraph nodes
    → HasChanceTables nodes → IsProfile nodes p
    → HasUnitRules nodes p → mass (scope_part_for nodes agent) (rules_in_scope_for nodes p agent)
    ≡ scope_product_for nodes agent

-- ---- sizes
-- the totals of each plan's tables times those that it lacks, and its result times these, are
-- within the decision's P; so are those that it lacks
pub record PlansFitScope (nodes : List NodeView) (p : List RuleView) (d : ℕ) : Type 0 where
  pub gain_tables : (u : ℕ) → IsGoal nodes d u
      → nat_product_over (weight_total nodes p) (ruled_nodes nodes (gain_plan nodes d u))
      * missing_in nodes p (scope_of nodes d) (gain_plan nodes d u)
      ≤ scope_product nodes d
  pub row_tables : nat_product_over (weight_total nodes p) (ruled_nodes nodes (row_plan nodes d))
      * missing_in_without nodes p d (scope_of nodes d) (row_plan nodes d)
      ≤ scope_product nodes d
  pub gain : (u : ℕ) (q : World) → IsGoal nodes d u → InRange (states_of nodes) q
      → nat_abs (plan_sum gain_cells nodes p (gain_plan nodes d u) q
      *ℤ pos (missing_in nodes p (scope_of nodes d) (gain_plan nodes d u)))
      ≤ scope_product nodes d * greatest_abs (node_at nodes u).cells
  pub row : (q : World) → InRange (states_of nodes) q
      → plan_sum mass_cells nodes p (row_plan nodes d) q
      * missing_in_without nodes p d (scope_of nodes d) (row_plan nodes d)
      ≤ scope_product nodes d
  pub missing : (u : ℕ) → IsGoal nodes d u
      → missing_in nodes p (scope_of nodes d) (gain_plan nodes d u) ≤ scope_product nodes d
  pub missing_row :
      missing_in_without nodes p d (scope_of nodes d) (row_plan nodes d) ≤ scope_product nodes d

-- The plans of a decision keep its P, where the other decisions' rules are small.
abbrev pub ScopesFitPlans : Type 0
ScopesFitPlans = (nodes : List NodeView) (p : List RuleView) (d : ℕ) → IsGraph nodes
    → HasChanceTables nodes → IsProfile nodes p → IsDecision nodes d → HasSmallRules nodes p d
    → PlansFitScope nodes p d

-- the same of an agent's utility
pub record PlanFitsAgentsScope
    (nodes : List NodeView) (p : List RuleView) (agent u : ℕ) : Type 0 where
  pub tables : nat_product_over (weight_total nodes p) (ruled_nodes nodes (worth_plan u))
      * missing_in nodes p (scope_for nodes agent) (worth_plan u)
      ≤ scope_product_for nodes agent
  pub gain : (q : World) → InRange (states_of nodes) q
      → nat_abs (plan_sum gain_cells nodes p (worth_plan u) q
      *ℤ pos (missing_in nodes p (scope_for nodes agent) (worth_plan u)))
      ≤ scope_product_for nodes agent * greatest_abs (node_at nodes u).cells
  pub missing :
      missing_in nodes p (scope_for nodes agent) (worth_plan u) ≤ scope_product_for nodes agent

-- The plans of an agent's utilities keep its P, for pure rules.
abbrev pub AgentsScopesFitPlans : Type 0
AgentsScopesFitPlans = (nodes : List NodeView) (p : List RuleView) (agent u : ℕ) → IsGraph nodes
    → HasChanceTables nodes → IsProfile nodes p → HasUnitRules nodes p → u < length nodes
    → (node_at nodes u).kind ≡ Utility → Owns nodes agent u → PlanFitsAgentsScope nodes p agent u

-- The totals that a plan lacks of any nodes multiply to more than nought, with the decision's own
-- or without.
abbrev pub MissingIsPositive : Type 0
MissingIsPositive = (nodes : List NodeView) (p : List RuleView) (kept : List ℕ) (plan : PlanView)
    → IsGraph nodes → HasChanceTables nodes → IsProfile nodes p
    → (0 < missing_in nodes p kept plan) × ((d : ℕ) → 0 < missing_in_without nodes p d kept plan)

-- ---- what may be asked for
-- The plan of a decision's rows may be asked for, and so may that of each goal, to which a path of
-- arcs leads from the decision, whose rule the plan leaves out.
abbrev pub PlansCanBeAsked : Type 0
PlansCanBeAsked = (nodes : List NodeView) (d : ℕ) → IsGraph nodes → IsDecision nodes d
    → IsPlan nodes (row_plan nodes d)
    × ((u : ℕ) → IsGoal nodes d u
    → IsPlan nodes (gain_plan nodes d u) × Descends (Arc nodes) d u)

-- So may the plan of a utility.
abbrev pub UtilitysPlanCanBeAsked : Type 0
UtilitysPlanCanBeAsked =
    (nodes : List NodeView) (u : ℕ) → (node_at nodes u).kind ≡ Utility → IsPlan nodes (worth_plan u)

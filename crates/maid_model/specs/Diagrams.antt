-- What makes a list of nodes an influence diagram of several agents, within the limits of the
-- program.
use Rattle.std.specs.Prelude.{◌≡◌, ◌≢◌, ◌<◌, ◌≤◌, ◌*◌, ℕ, List, [], length, All, nat_abs}
use Rattle.node_sets.specs.declared.sets.TheConstants.{MOST_NODES}
use Rattle.maid_model.specs.declared.limits.TheConstants.{MOST_STATES, MOST_PARENTS, MOST_CELLS, MOST_RULE_CELLS, MOST_AGENTS, MOST_DECIMALS, GREATEST_NUMBER}
use Rattle.maid_model.specs.declared.diagrams.Kind.TheVariants.{Chance, Decision, Utility}
use Rattle.maid_model.specs.Views.{NodeView, DiagramView}
use Rattle.maid_model.specs.Nodes.{node_at, states_of, parents_of, owners_of, Owns, rows_of, decisions_of}
use Rattle.maid_model.specs.Graph.{IsGraph, AllDifferent}
use Rattle.finite_sums.specs.Sums.{nat_sum_over}
use Rattle.maid_model.specs.Tables.{HasChanceTables, chance_total}

-- the greatest absolute value of a weight total, of a utility and of the weight bound
abbrev pub greatest_number : ℕ
greatest_number = GREATEST_NUMBER

-- whose node it is: a decision has one of the agents, a utility one or more, each once, a chance
-- node none, which is written 0
pub record HasOwners (nodes : List NodeView) (agents : ℕ) : Type 0 where
  pub agent :
      (v a : ℕ) → v < length nodes → (node_at nodes v).kind ≢ Chance → Owns nodes a v → a < agents
  pub differ : (v : ℕ) → AllDifferent (owners_of nodes v)
  pub one : (v : ℕ) → (node_at nodes v).kind ≢ Utility → (node_at nodes v).more ≡ []
  pub chance : (v : ℕ) → (node_at nodes v).kind ≡ Chance → (node_at nodes v).owner ≡ 0

-- a utility has one whole number for each row, and a decision has no table
pub record HasValues (nodes : List NodeView) : Type 0 where
  pub utility : (v : ℕ) → v < length nodes → (node_at nodes v).kind ≡ Utility
      → length (node_at nodes v).cells ≡ rows_of nodes v
  pub decision : (v : ℕ) → (node_at nodes v).kind ≡ Decision → (node_at nodes v).cells ≡ []

-- the limits on nodes, states, parents, cells of one table or rule, cells of all rules, totals,
-- values, agents and decimals
pub record KeepsLimits (d : DiagramView) : Type 0 where
  pub nodes : length d.nodes ≤ MOST_NODES
  pub states : (v : ℕ) → states_of d.nodes v ≤ MOST_STATES
  pub parents : (v : ℕ) → length (parents_of d.nodes v) ≤ MOST_PARENTS
  pub cells : (v : ℕ) → v < length d.nodes → rows_of d.nodes v * states_of d.nodes v ≤ MOST_CELLS
  pub rules : nat_sum_over (λ v. rows_of d.nodes v * states_of d.nodes v) (decisions_of d.nodes)
      ≤ MOST_RULE_CELLS
  pub totals :
      (v : ℕ) → (node_at d.nodes v).kind ≡ Chance → chance_total d.nodes v ≤ greatest_number
  pub values : (v : ℕ) → (node_at d.nodes v).kind ≡ Utility
      → All (λ x. nat_abs x ≤ greatest_number) (node_at d.nodes v).cells
  pub agents : d.agents ≤ MOST_AGENTS
  pub decimals : d.decimals ≤ MOST_DECIMALS

-- an influence diagram
pub record IsDiagram (d : DiagramView) : Type 0 where
  pub graph : IsGraph d.nodes
  pub owners : HasOwners d.nodes d.agents
  pub tables : HasChanceTables d.nodes
  pub values : HasValues d.nodes
  pub limits : KeepsLimits d

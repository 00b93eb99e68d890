-- Looking up nodes. Each look-up has an answer for every number, so that no sum over nodes carries
-- a premise.
use Rattle.std.specs.Prelude.{◌≡◌, ◌⊎◌, ℕ, ◌<◌, ◌*◌, Bool, true, false, ◌&&◌, ◌==◌, List, [], ◌∷◌, map, length, filter, Contains, slice_index_or}
use Rattle.std.specs.List.{list_any, range_with_len}
use Rattle.maid_model.specs.declared.diagrams.Kind.{Kind}
use Rattle.maid_model.specs.declared.diagrams.Kind.TheVariants.{Chance, Decision, Utility}
use Rattle.maid_model.specs.Views.{NodeView}

-- what stands for a number that no node has
abbrev pub no_node : NodeView
no_node = record { kind = Utility; owner = 0; more = []; states = 1; parents = []; cells = [] }

-- the node of that number
abbrev pub node_at : List NodeView → ℕ → NodeView
node_at nodes v = slice_index_or nodes v no_node

-- how many states the node has
abbrev pub states_of : List NodeView → ℕ → ℕ
states_of nodes v = (node_at nodes v).states

-- the node's parents, in the order of its table
abbrev pub parents_of : List NodeView → ℕ → List ℕ
parents_of nodes v = (node_at nodes v).parents

-- the counts of states of all nodes
abbrev pub counts_of : List NodeView → List ℕ
counts_of nodes = map (λ n. n.states) nodes

-- the numbers of all nodes
abbrev pub numbers_of : List NodeView → List ℕ
numbers_of nodes = range_with_len 0 (length nodes)

-- a chance node, as a test
abbrev pub is_chance : Kind → Bool
is_chance Chance = true
is_chance Decision = false
is_chance Utility = false

-- a decision, as a test
abbrev pub is_decision : Kind → Bool
is_decision Chance = false
is_decision Decision = true
is_decision Utility = false

-- a utility, as a test
abbrev pub is_utility : Kind → Bool
is_utility Chance = false
is_utility Decision = false
is_utility Utility = true

-- the decisions, in text order
abbrev pub decisions_of : List NodeView → List ℕ
decisions_of nodes = filter (λ v. is_decision (node_at nodes v).kind) (numbers_of nodes)

-- a decision of the diagram
pub record IsDecision (nodes : List NodeView) (v : ℕ) : Type 0 where
  pub within : v < length nodes
  pub kind : (node_at nodes v).kind ≡ Decision

-- the agents to which v belongs, in written order
abbrev pub owners_of : List NodeView → ℕ → List ℕ
owners_of nodes v = (node_at nodes v).owner ∷ (node_at nodes v).more

-- the agent owns v: it is among v's owners
abbrev pub Owns : List NodeView → ℕ → ℕ → Type 0
Owns nodes agent v = Contains (owners_of nodes v) agent

-- the same as a test
abbrev pub owns : List NodeView → ℕ → ℕ → Bool
owns nodes agent v = list_any (λ a. a == agent) (owners_of nodes v)

-- v is a node, and a decision or a utility of the agent
pub record IsOwnedBy (nodes : List NodeView) (v agent : ℕ) : Type 0 where
  pub within : v < length nodes
  pub kind : ((node_at nodes v).kind ≡ Decision) ⊎ ((node_at nodes v).kind ≡ Utility)
  pub owner : Owns nodes agent v

-- the agent of a decision, which is its one owner
abbrev pub agent_of : List NodeView → ℕ → ℕ
agent_of nodes d = (node_at nodes d).owner

-- v is a utility
pub record IsUtility (nodes : List NodeView) (v : ℕ) : Type 0 where
  pub within : v < length nodes
  pub kind : (node_at nodes v).kind ≡ Utility

-- v is a utility that the agent owns, alone or with others
pub record IsUtilityOf (nodes : List NodeView) (agent v : ℕ) : Type 0 where
  pub within : v < length nodes
  pub kind : (node_at nodes v).kind ≡ Utility
  pub owner : Owns nodes agent v

-- the same as a test
abbrev pub is_utility_of : List NodeView → ℕ → ℕ → Bool
is_utility_of nodes agent v = is_utility (node_at nodes v).kind && owns nodes agent v

-- how many choices the parents' states have: the product of their counts
abbrev pub rows_under : (ℕ → ℕ) → List ℕ → ℕ
rows_under count [] = 1
rows_under count (u ∷ us) = count u * rows_under count us

-- how many rows the table or the rule of v has
abbrev pub rows_of : List NodeView → ℕ → ℕ
rows_of nodes v = rows_under (states_of nodes) (parents_of nodes v)

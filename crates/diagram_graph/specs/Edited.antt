-- Diagrams with other nodes, and a node with other parents.
use Rattle.std.specs.Prelude.{◌≡◌, ◌≢◌, ℕ, ◌<◌, List, length, filter, map, not, pos, ℤ, ◌==◌}
use Rattle.std.specs.List.{flat_map}
use Rattle.maid_model.specs.declared.answers.Row.{Row}
use Rattle.maid_model.specs.Answers.{choices_of}
use Rattle.maid_model.specs.Edits.{AreAlike, as_decision, fixed_by, one_agent, with_node}
use Rattle.maid_model.specs.Graph.{Arc, IsPath}
use Rattle.maid_model.specs.Nodes.{IsDecision, agent_of, node_at}
use Rattle.maid_model.specs.Profiles.{pure_row}
use Rattle.maid_model.specs.Views.{NodeView, DiagramView, AnswerView}

-- the diagram with these nodes, and the agents and decimals that it had
abbrev pub with_nodes : DiagramView → List NodeView → DiagramView
with_nodes d nodes = record { nodes = nodes; agents = d.agents; decimals = d.decimals }

-- e is the diagram d with these nodes
abbrev pub IsWithNodes : DiagramView → List NodeView → DiagramView → Type 0
IsWithNodes d nodes e = e ≡ with_nodes d nodes

-- e is the diagram d with the node as a decision of the agent
abbrev pub IsWithDecision : DiagramView → ℕ → ℕ → DiagramView → Type 0
IsWithDecision d agent v e = IsWithNodes d (as_decision d.nodes agent v) e

-- so it is, and that is the node as it was
abbrev pub IsDecidedAt : DiagramView → ℕ → ℕ → DiagramView → NodeView → Type 0
IsDecidedAt d agent v e was = IsWithDecision d agent v e × (was ≡ node_at d.nodes v)

-- e is the diagram d in which only the agent decides, and the others take the answered choices
abbrev pub DecidesAlone : DiagramView → ℕ → List AnswerView → DiagramView → Type 0
DecidesAlone d agent answers e = IsWithNodes d (one_agent d.nodes agent answers) e

-- e is the diagram d with these nodes, and that is the node v as it was
abbrev pub IsEditedAt : DiagramView → List NodeView → ℕ → DiagramView → NodeView → Type 0
IsEditedAt d nodes v e was = IsWithNodes d nodes e × (was ≡ node_at d.nodes v)

-- the node can be put in the place of v in e, which makes it d again
pub record PutsBack (d : DiagramView) (v : ℕ) (e : DiagramView) (was : NodeView) : Type 0 where
  pub within : v < length e.nodes
  pub alike : AreAlike (node_at e.nodes v) was
  pub again : with_node e v was ≡ d

-- there is no arc from x to v
abbrev pub LacksArc : DiagramView → ℕ → ℕ → Type 0
LacksArc d x v = Arc d.nodes x v → ⊥

-- an arc from x to v would close a cycle: a path of nought or more arcs leads from v to x
abbrev pub ClosesCycle : DiagramView → ℕ → ℕ → Type 0
ClosesCycle d x v = IsPath (Arc d.nodes) v x

-- the node with these parents
abbrev pub with_parents : NodeView → List ℕ → NodeView
with_parents node parents = record {
  kind = node.kind;
  owner = node.owner;
  more = node.more;
  states = node.states;
  parents = parents;
  cells = node.cells;
}

-- the node without that parent
abbrev pub without_parent : NodeView → ℕ → NodeView
without_parent node x = with_parents node (filter (λ u. not (u == x)) node.parents)

-- the node v as it stands in the diagram in which only the agent decides
abbrev pub IsFixedNode : List NodeView → ℕ → List AnswerView → ℕ → NodeView → Type 0
IsFixedNode nodes agent answers v node =
    node ≡ fixed_by (node_at nodes v).kind nodes agent answers v

-- a decision of another agent
abbrev pub IsOthersDecision : List NodeView → ℕ → ℕ → Type 0
IsOthersDecision nodes agent v = IsDecision nodes v × (agent_of nodes v ≢ agent)

-- in each row weight 1 at its choice and 0 at the other states
abbrev pub pure_cells : ℕ → List Row → List ℤ
pure_cells states rows = map pos (flat_map (pure_row states) (choices_of rows))

-- The names of a diagram's nodes, states and agents, as lists of bytes.
use Rattle.std.specs.Prelude.{◌≡◌, ◌≢◌, ℕ, ◌<◌, List, [], map, length, slice_index_or}
use Rattle.std.specs.Global.{Vec}
use Rattle.maid_model.specs.declared.diagrams.Kind.TheVariants.{Utility}
use Rattle.maid_model.specs.Views.{DiagramView}
use Rattle.maid_model.specs.Nodes.{node_at, states_of}

-- a name for each node, a label for each state of each node (none for a utility), and a name for
-- each agent
pub record NamesView : Type 0 where
  pub nodes : List (List ℕ)
  pub labels : List (List (List ℕ))
  pub agents : List (List ℕ)

-- the name of the node of that number
abbrev pub name_of : NamesView → ℕ → List ℕ
name_of names v = slice_index_or names.nodes v []

-- the labels of the node's states
abbrev pub labels_of : NamesView → ℕ → List (List ℕ)
labels_of names v = slice_index_or names.labels v []

-- the label of that state of the node
abbrev pub label_of : NamesView → ℕ → ℕ → List ℕ
label_of names v state = slice_index_or (labels_of names v) state []

-- the name of the agent of that number
abbrev pub agent_name : NamesView → ℕ → List ℕ
agent_name names agent = slice_index_or names.agents agent []

-- the names are enough for the diagram: one for each node, state and agent
pub record NamesFit (d : DiagramView) (names : NamesView) : Type 0 where
  pub nodes : length names.nodes ≡ length d.nodes
  pub labels : length names.labels ≡ length d.nodes
  pub states : (v : ℕ) → v < length d.nodes → (node_at d.nodes v).kind ≢ Utility
      → length (labels_of names v) ≡ states_of d.nodes v
  pub agents : length names.agents ≡ d.agents

-- the first place at which the list of names has the name
pub record IsFirstPlace (names : List (List ℕ)) (name : List ℕ) (place : ℕ) : Type 0 where
  pub within : place < length names
  pub here : slice_index_or names place [] ≡ name
  pub first : (k : ℕ) → k < place → slice_index_or names k [] ≢ name

-- the bytes of each name
abbrev pub list_of : List (Vec ℕ) → List (List ℕ)
list_of names = map (λ name. name.items) names

-- the bytes of each label, node by node
abbrev pub lists_of : List (Vec (Vec ℕ)) → List (List (List ℕ))
lists_of labels = map (λ list. list_of list.items) labels

-- the names that these lists say
abbrev pub names_in : List (Vec ℕ) → List (Vec (Vec ℕ)) → List (Vec ℕ) → NamesView
names_in nodes labels agents =
    record { nodes = list_of nodes; labels = lists_of labels; agents = list_of agents }

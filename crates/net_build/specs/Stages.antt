-- What the steps of building hand to one another, as plain lists.
use Rattle.std.specs.Prelude.{◌≡◌, ◌≢◌, ◌<◌, ◌≤◌, ◌*◌, ℕ, ℤ, Bool, false, List, [], ◌∷◌, if◌then◌else◌, map, length, filter, drop, sum, All, Option, nat_abs, slice_index_or}
use Rattle.std.specs.List.{range_with_len, list_all}
use Rattle.maid_model.specs.declared.limits.TheConstants.{MOST_CELLS, MOST_PARENTS, MOST_RULE_CELLS}
use Rattle.diagram_graph.specs.Cycles.{ListedArc}
use Rattle.maid_model.specs.declared.diagrams.Kind.{Kind}
use Rattle.maid_model.specs.declared.diagrams.Kind.TheVariants.{Chance, Decision, Utility}
use Rattle.maid_model.specs.Diagrams.{greatest_number}
use Rattle.maid_model.specs.Graph.{IsAcyclic, AllDifferent}
use Rattle.maid_model.specs.Nodes.{is_decision, rows_under}
use Rattle.maid_model.specs.Tables.{IsTable}
use Rattle.net_lexer.specs.declared.tokens.Token.{Token}
use Rattle.maid_model.specs.Views.{NodeView, DiagramView}
use Rattle.net_parser.specs.Trees.{BlockTree}
use Rattle.net_build.specs.declared.nodes.Head.{Head}
use Rattle.net_build.specs.Blocks.{is_text, kind_of, title_at, names_of, block_labels, has_agent, block_states, owner_texts, agents_of, with_sights, owner_numbers, potential_list, parent_lists}
use Rattle.std.specs.Global.{Vec}
use Rattle.net_build.specs.Lists.{numbers_of_lists, cells_of_lists}

-- one or more tokens, and each is a string
abbrev pub are_text_tokens : List Token → Bool
are_text_tokens [] = false
are_text_tokens (t ∷ ts) = list_all (λ u. is_text u.kind) (t ∷ ts)

-- what the node blocks say: names, labels and agents, and for each node where its name stands, its
-- kind, the number of its first owner and the count of its states; and the numbers of its further
-- owners
pub record NodeLists : Type 0 where
  pub names : List (List ℕ)
  pub labels : List (List (List ℕ))
  pub agents : List (List ℕ)
  pub heads : List Head
  pub more : List (List ℕ)

-- the number of a node's first owner
abbrev pub first_owner : List ℕ → List BlockTree → BlockTree → ℕ
first_owner text nodes block = slice_index_or (owner_numbers text nodes block) 0 0

-- those of the further ones
abbrev pub more_owners : List ℕ → List BlockTree → BlockTree → List ℕ
more_owners text nodes block = drop 1 (owner_numbers text nodes block)

-- the head of a node: what its block says in numbers
abbrev pub head_of : List ℕ → List BlockTree → BlockTree → Head
head_of text nodes block = record {
  at = title_at block;
  kind = kind_of block.kind;
  owner = first_owner text nodes block;
  states = block_states text block;
}

-- the heads of these nodes
abbrev pub heads_of : List ℕ → List BlockTree → List Head
heads_of text nodes = map (head_of text nodes) nodes

-- what these node blocks say, node by node, with their agents
abbrev pub node_lists : List ℕ → List BlockTree → NodeLists
node_lists text nodes = record {
  names = names_of text nodes;
  labels = map (block_labels text) nodes;
  agents = agents_of text nodes;
  heads = heads_of text nodes;
  more = map (more_owners text nodes) nodes;
}

-- the agents and the block's owners
abbrev pub with_named_owners : List ℕ → List (List ℕ) → BlockTree → List (List ℕ)
with_named_owners text agents block = with_sights agents (owner_texts text block)

-- the agents and the block's, where it has some
abbrev pub with_owners : List ℕ → List (List ℕ) → BlockTree → List (List ℕ)
with_owners text agents block =
    if has_agent block.kind then with_named_owners text agents block else agents

-- what the potentials say: for each node its parents and its potential
pub record LinkLists : Type 0 where
  pub parents : List (List ℕ)
  pub potentials : List (Option BlockTree)

-- what the potentials of a text's blocks say, node by node
abbrev pub link_lists : List ℕ → List BlockTree → LinkLists
link_lists text blocks = record {
  parents = parent_lists text blocks;
  potentials = potential_list text blocks;
}

-- what stands for a head that isn't there
abbrev pub no_head : Head
no_head = record { at = 0; kind = Utility; owner = 0; states = 1 }

-- the head of node v
abbrev pub head_at : List Head → ℕ → Head
head_at heads v = slice_index_or heads v no_head

-- how many rows a table over these parents has
abbrev pub rows_over : List Head → List ℕ → ℕ
rows_over heads parents = rows_under (λ u. (head_at heads u).states) parents

-- how many cells node v over these parents has
abbrev pub cells_of_head_over : List Head → List ℕ → ℕ → ℕ
cells_of_head_over heads parents v = rows_over heads parents * (head_at heads v).states

-- how many rows node v has
abbrev pub head_rows : List Head → List (List ℕ) → ℕ → ℕ
head_rows heads parents v = rows_over heads (slice_index_or parents v [])

-- how many cells node v has
abbrev pub cells_of_head : List Head → List (List ℕ) → ℕ → ℕ
cells_of_head heads parents v = cells_of_head_over heads (slice_index_or parents v []) v

-- the parents make a graph within the limits
pub record AreLinks (heads : List Head) (parents : List (List ℕ)) : Type 0 where
  pub known : (u v : ℕ) → ListedArc parents u v → u < length heads
  pub differ : (v : ℕ) → AllDifferent (slice_index_or parents v [])
  pub no_utility : (u v : ℕ) → ListedArc parents u v → (head_at heads u).kind ≢ Utility
  pub acyclic : IsAcyclic (ListedArc parents)
  pub few : (v : ℕ) → length (slice_index_or parents v []) ≤ MOST_PARENTS
  pub cells : (v : ℕ) → v < length heads → cells_of_head heads parents v ≤ MOST_CELLS
  pub rules : sum (map (cells_of_head heads parents) (filter (λ v. is_decision (head_at heads v).kind)
      (range_with_len 0 (length heads)))) ≤ MOST_RULE_CELLS

-- what the tables hold: the cells of each node, and by how many decimals utilities are scaled
pub record TableLists : Type 0 where
  pub cells : List (List ℤ)
  pub decimals : ℕ

-- the cells make a table within the limits
abbrev pub FitsTable : Kind → ℕ → ℕ → List ℤ → Type 0
FitsTable Chance rows states cells =
    (total : ℕ) × (0 < total) × (total ≤ greatest_number) × IsTable cells rows states total
FitsTable Decision rows states cells = cells ≡ []
FitsTable Utility rows states cells =
    (length cells ≡ rows) × All (λ x. nat_abs x ≤ greatest_number) cells

-- each node's cells do
abbrev pub TablesFit : List Head → List (List ℕ) → List (List ℤ) → Type 0
TablesFit heads parents cells = (v : ℕ) → v < length heads
    → FitsTable (head_at heads v).kind (head_rows heads parents v) (head_at heads v).states
    (slice_index_or cells v [])

-- a node from what its block, its potential and its table say
abbrev pub made_node : Head → List ℕ → List ℕ → List ℤ → NodeView
made_node head more parents cells = record {
  kind = head.kind;
  owner = head.owner;
  more = more;
  states = head.states;
  parents = parents;
  cells = cells;
}

-- node number v of these lists
abbrev pub made_at : List Head → List (List ℕ) → List (List ℕ) → List (List ℤ) → ℕ → NodeView
made_at heads more parents cells v = made_node (head_at heads v) (slice_index_or more v [])
    (slice_index_or parents v []) (slice_index_or cells v [])

-- the nodes of these lists, one for each head
abbrev pub made_nodes : List Head → List (List ℕ) → List (List ℕ) → List (List ℤ) → List NodeView
made_nodes heads more parents cells =
    map (made_at heads more parents cells) (range_with_len 0 (length heads))

-- the nodes of these lists of vectors
abbrev pub nodes_from :
    List Head → List (Vec ℕ) → List (Vec ℕ) → List (Vec ℤ) → List NodeView
nodes_from heads more parents tables = made_nodes heads (numbers_of_lists more)
    (numbers_of_lists parents) (cells_of_lists tables)

-- the diagram of these lists
abbrev pub made_diagram : NodeLists → LinkLists → TableLists → DiagramView
made_diagram nodes links tables = record {
  nodes = made_nodes nodes.heads nodes.more links.parents tables.cells;
  agents = length nodes.agents;
  decimals = tables.decimals;
}

-- Looking up what the blocks of a text say. Each look-up has an answer for every tree; it is the
-- one that is meant where the passes before it find nothing.
use Rattle.std.specs.Prelude.{◌≡◌, ◌*◌, ℕ, Bool, true, false, ◌&&◌, ◌||◌, List, [], ◌∷◌, Option, MatchOption, map, filter, find, length, drop, nat_le, bytes_eq, codes, slice_index_or, if◌then◌else◌}
use Rattle.std.specs.Borrow.{Bor}
use Rattle.std.specs.List.{flat_map, list_all, position_or_len, list_any}
use Rattle.std.specs.Option.{option_map_or}
pub use Rattle.finite_sums.specs.Sights.{first_sights, with_sight, with_sights}
use Rattle.maid_model.specs.declared.limits.TheConstants.{MOST_NAME_BYTES}
use Rattle.maid_model.specs.declared.diagrams.Kind.{Kind}
use Rattle.maid_model.specs.declared.diagrams.Kind.TheVariants as model
use Rattle.maid_model.specs.Nodes.{rows_under}
use Rattle.net_lexer.specs.Token.{token_bytes, text_value}
use Rattle.net_lexer.specs.declared.tokens.Token.{Token}
use Rattle.net_lexer.specs.declared.tokens.TokenKind.{TokenKind}
use Rattle.net_lexer.specs.declared.tokens.TokenKind.TheVariants as tokens
use Rattle.net_parser.specs.declared.trees.BlockKind.{BlockKind}
use Rattle.net_parser.specs.declared.trees.BlockKind.TheVariants.{Node, Decision, Utility}
use Rattle.net_parser.specs.Trees.{ValueTree, ValueTrees, leaf, list, none, more, AttributeTree, BlockTree}
use Rattle.net_parser.specs.Grammar.{is_potential}
use Rattle.net_parser.specs.Owned.{leaves}
pub use Rattle.net_parser.specs.Views.{no_token}

-- a block of a chance node, a decision or a utility
abbrev pub is_node : BlockKind → Bool
is_node Node = true
is_node Decision = true
is_node Utility = true
is_node kind = false

-- the node blocks, in text order
abbrev pub node_blocks : List BlockTree → List BlockTree
node_blocks blocks = filter (λ b. is_node b.kind) blocks

-- the potentials, in text order
abbrev pub potentials : List BlockTree → List BlockTree
potentials blocks = filter (λ b. is_potential b.kind) blocks

-- the kind of the node that a node block stands for
abbrev pub kind_of : BlockKind → Kind
kind_of Node = model.Chance
kind_of Decision = model.Decision
kind_of kind = model.Utility

-- a node block's name, and a potential's head
abbrev pub title : BlockTree → Token
title block = slice_index_or block.names 0 no_token

-- where it stands
abbrev pub title_at : BlockTree → ℕ
title_at block = (title block).start

-- the bytes of a node block's name, and of a potential's head
abbrev pub block_name : List ℕ → BlockTree → List ℕ
block_name text block = token_bytes text (title block)

-- the names of these blocks, in order
abbrev pub names_of : List ℕ → List BlockTree → List (List ℕ)
names_of text blocks = map (block_name text) blocks

-- the names behind a potential's bar
abbrev pub conditions : BlockTree → List Token
conditions potential = drop 1 potential.names

-- an attribute's name
abbrev pub word_of : List ℕ → AttributeTree → List ℕ
word_of text attribute = token_bytes text attribute.name

-- the attributes with that name
abbrev pub named : List ℕ → List ℕ → List AttributeTree → List AttributeTree
named text word attributes = filter (λ a. bytes_eq (word_of text a) word) attributes

-- a chance node and a decision have states
abbrev pub has_states : BlockKind → Bool
has_states Node = true
has_states Decision = true
has_states kind = false

-- a decision and a utility have an agent
abbrev pub has_agent : BlockKind → Bool
has_agent Decision = true
has_agent Utility = true
has_agent kind = false

-- several agents may share a utility
abbrev pub may_share : BlockKind → Bool
may_share Utility = true
may_share kind = false

-- the name of an attribute that tells the owners of such a node: `agent`, and for a utility
-- `agents` too
abbrev pub names_owners : BlockKind → List ℕ → Bool
names_owners kind word = (has_agent kind && bytes_eq word (codes "agent"))
    || (may_share kind && bytes_eq word (codes "agents"))

-- the name of an attribute that counts in a block: `states`, `agent`, `agents` or `data`
abbrev pub is_counted : BlockKind → List ℕ → Bool
is_counted kind word = (has_states kind && bytes_eq word (codes "states")) || names_owners kind word
    || (is_potential kind && bytes_eq word (codes "data"))

-- those of these attributes that count in such a block
abbrev pub counted_in : List ℕ → BlockKind → List AttributeTree → List AttributeTree
counted_in text kind attributes = filter (λ a. is_counted kind (word_of text a)) attributes

-- the attributes that count in a block
abbrev pub counted : List ℕ → BlockTree → List AttributeTree
counted text block = counted_in text block.kind block.attributes

-- what an attribute is about: `agents` is about the owners, as `agent` is
abbrev pub topic_of : List ℕ → AttributeTree → List ℕ
topic_of text attribute = if bytes_eq (word_of text attribute) (codes "agents")
    then codes "agent"
    else word_of text attribute

-- the first of these attributes, and nothing where there is none
abbrev pub IsFirst : List AttributeTree → Option (Bor AttributeTree) → Type 0
IsFirst attributes found = MatchOption found (attributes ≡ [])
    (λ a. (rest : List AttributeTree) × (attributes ≡ a.now ∷ rest))

-- the attribute counts in such a block, and is about that topic
abbrev pub counts_about : List ℕ → BlockKind → List ℕ → AttributeTree → Bool
counts_about text kind topic a = is_counted kind (word_of text a) && bytes_eq (topic_of text a) topic

-- the attribute counts in such a block, and one before it counts and is about the same
abbrev pub is_repeat : List ℕ → BlockKind → List AttributeTree → AttributeTree → Bool
is_repeat text kind before a = is_counted kind (word_of text a)
    && list_any (counts_about text kind (topic_of text a)) before

-- the attributes that tell the owners of such a node
abbrev pub telling_owners : List ℕ → BlockKind → List AttributeTree → List AttributeTree
telling_owners text kind attributes = filter (λ a. names_owners kind (word_of text a)) attributes

-- those of a block
abbrev pub owner_attributes : List ℕ → BlockTree → List AttributeTree
owner_attributes text block = telling_owners text block.kind block.attributes

-- a token that is a string
abbrev pub is_text : TokenKind → Bool
is_text tokens.Text = true
is_text kind = false

-- a token that is a number
abbrev pub is_number : TokenKind → Bool
is_number tokens.Number = true
is_number kind = false

-- values that are strings: one, or all of a list
abbrev mutual
  -- a string
  pub is_string : ValueTree → Bool
  is_string (leaf token) = is_text token.kind
  is_string (list values) = false

  -- strings
  pub are_strings : ValueTrees → Bool
  are_strings none = true
  are_strings (more value values) = is_string value && are_strings values

-- a list of one or more strings
abbrev pub is_string_list : ValueTree → Bool
is_string_list (leaf token) = false
is_string_list (list none) = false
is_string_list (list (more value values)) = is_string value && are_strings values

-- a label or an agent's name: at most 255 bytes, none below 32
abbrev pub is_label : List ℕ → Bool
is_label bytes = nat_le (length bytes) MOST_NAME_BYTES && list_all (λ b. nat_le 32 b) bytes

-- strings of a label's form: one as the value of `agent`, a list of one or more as that of `agents`
abbrev pub tells_owners : List ℕ → AttributeTree → Bool
tells_owners text a = (if bytes_eq (word_of text a) (codes "agents")
    then is_string_list a.value
    else is_string a.value)
    && list_all (λ t. is_label (text_value text t)) (leaves a.value)

-- the leaves of the first of these attributes, from left to right
abbrev pub leaves_of : List AttributeTree → List Token
leaves_of [] = []
leaves_of (a ∷ attributes) = leaves a.value

-- a block's attributes `states`
abbrev pub state_attributes : List ℕ → BlockTree → List AttributeTree
state_attributes text block = named text (codes "states") block.attributes

-- a node's labels as they stand in its block
abbrev pub label_tokens : List ℕ → BlockTree → List Token
label_tokens text block =
    if has_states block.kind then leaves_of (state_attributes text block) else []

-- a node's labels, with escapes undone; a utility has none
abbrev pub block_labels : List ℕ → BlockTree → List (List ℕ)
block_labels text block = map (text_value text) (label_tokens text block)

-- how many states a node has: one a label, and a utility one
abbrev pub block_states : List ℕ → BlockTree → ℕ
block_states text block = if has_states block.kind then length (label_tokens text block) else 1

-- these strings with escapes undone, and "agent" where there is none
abbrev pub texts_or_agent : List ℕ → List Token → List (List ℕ)
texts_or_agent text [] = codes "agent" ∷ []
texts_or_agent text (token ∷ tokens) = map (text_value text) (token ∷ tokens)

-- the owners of a decision or a utility in written order: the strings that tell them, and "agent"
-- where none does
abbrev pub owner_texts : List ℕ → BlockTree → List (List ℕ)
owner_texts text block = texts_or_agent text (leaves_of (owner_attributes text block))

-- the agents in order of first sight, and within a node's owners from left to right
abbrev pub agents_of : List ℕ → List BlockTree → List (List ℕ)
agents_of text nodes =
    first_sights (flat_map (owner_texts text) (filter (λ b. has_agent b.kind) nodes))

-- how many names stand before the first that is this one
abbrev pub place_among : List (List ℕ) → List ℕ → ℕ
place_among names name = position_or_len (λ other. bytes_eq other name) names

-- the places among these agents of the owners of a decision or a utility
abbrev pub named_owner_places : List ℕ → List (List ℕ) → BlockTree → List ℕ
named_owner_places text agents block = map (place_among agents) (owner_texts text block)

-- the places among the agents of a node's owners, in written order; a chance node has 0
abbrev pub owner_places : List ℕ → List (List ℕ) → BlockTree → List ℕ
owner_places text agents block =
    if has_agent block.kind then named_owner_places text agents block else 0 ∷ []

-- the numbers of a node's owners among all agents of the text
abbrev pub owner_numbers : List ℕ → List BlockTree → BlockTree → List ℕ
owner_numbers text nodes block = owner_places text (agents_of text nodes) block

-- the potential with that head
abbrev pub potential_of : List ℕ → List BlockTree → List ℕ → Option BlockTree
potential_of text blocks name = find (λ p. bytes_eq (block_name text p) name) (potentials blocks)

-- that of each node, where it has one
abbrev pub potential_list : List ℕ → List BlockTree → List (Option BlockTree)
potential_list text blocks =
    map (λ b. potential_of text blocks (block_name text b)) (node_blocks blocks)

-- the numbers of the nodes behind its bar
abbrev pub condition_places : List ℕ → List BlockTree → BlockTree → List ℕ
condition_places text nodes potential =
    map (λ t. place_among (names_of text nodes) (token_bytes text t)) (conditions potential)

-- the parents of the node of that name; none where it has no potential
abbrev pub block_parents : List ℕ → List BlockTree → List ℕ → List ℕ
block_parents text blocks name =
    option_map_or (condition_places text (node_blocks blocks)) (potential_of text blocks name) []

-- the parents of each node, in text order
abbrev pub parent_lists : List ℕ → List BlockTree → List (List ℕ)
parent_lists text blocks =
    map (λ b. block_parents text blocks (block_name text b)) (node_blocks blocks)

-- the count of states of each node
abbrev pub state_counts : List ℕ → List BlockTree → List ℕ
state_counts text nodes = map (block_states text) nodes

-- how many rows a table or a rule has: the product of the parents' counts of states
abbrev pub row_count : List ℕ → List BlockTree → BlockTree → ℕ
row_count text blocks block = rows_under
    (λ v. slice_index_or (state_counts text (node_blocks blocks)) v 1)
    (block_parents text blocks (block_name text block))

-- how many cells: one for each row and state
abbrev pub cell_count : List ℕ → List BlockTree → BlockTree → ℕ
cell_count text blocks block = row_count text blocks block * block_states text block

-- a potential's attributes `data`
abbrev pub data_of : List ℕ → BlockTree → List AttributeTree
data_of text potential = named text (codes "data") potential.attributes

-- the numbers of a node's table as they stand in the text
abbrev pub block_numbers : List ℕ → List BlockTree → BlockTree → List Token
block_numbers text blocks block = option_map_or (λ p. leaves_of (data_of text p))
    (potential_of text blocks (block_name text block)) []

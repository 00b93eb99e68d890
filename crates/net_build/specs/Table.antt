-- The table of passes, row by row. A text's first fault is the first that applies, by pass, then by
-- item, then by row.
use Rattle.std.specs.Prelude.{◌+◌, ◌≡◌, ◌≢◌, ◌<◌, ◌≤◌, ◌*◌, ◌^◌, ℕ, pos, ◌<ℤ◌, nat_abs, false, List, [], ◌∷◌, Option, None, Some, map, filter, length, flat_map, All, Contains, slice_index_or}
use Rattle.std.specs.List.{range_with_len}
use Rattle.node_sets.specs.declared.sets.TheConstants.{MOST_NODES}
use Rattle.maid_model.specs.declared.limits.TheConstants.{MOST_AGENTS, MOST_NAME_BYTES, MOST_STATES}
use Rattle.maid_model.specs.declared.diagrams.Kind.{Kind}
use Rattle.maid_model.specs.declared.diagrams.Kind.TheVariants as model
use Rattle.maid_model.specs.declared.diagrams.Kind.TheVariants.{Decision}
use Rattle.maid_model.specs.Diagrams.{greatest_number}
use Rattle.maid_model.specs.Nodes.{is_chance, is_utility}
use Rattle.maid_model.specs.Placing.{IsLeast}
use Rattle.net_lexer.specs.Token.{token_bytes, text_value}
use Rattle.net_lexer.specs.declared.tokens.Token.{Token}
use Rattle.net_parser.specs.Trees.{AttributeTree, BlockTree}
use Rattle.net_parser.specs.declared.trees.BlockKind.TheVariants.{Net}
use Rattle.net_parser.specs.Owned.{leaves}
use Rattle.weight_scale.specs.Numeral.{numerator, denominator, IsDecimalOf}
use Rattle.weight_scale.specs.declared.decimal.Decimal.{Decimal}
use Rattle.net_build.specs.declared.faults.Limit.TheVariants.{Nodes, NameBytes, States, Agents}
use Rattle.first_fault.specs.Passes.{Pass, clear, rule, always, only, ◌▸◌, each, each_after, over}
use Rattle.net_build.specs.Passes.{found, DoubleName, DoubleAttribute, MissingStates, BadStates, BadLabel, BadAgent, RepeatedAgent, MissingTable, NotANumber, WrongCount, NumberTooLong, Negative, ZeroRow, WideWeight, WideValue, LimitPassed, Found}
use Rattle.net_build.specs.Blocks.{node_blocks, potentials, title_at, block_name, names_of, topic_of, owner_attributes, has_states, has_agent, counted, is_number, is_string_list, is_label, tells_owners, owner_texts, agents_of, with_sights, place_among, potential_list, parent_lists, data_of, leaves_of, state_attributes}
use Rattle.net_build.specs.Linking.{potentials_steps, missing_steps, graph_steps, size_steps}
use Rattle.net_build.specs.Scaling.{AreDecimals, IsWholeBy}
use Rattle.net_build.specs.Stages.{NodeLists, LinkLists, heads_of, head_at, head_rows, node_lists, link_lists}
use Rattle.net_build.specs.declared.nodes.Head.{Head}
use Rattle.weight_scale.specs.Scaling.{row_at, IsTooWide}

-- an attribute about what one before it is about
abbrev pub repeated_row : List ℕ → List AttributeTree → AttributeTree → Pass Found
repeated_row text earlier a = rule (Contains (map (topic_of text) earlier) (topic_of text a))
    (found a.name.start DoubleAttribute)

-- the attributes that count in a block
unfoldable pub repeats : List ℕ → BlockTree → Pass Found
repeats text block = each_after (repeated_row text) [] (counted text block)

-- a label has a byte below 32 or more than 255 bytes
abbrev pub label_row : List ℕ → Token → Pass Found
label_row text label = rule (is_label (text_value text label) ≡ false) (found label.start BadLabel)

-- the value of `states`
unfoldable pub label_rows : List ℕ → AttributeTree → Pass Found
label_rows text states = rule (is_string_list states.value ≡ false)
    (found states.name.start BadStates)
    ▸ rule (MOST_STATES < length (leaves states.value)) (found states.name.start
    (LimitPassed States (length (leaves states.value))))
    ▸ each (label_row text) (leaves states.value)

-- the states of a chance node or a decision, given its attributes of that name
unfoldable pub states_rows : List ℕ → BlockTree → List AttributeTree → Pass Found
states_rows text block [] = always (found (title_at block) MissingStates)
states_rows text block (states ∷ more) = label_rows text states

-- the agent that is named there is one of those seen
abbrev pub seen_agent_row : List (List ℕ) → ℕ → List ℕ → Pass Found
seen_agent_row seen at agent = rule (Contains seen agent) (found at RepeatedAgent)

-- an agent that stands among those before it
abbrev pub repeated_agent_row : List ℕ → List Token → Token → Pass Found
repeated_agent_row text earlier agent =
    seen_agent_row (map (text_value text) earlier) agent.start (text_value text agent)

-- what tells the owners isn't one or more strings of a label's form, as it must be
abbrev pub bad_agent_row : List ℕ → AttributeTree → Pass Found
bad_agent_row text agents =
    rule (tells_owners text agents ≡ false) (found agents.name.start BadAgent)

-- the owners of a decision or a utility, given the attributes that tell them
unfoldable pub agent_rows : List ℕ → List AttributeTree → Pass Found
agent_rows text [] = clear
agent_rows text (agents ∷ more) =
    bad_agent_row text agents
    ▸ each_after (repeated_agent_row text) [] (leaves agents.value)

-- the agent is none of these, of which there are as many as may be
abbrev pub IsAgentTooMany : List (List ℕ) → List ℕ → Type 0
IsAgentTooMany agents agent = (MOST_AGENTS ≤ length agents) × (Contains agents agent → ⊥)

-- such an agent is named there
abbrev pub many_agents_row : List (List ℕ) → ℕ → List ℕ → Pass Found
many_agents_row agents at agent =
    rule (IsAgentTooMany agents agent) (found at (LimitPassed Agents (MOST_AGENTS + 1)))

-- an owner of the node that is named there, behind these agents and the node's owners before it
abbrev pub sight_row : List (List ℕ) → ℕ → List (List ℕ) → List ℕ → Pass Found
sight_row agents at earlier agent = many_agents_row (with_sights agents earlier) at agent

-- the name of a node block behind those with these names
unfoldable pub name_rows : List ℕ → List (List ℕ) → BlockTree → Pass Found
name_rows text names block = rule (MOST_NODES ≤ length names) (found (title_at block)
    (LimitPassed Nodes (MOST_NODES + 1)))
    ▸ rule (MOST_NAME_BYTES < length (block_name text block)) (found (title_at block)
    (LimitPassed NameBytes (length (block_name text block))))
    ▸ rule (Contains names (block_name text block)) (found (title_at block) DoubleName)

-- the owners of a decision or a utility behind those of these agents
unfoldable pub owner_rows : List ℕ → List (List ℕ) → BlockTree → Pass Found
owner_rows text agents block =
    agent_rows text (owner_attributes text block)
    ▸ each_after (sight_row agents (title_at block)) [] (owner_texts text block)

-- the states of the block, where it has some
abbrev pub block_states_rows : List ℕ → BlockTree → Pass Found
block_states_rows text block =
    only (has_states block.kind) (states_rows text block (state_attributes text block))

-- the owners of the block, where it has some, behind those of these agents
abbrev pub block_owner_rows : List ℕ → List (List ℕ) → BlockTree → Pass Found
block_owner_rows text agents block = only (has_agent block.kind) (owner_rows text agents block)

-- a node block behind those with these names and agents
unfoldable pub node_rows : List ℕ → List (List ℕ) → List (List ℕ) → BlockTree → Pass Found
node_rows text names agents block = name_rows text names block ▸ repeats text block
    ▸ block_states_rows text block ▸ block_owner_rows text agents block

-- node blocks in text order
unfoldable pub node_pass : List ℕ → List BlockTree → Pass Found
node_pass text blocks = each_after
    (λ earlier b. node_rows text (names_of text earlier) (agents_of text earlier) b) []
    (node_blocks blocks)

-- potentials in text order, over the names and the heads of the nodes
unfoldable pub potential_pass : List ℕ → List BlockTree → Pass Found
potential_pass text blocks = potentials_steps text (names_of text (node_blocks blocks))
    (heads_of text (node_blocks blocks)) blocks

-- nodes in text order: each chance node and utility has a potential
unfoldable pub missing_pass : List ℕ → List BlockTree → Pass Found
missing_pass text blocks =
    missing_steps (heads_of text (node_blocks blocks)) (potential_list text blocks)

-- the graph: no cycle, or the first one
unfoldable pub graph_pass : List ℕ → List BlockTree → Pass Found
graph_pass text blocks = graph_steps (heads_of text (node_blocks blocks)) (parent_lists text blocks)

-- all nodes in text order
unfoldable pub size_pass : List ℕ → List BlockTree → Pass Found
size_pass text blocks = size_steps (heads_of text (node_blocks blocks)) (parent_lists text blocks)

-- what the potentials link: heads and parents, missing tables, the graph and the sizes
abbrev pub links_pass : List ℕ → List BlockTree → Pass Found
links_pass text blocks =
    potential_pass text blocks
    ▸ missing_pass text blocks
    ▸ graph_pass text blocks
    ▸ size_pass text blocks

-- what stands for a block that isn't there
abbrev pub no_block : BlockTree
no_block = record { kind = Net; names = []; attributes = [] }

-- a leaf of `data` is no number
abbrev pub number_row : Token → Pass Found
number_row leaf = rule (is_number leaf.kind ≡ false) (found leaf.start NotANumber)

-- no decimal within the limits is the number
abbrev pub IsNumberTooLong : List ℕ → Type 0
IsNumberTooLong numeral =
    (d : Decimal) → IsDecimalOf (numerator numeral) (denominator numeral) d → ⊥

-- a number has no value within the limits of decimals
abbrev pub length_row : List ℕ → Token → Pass Found
length_row text number =
    rule (IsNumberTooLong (token_bytes text number)) (found number.start NumberTooLong)

-- a number is below nought
abbrev pub sign_row : List ℕ → Token → Pass Found
sign_row text number =
    rule (numerator (token_bytes text number) <ℤ pos 0) (found number.start Negative)

-- a row of total nought: no number is below nought, so that each is nought
abbrev pub total_row : List ℕ → List Token → Pass Found
total_row text [] = clear
total_row text (number ∷ numbers) = rule
    (All (λ t. numerator (token_bytes text t) ≡ pos 0) (number ∷ numbers))
    (found number.start ZeroRow)

-- the rows of a table, one after the other
abbrev pub rows_by : ℕ → List Token → ℕ → List (List Token)
rows_by states numbers rows = map (λ r. row_at states numbers r) (range_with_len 0 rows)

-- the common total of the rows is too great
abbrev pub IsWideTotal : List ℕ → ℕ → List Token → Type 0
IsWideTotal text states numbers = (decimals : List Decimal) × AreDecimals
    (map (token_bytes text) numbers) decimals × IsTooWide decimals states

-- another count of numbers than the table has cells
abbrev pub wrong_count_row : ℕ → ℕ → ℕ → Pass Found
wrong_count_row at want got = rule (got ≢ want) (found at (WrongCount want got))

-- the leaves of `data`, whatever the table
abbrev pub number_rows : List ℕ → ℕ → AttributeTree → Pass Found
number_rows text want table =
    each number_row (leaves table.value)
    ▸ wrong_count_row table.name.start want (length (leaves table.value))
    ▸ each (length_row text) (leaves table.value)

-- these numbers as those of a chance table whose `data` stands at a place
abbrev pub weight_part : List ℕ → ℕ → ℕ → ℕ → List Token → Pass Found
weight_part text states rows at numbers =
    each (sign_row text) numbers
    ▸ each (total_row text) (rows_by states numbers rows)
    ▸ rule (IsWideTotal text states numbers) (found at WideWeight)

-- the `data` of a node of that kind, with so many rows and states
abbrev pub data_part : List ℕ → Kind → ℕ → ℕ → AttributeTree → Pass Found
data_part text kind rows states table =
    number_rows text (rows * states) table
    ▸ only (is_chance kind) (weight_part text states rows table.name.start (leaves table.value))

-- the first of these attributes as its `data`
abbrev pub data_parts : List ℕ → Kind → ℕ → ℕ → BlockTree → List AttributeTree → Pass Found
data_parts text kind rows states potential [] = always (found (title_at potential) MissingTable)
data_parts text kind rows states potential (table ∷ more) = data_part text kind rows states table

-- its potential
abbrev pub table_part : List ℕ → Kind → ℕ → ℕ → BlockTree → Pass Found
table_part text kind rows states potential =
    repeats text potential ▸ data_parts text kind rows states potential (data_of text potential)

-- its potential, where it has one
abbrev pub draft_part : List ℕ → Kind → ℕ → ℕ → Option BlockTree → Pass Found
draft_part text kind rows states None = clear
draft_part text kind rows states (Some potential) = table_part text kind rows states potential

-- a decision has no table
abbrev pub node_part : List ℕ → Kind → ℕ → ℕ → Option BlockTree → Pass Found
node_part text Decision rows states potential = clear
node_part text kind rows states potential = draft_part text kind rows states potential

-- the potential of node v, where it has one
abbrev pub potential_at : LinkLists → ℕ → Option BlockTree
potential_at links v = slice_index_or links.potentials v None

-- node v by its head, its rows and its potential
abbrev pub node_part_at : List ℕ → List Head → LinkLists → ℕ → Pass Found
node_part_at text heads links v = node_part text (head_at heads v).kind
    (head_rows heads links.parents v) (head_at heads v).states (potential_at links v)

-- the nodes in order
abbrev pub drafts_pass : List ℕ → List Head → LinkLists → Pass Found
drafts_pass text heads links =
    each (node_part_at text heads links) (range_with_len 0 (length heads))

-- chance and utility nodes in text order
unfoldable pub table_pass : List ℕ → List BlockTree → Pass Found
table_pass text blocks =
    drafts_pass text (heads_of text (node_blocks blocks)) (link_lists text blocks)

-- the kind of the node of that name, a chance node's where there is none
abbrev pub kind_in : NodeLists → List ℕ → Kind
kind_in nodes name =
    slice_index_or (map (λ h. h.kind) nodes.heads) (place_among nodes.names name) model.Chance

-- the numbers of the utilities' potentials, in text order
abbrev pub values_in : List ℕ → NodeLists → List BlockTree → List Token
values_in text nodes blocks = flat_map (λ p. leaves_of (data_of text p))
    (filter (λ p. is_utility (kind_in nodes (block_name text p))) (potentials blocks))

-- the numbers of all utilities
abbrev pub utility_numbers : List ℕ → List BlockTree → List Token
utility_numbers text blocks = values_in text (node_lists text (node_blocks blocks)) blocks

-- K: the least number for which each of these values times 10^K is whole
abbrev pub IsScaleOf : List ℕ → List Token → ℕ → Type 0
IsScaleOf text numbers scale =
    IsLeast (λ k. All (λ t. IsWholeBy k (token_bytes text t)) numbers) scale

-- that of all utilities
abbrev pub IsUtilityScale : List ℕ → List BlockTree → ℕ → Type 0
IsUtilityScale text blocks scale = IsScaleOf text (utility_numbers text blocks) scale

-- the value times 10^scale is greater than the greatest number, or less than the least
abbrev pub IsWideValue : ℕ → List ℕ → Type 0
IsWideValue scale numeral =
    greatest_number * denominator numeral < nat_abs (numerator numeral) * 10 ^ scale

-- a value is too wide to that scale
abbrev pub wide_row : List ℕ → ℕ → Token → Pass Found
wide_row text scale number =
    rule (IsWideValue scale (token_bytes text number)) (found number.start WideValue)

-- these values to their scale
abbrev pub scaled_pass : List ℕ → List Token → Pass Found
scaled_pass text numbers =
    over (IsScaleOf text numbers) (λ scale. each (wide_row text scale) numbers)

-- utility values in text order
unfoldable pub wide_pass : List ℕ → List BlockTree → Pass Found
wide_pass text blocks = scaled_pass text (utility_numbers text blocks)

-- all passes, one after the other
unfoldable pub all_passes : List ℕ → List BlockTree → Pass Found
all_passes text blocks =
    node_pass text blocks
    ▸ potential_pass text blocks
    ▸ missing_pass text blocks
    ▸ graph_pass text blocks
    ▸ size_pass text blocks
    ▸ table_pass text blocks
    ▸ wide_pass text blocks

-- What the calls that read node blocks promise.
use Rattle.std.specs.Prelude.{◌≡◌, ◌++◌, ◌∷◌, ℕ, false, Contains, List, [], Option, MatchOption, OnOk, Result, map}
use Rattle.std.specs.Global.{Vec}
use Rattle.std.specs.Option.{SomeIff}
use Rattle.first_fault.specs.Answers.{Passes}
use Rattle.first_fault.specs.Passes.{Pass, each_after, ◌▸◌}
use Rattle.maid_model.specs.Names.{NamesView, list_of, lists_of}
use Rattle.net_lexer.specs.Token.{text_value}
use Rattle.net_lexer.specs.declared.tokens.Token.{Token}
use Rattle.net_parser.specs.Owned.{leaves}
use Rattle.net_parser.specs.Trees.{AttributeTree, BlockTree, ValueTree, leaf}
use Rattle.net_parser.specs.declared.trees.BlockKind.{BlockKind}
use Rattle.net_build.specs.declared.faults.BuildFault.{BuildFault}
use Rattle.net_build.specs.declared.faults.BuildFault.TheVariants.{Fault, NoMemory}
use Rattle.net_build.specs.declared.faults.BuildKind.TheVariants.{BadAgent}
use Rattle.net_build.specs.declared.nodes.Columns.{Columns}
use Rattle.net_build.specs.declared.nodes.Entry.{Entry}
use Rattle.net_build.specs.declared.owners.Owners.{Owners}
use Rattle.net_build.specs.Answered.{texts_in}
use Rattle.net_build.specs.Blocks.{block_labels, block_name, block_states, counted_in, is_string, kind_of, named_owner_places, owner_attributes, owner_places, place_among, state_attributes, title_at, with_sight, with_sights}
use Rattle.net_build.specs.Lists.{numbers_of_lists}
use Rattle.net_build.specs.Passes.{Found, build_fault}
use Rattle.net_build.specs.Stages.{NodeLists, with_named_owners, with_owners}
use Rattle.net_build.specs.Table.{agent_rows, block_owner_rows, block_states_rows, node_rows, repeated_row, repeats, sight_row, states_rows}

-- the attributes of such a block: one that counts is about what one before it is about
abbrev pub attribute_repeats : List ℕ → BlockKind → List AttributeTree → Pass Found
attribute_repeats text kind attributes =
    each_after (repeated_row text) [] (counted_in text kind attributes)

-- the states of a chance node or a decision, given its block
abbrev pub written_states_rows : List ℕ → BlockTree → Pass Found
written_states_rows text block = states_rows text block (state_attributes text block)

-- the owners of a decision or a utility, given its block
abbrev pub written_owners_rows : List ℕ → BlockTree → Pass Found
written_owners_rows text block = agent_rows text (owner_attributes text block)

-- the owners with these names of the node that is named there, behind these agents
abbrev pub sight_rows : Vec (Vec ℕ) → ℕ → List (Vec ℕ) → Pass Found
sight_rows agents at names = each_after (sight_row (texts_in agents) at) [] (list_of names)

-- the places of the names among the agents
abbrev pub places_among : Vec (Vec ℕ) → List (Vec ℕ) → List ℕ
places_among agents names = map (place_among (texts_in agents)) (list_of names)

-- a node block behind those with these names and agents
abbrev pub PassesNode : {A : Type 0} → List ℕ → List (List ℕ) → Vec (Vec ℕ) → BlockTree
    → Result A BuildFault → Type 0
PassesNode text names agents block result =
    Passes build_fault (node_rows text names (texts_in agents) block) result

-- the owners of a block, where it has some, behind those of these agents
abbrev pub PassesOwners :
    {A : Type 0} → List ℕ → Vec (Vec ℕ) → BlockTree → Result A BuildFault → Type 0
PassesOwners text agents block result =
    Passes build_fault (block_owner_rows text (texts_in agents) block) result

-- the strings in an attribute's value, with escapes undone
abbrev pub value_texts : List ℕ → AttributeTree → List (List ℕ)
value_texts text attribute = map (text_value text) (leaves attribute.value)

-- the fault of an attribute at that place whose strings are refused as labels
abbrev pub as_bad_agent : ℕ → BuildFault → BuildFault
as_bad_agent at NoMemory = NoMemory
as_bad_agent at (Fault place kind) = Fault at BadAgent

-- a node block's attributes that count don't repeat, and then its states
abbrev pub attribute_rows : List ℕ → BlockTree → Pass Found
attribute_rows text block = repeats text block ▸ block_states_rows text block

-- the string that a value is, and none exactly where it is no string
abbrev pub IsStringOf : ValueTree → Option Token → Type 0
IsStringOf value string =
    MatchOption string (is_string value ≡ false) (λ token. value ≡ leaf token)

-- these are the labels that the block says
abbrev pub AreLabelsOf : List ℕ → BlockTree → Vec (Vec ℕ) → Type 0
AreLabelsOf text block labels = texts_in labels ≡ block_labels text block

-- the place of the name among the names, where it is one of them
abbrev pub IsPlaceAmong : List (List ℕ) → List ℕ → Option ℕ → Type 0
IsPlaceAmong names name place = SomeIff place (Contains names name) (place_among names name)

-- a call that ended well added the agent to the agents, unless it is one of them
abbrev pub AddsAgent :
    {A E : Type 0} → List ℕ → Vec (Vec ℕ) → Vec (Vec ℕ) → Result A E → Type 0
AddsAgent agent before now result = OnOk result (texts_in now ≡ with_sight (texts_in before) agent)

-- the same of agents one after the other
abbrev pub AddsAgents :
    {A E : Type 0} → List (List ℕ) → Vec (Vec ℕ) → Vec (Vec ℕ) → Result A E → Type 0
AddsAgents agents before now result =
    OnOk result (texts_in now ≡ with_sights (texts_in before) agents)

-- the same of the owners of a decision or a utility
abbrev pub AddsNamedOwners :
    {A E : Type 0} → List ℕ → BlockTree → Vec (Vec ℕ) → Vec (Vec ℕ) → Result A E → Type 0
AddsNamedOwners text block before now result =
    OnOk result (texts_in now ≡ with_named_owners text (texts_in before) block)

-- the same of a block's owners, where it has some
abbrev pub AddsOwners :
    {A E : Type 0} → List ℕ → BlockTree → Vec (Vec ℕ) → Vec (Vec ℕ) → Result A E → Type 0
AddsOwners text block before now result =
    OnOk result (texts_in now ≡ with_owners text (texts_in before) block)

-- the places among the agents of the owners of a decision or a utility
abbrev pub AreNamedOwners : List ℕ → Vec (Vec ℕ) → BlockTree → Owners → Type 0
AreNamedOwners text agents block owners =
    owners.first ∷ owners.more.items ≡ named_owner_places text (texts_in agents) block

-- the places among the agents of a node's owners
abbrev pub AreOwners : List ℕ → Vec (Vec ℕ) → BlockTree → Owners → Type 0
AreOwners text agents block owners =
    owners.first ∷ owners.more.items ≡ owner_places text (texts_in agents) block

-- what the block says, its owners by their places among the agents
pub record IsEntryOf
    (text : List ℕ) (agents : Vec (Vec ℕ)) (block : BlockTree) (entry : Entry) : Type 0 where
  pub name : entry.name.items ≡ block_name text block
  pub labels : AreLabelsOf text block entry.labels
  pub at : entry.head.at ≡ title_at block
  pub kind : entry.head.kind ≡ kind_of block.kind
  pub states : entry.head.states ≡ block_states text block
  pub owners : entry.head.owner ∷ entry.more.items ≡ owner_places text (texts_in agents) block

-- the entry's parts were added at the ends of the columns
pub record AddsEntry (entry : Entry) (before now : Columns) : Type 0 where
  pub labels : now.labels.items ≡ before.labels.items ++ entry.labels ∷ []
  pub heads : now.heads.items ≡ before.heads.items ++ entry.head ∷ []
  pub more : now.more.items ≡ before.more.items ++ entry.more ∷ []

-- these names, agents and columns as plain lists
abbrev pub lists_in : List (List ℕ) → Vec (Vec ℕ) → Columns → NodeLists
lists_in names agents columns = record {
  names = names;
  labels = lists_of columns.labels.items;
  agents = texts_in agents;
  heads = columns.heads.items;
  more = numbers_of_lists columns.more.items;
}

-- the names, labels and agents that the node blocks say
abbrev pub names_from : NodeLists → NamesView
names_from nodes = record { nodes = nodes.names; labels = nodes.labels; agents = nodes.agents }

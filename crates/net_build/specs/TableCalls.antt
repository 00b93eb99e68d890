-- What the calls that read tables promise, over a node's head and over its potential.
use Rattle.std.specs.Prelude.{◌≡◌, ◌*◌, ◌++◌, ℕ, ℤ, true, Contains, List, None, Option, OnOk, Result}
use Rattle.std.specs.Borrow.{Bor}
use Rattle.std.specs.Global.{Vec}
use Rattle.std.specs.Option.{SomeIff}
use Rattle.first_fault.specs.Answers.{Passes}
use Rattle.first_fault.specs.Passes.{Pass, each, ◌▸◌}
use Rattle.maid_model.specs.declared.diagrams.Kind.TheVariants.{Chance}
use Rattle.net_lexer.specs.declared.tokens.Token.{Token}
use Rattle.net_parser.specs.Owned.{IsBlockOf}
use Rattle.net_parser.specs.Trees.{AttributeTree, BlockTree}
use Rattle.net_parser.specs.Grammar.{is_potential}
use Rattle.net_build.specs.declared.faults.BuildFault.{BuildFault}
use Rattle.net_build.specs.declared.drafts.Draft.{Draft}
use Rattle.net_build.specs.declared.nodes.Head.{Head}
use Rattle.net_build.specs.Blocks.{data_of, leaves_of}
use Rattle.net_build.specs.Linking.{borrowed_tree}
use Rattle.net_build.specs.Passes.{Found, build_fault}
use Rattle.net_build.specs.Stages.{NodeLists}
use Rattle.net_build.specs.Table.{graph_pass, missing_pass, potential_pass, size_pass, table_pass, wide_pass, wide_row}
use Rattle.net_build.specs.TableParts.{ArePlainNumbers, IsDraftFrom, IsDraftOf, IsFewDigits, IsScaleOf, Reaches, data_part, few_number, node_part, numerals_in, scaled_pass, table_part, values_in}

-- the `data` of a node with that head and so many rows
abbrev pub head_data_part : List ℕ → Head → ℕ → AttributeTree → Pass Found
head_data_part text head rows table = data_part text head.kind rows head.states table

-- the potential of a node with that head and so many rows
abbrev pub head_table_part : List ℕ → Head → ℕ → BlockTree → Pass Found
head_table_part text head rows potential = table_part text head.kind rows head.states potential

-- the same, where it has one; a decision has no table
abbrev pub PassesDraft : {A : Type 0} → List ℕ → Head → ℕ → Option (Bor BlockTree)
    → Result A BuildFault → Type 0
PassesDraft text head rows potential result = Passes build_fault
    (node_part text head.kind rows head.states (borrowed_tree potential)) result

-- the draft of a node with that head and so many rows, from these tokens of the text
abbrev pub IsHeadDraft : List ℕ → Head → ℕ → List Token → Draft → Type 0
IsHeadDraft text head rows tokens draft = IsDraftFrom text head.kind rows head.states tokens draft

-- the same from the `data` of a potential
abbrev pub IsDraftFromBlock : List ℕ → Head → ℕ → BlockTree → Draft → Type 0
IsDraftFromBlock text head rows potential draft =
    IsHeadDraft text head rows (leaves_of (data_of text potential)) draft

-- the same from that of its potential, where it has one
abbrev pub IsDraftUnder : List ℕ → Head → ℕ → Option (Bor BlockTree) → Draft → Type 0
IsDraftUnder text head rows potential draft =
    IsDraftOf head.kind rows head.states (numerals_in text (borrowed_tree potential)) draft

-- the block stands in the text, and is a potential
abbrev pub IsPotentialOf : List ℕ → BlockTree → Type 0
IsPotentialOf text block = IsBlockOf text block × (is_potential block.kind ≡ true)

-- the number that a token of few digits alone writes, and none for any other token
abbrev pub IsFewNumber : List ℕ → Token → Option ℤ → Type 0
IsFewNumber text token number = SomeIff number (IsFewDigits text token) (few_number text token)

-- a chance node with that head and so many rows hasn't plain numbers in these tokens
abbrev pub LacksPlainNumbers : List ℕ → Head → ℕ → List Token → Type 0
LacksPlainNumbers text head rows tokens =
    head.kind ≡ Chance → ArePlainNumbers text head.states (rows * head.states) tokens → ⊥

-- a value of one of the drafts has so many
abbrev pub IsReachedByOne : List Draft → ℕ → Type 0
IsReachedByOne drafts most = (draft : Draft) × Contains drafts draft × Reaches most draft

-- the utilities' values to their scale
abbrev pub values_pass : List ℕ → NodeLists → List BlockTree → Pass Found
values_pass text nodes blocks = scaled_pass text (values_in text nodes blocks)

-- that scale
abbrev pub IsValueScale : List ℕ → NodeLists → List BlockTree → ℕ → Type 0
IsValueScale text nodes blocks scale = IsScaleOf text (values_in text nodes blocks) scale

-- none of the utilities' values is too wide to that scale
abbrev pub AreNarrowValues : List ℕ → NodeLists → List BlockTree → ℕ → Type 0
AreNarrowValues text nodes blocks scale =
    each (wide_row text scale) (values_in text nodes blocks) None

-- the tables, and then the utilities' values
abbrev pub tables_pass : List ℕ → List BlockTree → Pass Found
tables_pass text blocks = table_pass text blocks ▸ wide_pass text blocks

-- all that comes behind the rows of the nodes
abbrev pub passes_behind_nodes : List ℕ → List BlockTree → Pass Found
passes_behind_nodes text blocks =
    potential_pass text blocks
    ▸ missing_pass text blocks
    ▸ graph_pass text blocks
    ▸ size_pass text blocks
    ▸ tables_pass text blocks

-- a call that ended well added the numbers of the potential's table to the tokens
abbrev pub AddsNumbers :
    {A E : Type 0} → List ℕ → BlockTree → Vec Token → Vec Token → Result A E → Type 0
AddsNumbers text potential before now result =
    OnOk result (now.items ≡ before.items ++ leaves_of (data_of text potential))

-- What the steps of reading potentials and tables promise, over the nodes and the links that they
-- are handed.
use Rattle.std.specs.Prelude.{◌≡◌, ℕ, List, None, Option, Some, Result, slice_set}
use Rattle.first_fault.specs.Answers.{Passes}
use Rattle.net_parser.specs.Trees.{BlockTree}
use Rattle.net_build.specs.declared.drafts.Draft.{Draft}
use Rattle.net_build.specs.declared.faults.BuildFault.{BuildFault}
use Rattle.net_build.specs.declared.nodes.Head.{Head}
use Rattle.net_build.specs.Passes.{build_fault}
use Rattle.net_build.specs.Stages.{LinkLists, NodeLists, link_lists}
use Rattle.net_build.specs.TableCalls.{head_table_part}
use Rattle.net_build.specs.TableParts.{AreDrafts, drafts_pass, node_part_at}

-- the table of a node with that head and so many rows, from its potential
abbrev pub PassesTable :
    {A : Type 0} → List ℕ → Head → ℕ → BlockTree → Result A BuildFault → Type 0
PassesTable text head rows potential result =
    Passes build_fault (head_table_part text head rows potential) result

-- the table of that node
abbrev pub PassesNodeTable :
    {A : Type 0} → List ℕ → List Head → LinkLists → ℕ → Result A BuildFault → Type 0
PassesNodeTable text heads links node result =
    Passes build_fault (node_part_at text heads links node) result

-- the potential at that place is set, and no other
abbrev pub SetsPotential : {P : Type 0} → List (Option P) → List (Option P) → ℕ → P → Type 0
SetsPotential before now place potential = now ≡ slice_set before place (Some potential)

-- the drafts of the nodes, with the links that the blocks of the text make
abbrev pub AreDraftsIn : List ℕ → NodeLists → List BlockTree → List Draft → Type 0
AreDraftsIn text nodes blocks drafts = AreDrafts text nodes.heads (link_lists text blocks) drafts

-- with those links no table of a node has a fault
abbrev pub PassesDrafts : List ℕ → NodeLists → List BlockTree → Type 0
PassesDrafts text nodes blocks = drafts_pass text nodes.heads (link_lists text blocks) None

-- What the calls that read potentials and look at the graph and the sizes promise.
use Rattle.std.specs.Prelude.{◌≡◌, ◌<◌, ◌≤◌, ℕ, All, List, Option, Result, length, map, slice_index, slice_set}
use Rattle.std.specs.Borrow.{Bor}
use Rattle.std.specs.Global.{Vec}
use Rattle.first_fault.specs.Answers.{Passes}
use Rattle.maid_model.specs.declared.limits.TheConstants.{MOST_CELLS, MOST_RULE_CELLS}
use Rattle.net_lexer.specs.declared.tokens.Token.{Token}
use Rattle.net_parser.specs.Trees.{BlockTree}
use Rattle.net_build.specs.declared.faults.BuildFault.{BuildFault}
use Rattle.net_build.specs.declared.faults.BuildFault.TheVariants.{Fault}
use Rattle.net_build.specs.declared.faults.BuildKind.TheVariants.{GraphCycle}
use Rattle.net_build.specs.declared.nodes.Head.{Head}
use Rattle.net_build.specs.Blocks.{conditions, potentials}
use Rattle.net_build.specs.Linking.{AreParents, absent_row, block_steps, borrowed_trees, condition_steps, conditions_steps, links_steps, missing_at, node_named, parents_in, potentials_among, potentials_steps, rules_before}
use Rattle.net_build.specs.Lists.{numbers_of_lists}
use Rattle.net_build.specs.Passes.{build_fault}
use Rattle.net_build.specs.Stages.{LinkLists, cells_of_head, head_at}

-- a name behind the bar, and behind those earlier, over the names and the heads of the nodes
abbrev pub PassesCondition : {A : Type 0} → List ℕ → List (List ℕ) → List Head → List Token → Token
    → Result A BuildFault → Type 0
PassesCondition text names heads earlier name result =
    Passes build_fault (condition_steps text names heads earlier name) result

-- the names behind the bar
abbrev pub PassesConditions : {A : Type 0} → List ℕ → List (List ℕ) → List Head → List Token
    → Result A BuildFault → Type 0
PassesConditions text names heads conditions result =
    Passes build_fault (conditions_steps text names heads conditions) result

-- the block of a potential, behind those that the nodes have
abbrev pub PassesBlock : {A : Type 0} → List ℕ → List (List ℕ) → List Head
    → List (Option (Bor BlockTree)) → BlockTree → Result A BuildFault → Type 0
PassesBlock text names heads potentials block result =
    Passes build_fault (block_steps text names heads (borrowed_trees potentials) block) result

-- the potentials in text order
abbrev pub PassesPotentials : {A : Type 0} → List ℕ → List (List ℕ) → List Head → List BlockTree
    → Result A BuildFault → Type 0
PassesPotentials text names heads blocks result =
    Passes build_fault (potentials_steps text names heads blocks) result

-- the node has a potential
abbrev pub PassesAbsent :
    {A : Type 0} → List Head → List (Option (Bor BlockTree)) → ℕ → Result A BuildFault → Type 0
PassesAbsent heads potentials node result =
    Passes build_fault (absent_row (head_at heads node) (borrowed_trees potentials) node) result

-- the node has a potential, unless it is a decision
abbrev pub PassesMissing :
    {A : Type 0} → List Head → List (Option (Bor BlockTree)) → ℕ → Result A BuildFault → Type 0
PassesMissing heads potentials node result =
    Passes build_fault (missing_at heads (borrowed_trees potentials) node) result

-- missing tables, the graph and the sizes
abbrev pub PassesLinks : {A : Type 0} → List Head → List (Vec ℕ) → List (Option (Bor BlockTree))
    → Result A BuildFault → Type 0
PassesLinks heads parents potentials result = Passes build_fault
    (links_steps heads (borrowed_trees potentials) (numbers_of_lists parents)) result

-- these nodes have the names, one for each token
abbrev pub AreNodesNamed : List ℕ → List (List ℕ) → List Token → Vec ℕ → Type 0
AreNodesNamed text names tokens nodes = nodes.items ≡ map (node_named text names) tokens

-- these nodes have the names behind a potential's bar
abbrev pub AreConditionNodes : List ℕ → List (List ℕ) → BlockTree → Vec ℕ → Type 0
AreConditionNodes text names block nodes = AreNodesNamed text names (conditions block) nodes

-- the list at that place is set, and no other
abbrev pub SetsList : List (Vec ℕ) → List (Vec ℕ) → ℕ → Vec ℕ → Type 0
SetsList before now place list =
    numbers_of_lists now ≡ slice_set (numbers_of_lists before) place list.items

-- for each node the potential that these blocks have for it
abbrev pub HasPotentials : List ℕ → List (List ℕ) → List BlockTree → LinkLists → Type 0
HasPotentials text names blocks links =
    links.potentials ≡ potentials_among text names (potentials blocks)

-- for each node the parents that its potential names
abbrev pub HasParents : List ℕ → List (List ℕ) → LinkLists → Type 0
HasParents text names links = links.parents ≡ parents_in text names links.potentials

-- for each node the potential that these blocks have for it, and its parents
pub record AreLinksOf (text : List ℕ) (names : List (List ℕ)) (heads : List Head)
    (blocks : List BlockTree) (lists : Vec (Vec ℕ))
    (found : List (Option (Bor BlockTree))) : Type 0 where
  pub potentials : borrowed_trees found ≡ potentials_among text names (potentials blocks)
  pub parents : numbers_of_lists lists.items ≡ parents_in text names (borrowed_trees found)
  pub fit : All (AreParents heads) (numbers_of_lists lists.items)

-- the fault of a cycle in the graph, told where its first node is named
abbrev pub cycle_fault : List Head → Vec ℕ → BuildFault
cycle_fault heads cycle = Fault (head_at heads (slice_index cycle.items 0)).at (GraphCycle cycle)

-- no node has too many cells
abbrev pub HaveFewCells : List Head → List (List ℕ) → Type 0
HaveFewCells heads parents =
    (v : ℕ) → v < length heads → cells_of_head heads parents v ≤ MOST_CELLS

-- the rules together haven't too many cells
abbrev pub HaveFewRuleCells : List Head → List (List ℕ) → Type 0
HaveFewRuleCells heads parents = rules_before heads parents (length heads) ≤ MOST_RULE_CELLS

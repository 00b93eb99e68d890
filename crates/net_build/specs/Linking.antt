-- The rows of the passes over potentials, the graph and the sizes: they speak of the names and
-- heads of the nodes, their parents and their potentials, as lists.
use Rattle.std.specs.Prelude.{◌≡◌, ◌≢◌, ◌<◌, ◌≤◌, ◌+◌, min, not, ℕ, List, [], Option, None, Some, map, filter, find, length, sum, All, Contains, slice_index, slice_index_or, bytes_eq, if◌then◌else◌}
use Rattle.std.specs.List.{range_with_len}
use Rattle.std.specs.Borrow.{Bor}
use Rattle.std.specs.Option.{IsSome, option_map, option_map_or}
use Rattle.maid_model.specs.declared.limits.TheConstants.{COUNT_END, MOST_CELLS, MOST_PARENTS, MOST_RULE_CELLS}
use Rattle.diagram_graph.specs.Cycles.{ListedArc, IsParentCycle}
use Rattle.maid_model.specs.declared.diagrams.Kind.{Kind}
use Rattle.maid_model.specs.declared.diagrams.Kind.TheVariants.{Chance, Utility}
use Rattle.maid_model.specs.Graph.{IsAcyclic, AllDifferent}
use Rattle.maid_model.specs.Nodes.{is_decision}
use Rattle.net_lexer.specs.Token.{token_bytes}
use Rattle.net_lexer.specs.declared.tokens.Token.{Token}
use Rattle.net_parser.specs.Trees.{BlockTree}
use Rattle.net_build.specs.declared.faults.Limit.TheVariants.{Parents, Cells, Rules}
use Rattle.net_build.specs.declared.nodes.Head.{Head}
use Rattle.first_fault.specs.Passes.{Pass, rule, only, ◌▸◌, each, each_after}
use Rattle.net_build.specs.Passes.{found, UnknownName, DoublePotential, RepeatedParent, UtilityParent, MissingTable, GraphCycle, LimitPassed, Found}
use Rattle.net_build.specs.Blocks.{title, block_name, potentials, conditions, place_among}
use Rattle.net_build.specs.Stages.{head_at, cells_of_head_over, cells_of_head}

-- the number of the node of that name
abbrev pub node_named : List ℕ → List (List ℕ) → Token → ℕ
node_named text names name = place_among names (token_bytes text name)

-- the kind of a node
abbrev pub kind_at : List Head → ℕ → Kind
kind_at heads v = slice_index_or (map (λ h. h.kind) heads) v Chance

-- no node has the name
abbrev pub unknown_row : List ℕ → List (List ℕ) → Token → Pass Found
unknown_row text names name =
    rule (Contains names (token_bytes text name) → ⊥) (found name.start UnknownName)

-- it stands among those earlier
abbrev pub repeat_row : List ℕ → List Token → Token → Pass Found
repeat_row text earlier name = rule
    (Contains (map (token_bytes text) earlier) (token_bytes text name))
    (found name.start RepeatedParent)

-- it is a utility's
abbrev pub utility_row : Kind → Token → Pass Found
utility_row kind name = rule (kind ≡ Utility) (found name.start UtilityParent)

-- a name behind the bar, and behind those earlier
abbrev pub condition_steps : List ℕ → List (List ℕ) → List Head → List Token → Token → Pass Found
condition_steps text names heads earlier name = unknown_row text names name
    ▸ repeat_row text earlier name ▸ utility_row (kind_at heads (node_named text names name)) name

-- the names behind a potential's bar, from the left
abbrev pub conditions_steps : List ℕ → List (List ℕ) → List Head → List Token → Pass Found
conditions_steps text names heads conditions =
    each_after (condition_steps text names heads) [] conditions

-- a borrowed potential as a tree
abbrev pub borrowed_tree : Option (Bor BlockTree) → Option BlockTree
borrowed_tree potential = option_map (λ p. p.now) potential

-- borrowed potentials as trees
abbrev pub borrowed_trees : List (Option (Bor BlockTree)) → List (Option BlockTree)
borrowed_trees potentials = map (option_map (λ p. p.now)) potentials

-- the node has a potential already
abbrev pub taken_row : List (Option BlockTree) → ℕ → Token → Pass Found
taken_row potentials v head =
    rule (IsSome (slice_index_or potentials v None)) (found head.start DoublePotential)

-- there are too many names behind the bar
abbrev pub many_row : Token → List Token → Pass Found
many_row head conditions = rule (MOST_PARENTS < length conditions) (found head.start
    (LimitPassed Parents (length conditions)))

-- a potential's head and the names behind its bar, where those nodes have potentials
abbrev pub potential_steps :
    List ℕ → List (List ℕ) → List Head → List (Option BlockTree) → Token → List Token → Pass Found
potential_steps text names heads potentials head conditions =
    unknown_row text names head
    ▸ taken_row potentials (node_named text names head) head
    ▸ conditions_steps text names heads conditions
    ▸ many_row head conditions

-- those of a potential's block
abbrev pub block_steps :
    List ℕ → List (List ℕ) → List Head → List (Option BlockTree) → BlockTree → Pass Found
block_steps text names heads potentials block =
    potential_steps text names heads potentials (title block) (conditions block)

-- the potential of each node among these blocks
abbrev pub potentials_among : List ℕ → List (List ℕ) → List BlockTree → List (Option BlockTree)
potentials_among text names blocks =
    map (λ name. find (λ p. bytes_eq (block_name text p) name) blocks) names

-- the parents in them
abbrev pub parents_in : List ℕ → List (List ℕ) → List (Option BlockTree) → List (List ℕ)
parents_in text names potentials =
    map (λ o. option_map_or (λ p. map (node_named text names) (conditions p)) o []) potentials

-- a potential behind those earlier
abbrev pub behind_rows :
    List ℕ → List (List ℕ) → List Head → List BlockTree → BlockTree → Pass Found
behind_rows text names heads earlier p =
    block_steps text names heads (potentials_among text names earlier) p

-- the potentials in text order
abbrev pub potentials_steps : List ℕ → List (List ℕ) → List Head → List BlockTree → Pass Found
potentials_steps text names heads blocks =
    each_after (behind_rows text names heads) [] (potentials blocks)

-- parents that a node may have
pub record AreParents (heads : List Head) (parents : List ℕ) : Type 0 where
  pub known : All (λ u. u < length heads) parents
  pub differ : AllDifferent parents
  pub no_utility : All (λ u. (head_at heads u).kind ≢ Utility) parents
  pub few : length parents ≤ MOST_PARENTS

-- the node has no potential
abbrev pub absent_row : Head → List (Option BlockTree) → ℕ → Pass Found
absent_row head potentials v =
    rule (slice_index_or potentials v None ≡ None) (found head.at MissingTable)

-- a chance or utility node
abbrev pub missing_at : List Head → List (Option BlockTree) → ℕ → Pass Found
missing_at heads potentials v =
    only (not (is_decision (head_at heads v).kind)) (absent_row (head_at heads v) potentials v)

-- the nodes in order
abbrev pub missing_steps : List Head → List (Option BlockTree) → Pass Found
missing_steps heads potentials =
    each (missing_at heads potentials) (range_with_len 0 (length heads))

-- no cycle, or the first one
abbrev pub graph_steps : List Head → List (List ℕ) → Pass Found
graph_steps heads parents None = IsAcyclic (ListedArc parents)
graph_steps heads parents (Some f) = (cycle : List ℕ) × IsParentCycle parents cycle
    × (f ≡ found (head_at heads (slice_index cycle 0)).at (GraphCycle cycle))

-- they are too many; the count is named up to 10^18
abbrev pub cells_row : List Head → List ℕ → ℕ → Pass Found
cells_row heads parents v = rule (MOST_CELLS < cells_of_head_over heads parents v) (found
    (head_at heads v).at (LimitPassed Cells (min (cells_of_head_over heads parents v) COUNT_END)))

-- the rules' cells up to a node are too many
abbrev pub rules_row : Head → ℕ → Pass Found
rules_row head rules = rule (MOST_RULE_CELLS < rules) (found head.at (LimitPassed Rules rules))

-- the cells of so many rules, with those of node v over these parents if it is a decision
abbrev pub rules_with : List Head → List ℕ → ℕ → ℕ → ℕ
rules_with heads parents v rules =
    rules + (if is_decision (head_at heads v).kind then cells_of_head_over heads parents v else 0)

-- a node over these parents, behind rules of so many cells
abbrev pub size_rows_over : List Head → List ℕ → ℕ → ℕ → Pass Found
size_rows_over heads parents v rules = cells_row heads parents v
    ▸ only (is_decision (head_at heads v).kind) (rules_row (head_at heads v)
    (rules + cells_of_head_over heads parents v))

-- the cells of the rules of the first n nodes
abbrev pub rules_before : List Head → List (List ℕ) → ℕ → ℕ
rules_before heads parents n = sum (map (cells_of_head heads parents) (filter
    (λ v. is_decision (head_at heads v).kind) (range_with_len 0 n)))

-- node v over its own parents, behind the rules of the nodes before it
abbrev pub size_steps_at : List Head → List (List ℕ) → ℕ → Pass Found
size_steps_at heads parents v =
    size_rows_over heads (slice_index_or parents v []) v (rules_before heads parents v)

-- the nodes in order
abbrev pub size_steps : List Head → List (List ℕ) → Pass Found
size_steps heads parents = each (size_steps_at heads parents) (range_with_len 0 (length heads))

-- the nodes' potentials and parents: missing tables, the graph and the sizes
abbrev pub links_steps : List Head → List (Option BlockTree) → List (List ℕ) → Pass Found
links_steps heads potentials parents = missing_steps heads potentials
    ▸ graph_steps heads parents ▸ size_steps heads parents

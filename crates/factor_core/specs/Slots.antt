-- Slots and workspaces as contracts see them: the tables that stand in a list of cells.
use Rattle.std.specs.Prelude.{◌≡◌, ℕ, ◌+◌, ◌-◌, ◌<◌, ◌≤◌, Bool, List, [], ◌∷◌, map, filter, take, drop, length}
use Rattle.std.specs.List.{AllZip}
use Rattle.finite_sums.specs.Sums.{World, InRange}
use Rattle.node_sets.specs.Sets.{holds, IsIn}
use Rattle.maid_model.specs.Views.{NodeView, DiagramView, RuleView}
use Rattle.maid_model.specs.Nodes.{states_of, numbers_of, rows_under}
use Rattle.maid_model.specs.Tables.{row_from}
use Rattle.cell_rings.specs.Rings.{Ring}
use Rattle.cell_rings.specs.Sums.{cell_at}
use Rattle.ring_sums.specs.Tables.{Table, IsSame, sum_out}
use Rattle.plan_sums.specs.Plans.{node_table, utility_table}
use Rattle.ring_sums.specs.Groups.{JoinFits, ProductsFit}
use Rattle.factor_core.specs.declared.slots.Slot.{Slot}
use Rattle.factor_core.specs.declared.slots.Strip.{Strip}
use Rattle.cell_rings.specs.declared.cells.Cell.{Ghosts}
use Rattle.factor_core.specs.Operations.{SumFits, cells_of, first_table, product_table, restricted}

-- a workspace: the cells of its tables one after another, and how many cells more it has room for
pub record WorkspaceView (C : Type 0) : Type 0 where
  pub cells : List C
  pub spare : ℕ

-- a list of cells of which the first ones are used
abbrev pub space : {C : Type 0} → List C → ℕ → WorkspaceView C
space all used = record { cells = take used all; spare = length all - used }

-- the nodes of a scope in ascending order, the scope given by its test
abbrev pub nodes_in : List NodeView → (ℕ → Bool) → List ℕ
nodes_in nodes h = filter h (numbers_of nodes)

-- how many cells a table over the scope has: one for each choice of its nodes' states
abbrev pub cells_over : List NodeView → (ℕ → Bool) → ℕ
cells_over nodes h = rows_under (states_of nodes) (nodes_in nodes h)

-- so many cells from a place on
abbrev pub part : {C : Type 0} → List C → ℕ → ℕ → List C
part cells start len = take len (drop start cells)

-- the cell that the world picks in cells that stand with the first of these nodes slowest
abbrev pub picked : {C : Type 0} → Ring C → List NodeView → List ℕ → List C → World → C
picked r nodes vs cells w = cell_at r cells (row_from (states_of nodes) w 0 vs)

-- a slot is live: its nodes are the diagram's, it is as long as they ask, and its range lies in the
-- cells
pub record IsLiveSlot {C : Type 0} (nodes : List NodeView) (cells : List C) (slot : Slot) : Type 0 where
  pub known : (v : ℕ) → IsIn slot.scope v → v < length nodes
  pub size : slot.len ≡ cells_over nodes (holds slot.scope)
  pub within : slot.start + slot.len ≤ length cells

-- the table of a slot: its scope, and the cell that a world picks, the lowest node slowest
abbrev pub table_of : {C : Type 0} → Ring C → List NodeView → List C → Slot → Table C
table_of r nodes cells slot = record {
  holds = holds slot.scope;
  cell = picked r nodes (nodes_in nodes (holds slot.scope)) (part cells slot.start slot.len);
}

-- the tables of the slots
abbrev pub tables_of : {C : Type 0} → Ring C → List NodeView → List C → List Slot → List (Table C)
tables_of r nodes cells slots = map (table_of r nodes cells) slots

-- a state for each node of the slot's scope, in ascending order of the nodes
abbrev pub AreStatesOf : List NodeView → Slot → List ℕ → Type 0
AreStatesOf nodes slot states =
    AllZip (λ v s. s < states_of nodes v) (nodes_in nodes (holds slot.scope)) states

-- the cell of the slot's table at these states of its nodes
abbrev pub IsCellAt : {C : Type 0} → Ring C → List NodeView → List C → Slot → List ℕ → C → Type 0
IsCellAt r nodes cells slot states c = (w : World)
    → map w (nodes_in nodes (holds slot.scope)) ≡ states → c ≡ (table_of r nodes cells slot).cell w

-- the cells of a table with the first of these nodes slowest
pub record HasCells {C : Type 0}
    (r : Ring C) (nodes : List NodeView) (vs : List ℕ) (cells : List C) (t : Table C) : Type 0 where
  pub cell : (w : World) → InRange (states_of nodes) w → picked r nodes vs cells w ≡ t.cell w

-- cells were appended: earlier ones stay, and what is spare is less by as many
pub record Appends {C : Type 0} (before after : WorkspaceView C) (first len : ℕ) : Type 0 where
  pub start : first ≡ length before.cells
  pub kept : take (length before.cells) after.cells ≡ before.cells
  pub longer : length after.cells ≡ length before.cells + len
  pub less : before.spare ≡ after.spare + len

-- the slot, which was live, is live, with the table that it had
pub record StaysLive {C : Type 0}
    (r : Ring C) (nodes : List NodeView) (before after : List C) (slot : Slot) : Type 0 where
  pub live : IsLiveSlot nodes after slot
  pub table : table_of r nodes after slot ≡ table_of r nodes before slot

-- so are all that were live
abbrev pub AllStayLive : {C : Type 0} → Ring C → List NodeView → List C → List C → Type 0
AllStayLive r nodes before after =
    (s : Slot) → IsLiveSlot nodes before s → StaysLive r nodes before after s

-- a table was appended, and the slot is its
pub record AppendsTable {C : Type 0}
    (r : Ring C) (nodes : List NodeView) (before after : WorkspaceView C) (slot : Slot)
    (t : Table C) : Type 0 where
  pub appends : Appends before after slot.start slot.len
  pub live : IsLiveSlot nodes after.cells slot
  pub table : IsSame (states_of nodes) (table_of r nodes after.cells slot) t
  pub stays : AllStayLive r nodes before.cells after.cells

-- the join of the slots with the node summed out of it
abbrev pub join_of : {C : Type 0} → Ring C → List NodeView → ℕ → List C → List Slot → Table C
join_of r nodes v cells slots = sum_out r (states_of nodes) v (tables_of r nodes cells slots)

-- the product of the slots
abbrev pub product_of_slots : {C : Type 0} → Ring C → List NodeView → List C → List Slot → Table C
product_of_slots r nodes cells slots = product_table r (tables_of r nodes cells slots)

-- what was appended to a workspace, told of a list whose first cells are used: those of the slot
-- are used then too
abbrev pub Behind : {C : Type 0} → List C → List C → ℕ → Slot
    → (WorkspaceView C → WorkspaceView C → Slot → Type 0) → Type 0
Behind before after used slot Appended =
    Appended (space before used) (space after (used + slot.len)) slot

-- there is room for the table
abbrev pub HasSpareFor : {C : Type 0} → List NodeView → WorkspaceView C → Table C → Type 0
HasSpareFor nodes space t = cells_over nodes t.holds ≤ space.spare

-- there is room for the join of the slots with the node summed out
abbrev pub HasSpareForJoin :
    {C : Type 0} → Ring C → List NodeView → ℕ → List Slot → WorkspaceView C → Type 0
HasSpareForJoin r nodes v slots space = HasSpareFor nodes space (join_of r nodes v space.cells slots)

-- it was appended
abbrev pub AppendsJoin : {C : Type 0} → Ring C → List NodeView → ℕ → List Slot
    → WorkspaceView C → WorkspaceView C → Slot → Type 0
AppendsJoin r nodes v slots before after slot =
    AppendsTable r nodes before after slot (join_of r nodes v before.cells slots)

-- so was the slot with the node summed out
abbrev pub AppendsSumOf : {C : Type 0} → Ring C → List NodeView → ℕ → Slot
    → WorkspaceView C → WorkspaceView C → Slot → Type 0
AppendsSumOf r nodes v of before after slot = AppendsJoin r nodes v (of ∷ []) before after slot

-- the join's cells fit
abbrev pub JoinOfFits :
    {C : Type 0} → Ring C → List NodeView → ℕ → List Slot → WorkspaceView C → Type 0
JoinOfFits r nodes v slots space =
    JoinFits r.size (states_of nodes) r.most v (tables_of r nodes space.cells slots)

-- there is room for the product of the slots
abbrev pub HasSpareForProduct :
    {C : Type 0} → Ring C → List NodeView → List Slot → WorkspaceView C → Type 0
HasSpareForProduct r nodes slots space =
    HasSpareFor nodes space (product_of_slots r nodes space.cells slots)

-- it was appended
abbrev pub AppendsProduct : {C : Type 0} → Ring C → List NodeView → List Slot
    → WorkspaceView C → WorkspaceView C → Slot → Type 0
AppendsProduct r nodes slots before after slot =
    AppendsTable r nodes before after slot (product_of_slots r nodes before.cells slots)

-- its cells fit, and those of the first factors
abbrev pub ProductOfFits :
    {C : Type 0} → Ring C → List NodeView → List Slot → WorkspaceView C → Type 0
ProductOfFits r nodes slots space =
    ProductsFit r.size (states_of nodes) r.most (tables_of r nodes space.cells slots)

-- the sums over the node's states of the slot's cells fit
abbrev pub SumOfFits :
    {C : Type 0} → Ring C → List NodeView → ℕ → Slot → WorkspaceView C → Type 0
SumOfFits r nodes v slot space = SumFits r (states_of nodes) v (table_of r nodes space.cells slot)

-- the slot's table at one state of a node
abbrev pub restricted_slot :
    {C : Type 0} → Ring C → DiagramView → ℕ → ℕ → WorkspaceView C → Slot → Table C
restricted_slot r d v s space slot = restricted v s (table_of r d.nodes space.cells slot)

-- there is room for it
abbrev pub HasSpareForState :
    {C : Type 0} → Ring C → DiagramView → ℕ → ℕ → Slot → WorkspaceView C → Type 0
HasSpareForState r d v s of space = HasSpareFor d.nodes space (restricted_slot r d v s space of)

-- it was appended
abbrev pub AppendsState : {C : Type 0} → Ring C → DiagramView → ℕ → ℕ → Slot
    → WorkspaceView C → WorkspaceView C → Slot → Type 0
AppendsState r d v s of before after slot =
    AppendsTable r d.nodes before after slot (restricted_slot r d v s before of)

-- the first table of a node, of cells of this kind, was appended
abbrev pub AppendsFirst : {C : Type 0} → Ghosts C → List NodeView → List RuleView → ℕ
    → WorkspaceView C → WorkspaceView C → Slot → Type 0
AppendsFirst kind nodes p v before after slot =
    AppendsTable kind.ring nodes before after slot (first_table (cells_of kind) nodes p v)

-- there is room for it
abbrev pub HasSpareForFirst : {C : Type 0} → Ghosts C → List NodeView → List RuleView → ℕ
    → WorkspaceView C → Type 0
HasSpareForFirst kind nodes p v space =
    HasSpareFor nodes space (first_table (cells_of kind) nodes p v)

-- the table of a chance node or of a decision's rule was appended
abbrev pub AppendsNode : {C : Type 0} → Ghosts C → List NodeView → List RuleView → ℕ
    → WorkspaceView C → WorkspaceView C → Slot → Type 0
AppendsNode kind nodes p v before after slot =
    AppendsTable kind.ring nodes before after slot (node_table (cells_of kind) nodes p v)

-- there is room for it
abbrev pub HasSpareForNode : {C : Type 0} → Ghosts C → List NodeView → List RuleView → ℕ
    → WorkspaceView C → Type 0
HasSpareForNode kind nodes p v space =
    HasSpareFor nodes space (node_table (cells_of kind) nodes p v)

-- the table of a utility was appended
abbrev pub AppendsUtility : {C : Type 0} → Ghosts C → List NodeView → ℕ
    → WorkspaceView C → WorkspaceView C → Slot → Type 0
AppendsUtility kind nodes v before after slot =
    AppendsTable kind.ring nodes before after slot (utility_table (cells_of kind) nodes v)

-- there is room for it
abbrev pub HasSpareForUtility :
    {C : Type 0} → Ghosts C → List NodeView → ℕ → WorkspaceView C → Type 0
HasSpareForUtility kind nodes v space =
    HasSpareFor nodes space (utility_table (cells_of kind) nodes v)

-- the cells of the strip are those of the slot's table, the first of these nodes slowest
abbrev pub HasCellsOf : {C : Type 0} → Ring C → DiagramView → List ℕ → Slot
    → WorkspaceView C → WorkspaceView C → Strip → Type 0
HasCellsOf r d vs slot before after strip = HasCells r d.nodes vs
    (part after.cells strip.start strip.len) (table_of r d.nodes before.cells slot)

-- ---- tables written behind the used cells of a list
-- the join of the slots with the node summed out, in its slot
abbrev pub WritesJoin : {C : Type 0} → Ring C → List NodeView → ℕ → List Slot
    → List C → List C → Slot → Type 0
WritesJoin r nodes v slots before after slot =
    Behind before after slot.start slot (AppendsJoin r nodes v slots)

-- the product of the slots, in its slot
abbrev pub WritesProduct : {C : Type 0} → Ring C → List NodeView → List Slot
    → List C → List C → Slot → Type 0
WritesProduct r nodes slots before after slot =
    Behind before after slot.start slot (AppendsProduct r nodes slots)

-- the first table of a node
abbrev pub WritesFirst : {C : Type 0} → Ghosts C → List NodeView → List RuleView → ℕ
    → List C → List C → ℕ → Slot → Type 0
WritesFirst kind nodes p v before after used slot =
    Behind before after used slot (AppendsFirst kind nodes p v)

-- the table of a chance node or of a decision's rule
abbrev pub WritesNode : {C : Type 0} → Ghosts C → List NodeView → List RuleView → ℕ
    → List C → List C → ℕ → Slot → Type 0
WritesNode kind nodes p v before after used slot =
    Behind before after used slot (AppendsNode kind nodes p v)

-- that of a chance node, which is the same under all rules
abbrev pub WritesChance : {C : Type 0} → Ghosts C → List NodeView → ℕ
    → List C → List C → ℕ → Slot → Type 0
WritesChance kind nodes v before after used slot =
    (p : List RuleView) → WritesNode kind nodes p v before after used slot

-- the slot's table at one state of a node, in a slot of its own
abbrev pub WritesState : {C : Type 0} → Ring C → DiagramView → ℕ → ℕ → Slot
    → List C → List C → Slot → Type 0
WritesState r d v s of before after slot =
    Behind before after slot.start slot (AppendsState r d v s of)

-- the cells of the slot's table, the first of these nodes slowest
abbrev pub WritesStrip : {C : Type 0} → Ring C → DiagramView → List ℕ → Slot
    → List C → List C → ℕ → Strip → Type 0
WritesStrip r d vs slot before after used strip =
    HasCellsOf r d vs slot (space before used) (space after (used + strip.len)) strip

-- the cells of a strip
abbrev pub AppendsStripBehind : {C : Type 0} → List C → List C → ℕ → Strip → Type 0
AppendsStripBehind before after used strip =
    Appends (space before used) (space after (used + strip.len)) strip.start strip.len

-- the slots that were live before a strip are
abbrev pub AllStayLiveBehind :
    {C : Type 0} → Ring C → List NodeView → List C → List C → ℕ → Strip → Type 0
AllStayLiveBehind r nodes before after used strip =
    AllStayLive r nodes (space before used).cells (space after (used + strip.len)).cells

-- a slot's cells are moved behind the used ones: a strip is appended, which has them in the new
-- order, and what was live stays so
pub record MovesBehind {C : Type 0}
    (r : Ring C) (d : DiagramView) (vs : List ℕ) (slot : Slot)
    (before after : List C) (used : ℕ) (strip : Strip) : Type 0
  where
    pub appends : AppendsStripBehind before after used strip
    pub cells : WritesStrip r d vs slot before after used strip
    pub stays : AllStayLiveBehind r d.nodes before after used strip

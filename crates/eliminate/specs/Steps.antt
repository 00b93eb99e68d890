-- What the steps of a run promise one another. Only private contracts cite this file.
use Rattle.std.specs.Prelude.{◌≡◌, ℕ, ◌+◌, ◌<◌, ◌≤◌, not, List, [], ◌∷◌, ◌++◌, map, filter, length, All, sum_by, option_to_list, Some, take}
use Rattle.std.specs.List.{AllZip}
use Rattle.node_sets.specs.Sets.{holds}
use Rattle.maid_model.specs.Nodes.{states_of}
use Rattle.maid_model.specs.Views.{NodeView, RuleView}
use Rattle.cell_rings.specs.declared.cells.Cell.{Ghosts}
use Rattle.cell_rings.specs.Rings.{Ring}
use Rattle.ring_sums.specs.Groups.{JoinFits, StepsFit, StepsHold}
use Rattle.ring_sums.specs.Tables.{Table, IsSame, sum_out, eliminate, scopes_of}
use Rattle.plan_sums.specs.Plans.{Cells, PlanView, ruled_nodes}
use Rattle.factor_core.specs.declared.slots.Slot.{Slot}
use Rattle.factor_core.specs.Operations.{first_table, NumbersFit}
use Rattle.factor_core.specs.Slots.{WorkspaceView, cells_over, IsLiveSlot, tables_of, Appends, AppendsTable, HasSpareForFirst, StaysLive}
use Rattle.size_precheck.specs.Sizes.{made_cells, IsMember, SizedPlan}
use Rattle.eliminate.specs.declared.firsts.Play.{Play}
use Rattle.eliminate.specs.declared.places.Places.{Places}
use Rattle.factor_core.specs.Operations.{cells_of}
use Rattle.eliminate.specs.Places.{slots_at}

-- the slots that hold the node
abbrev pub slots_with : ℕ → List Slot → List Slot
slots_with v slots = filter (λ s. holds s.scope v) slots

-- the slots that do not hold the node
abbrev pub slots_without : ℕ → List Slot → List Slot
slots_without v slots = filter (λ s. not (holds s.scope v)) slots

-- a table was appended, and its slot put behind the others
pub record PutsTable {C : Type 0}
    (r : Ring C) (nodes : List NodeView) (before after : WorkspaceView C) (old new : List Slot)
    (t : Table C) : Type 0 where
  pub slot : Slot
  pub appends : AppendsTable r nodes before after slot t
  pub slots : new ≡ old ++ slot ∷ []

-- the slots that hold the node gave way to their join with the node summed out
abbrev pub GiveWay : {C : Type 0} → Ring C → List NodeView → WorkspaceView C → WorkspaceView C
    → List Slot → List Slot → ℕ → Type 0
GiveWay r nodes before after old new v = PutsTable r nodes before after (slots_without v old) new
    (sum_out r (states_of nodes) v (tables_of r nodes before.cells (slots_with v old)))

-- what that asks
pub record CanJoinOut {C : Type 0}
    (r : Ring C) (nodes : List NodeView) (work : WorkspaceView C) (slots : List Slot) (v : ℕ) : Type
    0 where
  pub live : All (IsLiveSlot nodes work.cells) slots
  pub some : 0 < length (slots_with v slots)
  pub fits :
      JoinFits r.size (states_of nodes) r.most v (tables_of r nodes work.cells (slots_with v slots))
  pub room : cells_over nodes (sum_out r (states_of nodes) v (tables_of r nodes work.cells
      (slots_with v slots))).holds ≤ work.spare

-- since the run began so many cells were appended, and the slots are those of these tables
pub record Stand {C : Type 0}
    (r : Ring C) (nodes : List NodeView) (before now : WorkspaceView C) (spent : ℕ)
    (slots : List Slot) (tables : List (Table C)) : Type 0 where
  pub appends : Appends before now (length before.cells) spent
  pub stays : (s : Slot) → IsLiveSlot nodes before.cells s → StaysLive r nodes before.cells now.cells s
  pub live : All (IsLiveSlot nodes now.cells) slots
  pub same : AllZip (IsSame (states_of nodes)) (tables_of r nodes now.cells slots) tables

-- the nodes of a plan's first tables, in the order of these
abbrev pub first_nodes : List NodeView → PlanView → List ℕ
first_nodes nodes plan = ruled_nodes nodes plan ++ option_to_list plan.utility

-- the plan keeps or eliminates the node, and doesn't leave its rule out
abbrev pub HasOwnTable : SizedPlan → ℕ → Type 0
HasOwnTable made v = IsMember made v × (made.plan.without ≡ Some v → ⊥)

-- the cells of a node's first table
abbrev pub first_cells : {C : Type 0} → Cells C → List NodeView → List RuleView → ℕ → ℕ
first_cells c nodes p v = cells_over nodes (first_table c nodes p v).holds

-- those of a plan's first tables
abbrev pub plan_first_cells :
    {C : Type 0} → Cells C → List NodeView → List RuleView → PlanView → ℕ
plan_first_cells c nodes p plan = sum_by (first_cells c nodes p) (first_nodes nodes plan)

-- among the first tables: those that stand, and those of the nodes to come, are those of all
pub record Lists {C : Type 0}
    (c : Cells C) (nodes : List NodeView) (p : List RuleView) (before now : WorkspaceView C)
    (slots : List Slot) (rest all : List ℕ) : Type 0 where
  pub tables : List (Table C)
  pub spent : ℕ
  pub stand : Stand c.ring nodes before now spent slots tables
  pub leads : tables ++ map (first_table c nodes p) rest ≡ map (first_table c nodes p) all
  pub room : spent + sum_by (first_cells c nodes p) rest ≡ sum_by (first_cells c nodes p) all

-- between steps: the steps to come lead from the tables that stand to what all steps make of the
-- first ones, their sums fit, each finds a table that holds its node, and what they make has room
pub record Between {C : Type 0}
    (r : Ring C) (nodes : List NodeView) (before now : WorkspaceView C) (slots : List Slot)
    (rest steps : List ℕ) (first : List (Table C)) (cells : ℕ) : Type 0 where
  pub tables : List (Table C)
  pub spent : ℕ
  pub stand : Stand r nodes before now spent slots tables
  pub leads : eliminate r (states_of nodes) rest tables ≡ eliminate r (states_of nodes) steps first
  pub fits : StepsFit r r.size (states_of nodes) r.most rest tables
  pub holds : StepsHold r (states_of nodes) rest tables
  pub room : spent + made_cells nodes rest (scopes_of tables) ≡ cells

-- ---- of a play as the program has it
-- the numbers of the node's first table fit
abbrev pub NumbersFitIn : ℕ → Play → ℕ → Type 0
NumbersFitIn most p v = NumbersFit most p.diagram.now.nodes p.profile.now v

-- there is room for the node's first table
abbrev pub HasSpareForTable : {C : Type 0} → Ghosts C → Play → ℕ → WorkspaceView C → Type 0
HasSpareForTable kind p v space = HasSpareForFirst kind p.diagram.now.nodes p.profile.now v space

-- there is room for the plan's first tables
abbrev pub HasSpareForFirsts :
    {C : Type 0} → Ghosts C → Play → PlanView → WorkspaceView C → Type 0
HasSpareForFirsts kind p plan space =
    plan_first_cells (cells_of kind) p.diagram.now.nodes p.profile.now plan ≤ space.spare

-- there is a slot for each of them
abbrev pub HasSlotsForFirsts : Play → PlanView → List Slot → Type 0
HasSlotsForFirsts p plan slots = length (first_nodes p.diagram.now.nodes plan) ≤ length slots

-- the node's first table was appended, and its slot put behind the first so many
abbrev pub PutsFirst : {C : Type 0} → Ghosts C → Play → WorkspaceView C
    → WorkspaceView C → ℕ → List Slot → ℕ → List Slot → ℕ → Type 0
PutsFirst kind p before after count old made new v =
    PutsTable kind.ring p.diagram.now.nodes before after (take count old) (take made new)
    (first_table (cells_of kind) p.diagram.now.nodes p.profile.now v)

-- the slots are those of the plan's first tables
abbrev pub ListsFirst : {C : Type 0} → Ghosts C → Play → SizedPlan
    → WorkspaceView C → WorkspaceView C → List Slot → Type 0
ListsFirst kind p sized before now slots =
    Lists (cells_of kind) p.diagram.now.nodes p.profile.now before now slots []
    (first_nodes p.diagram.now.nodes sized.plan)

-- the live slots that hold the node can give way to their join with the node summed out
abbrev pub CanJoinLive :
    {C : Type 0} → Ring C → Play → WorkspaceView C → Places → List Slot → ℕ → Type 0
CanJoinLive r p work places slots v =
    CanJoinOut r p.diagram.now.nodes work (slots_at places slots) v

-- they did
abbrev pub Joins : {C : Type 0} → Ring C → Play → WorkspaceView C → WorkspaceView C
    → Places → List Slot → Places → List Slot → ℕ → Type 0
Joins r p before after places old left new v =
    GiveWay r p.diagram.now.nodes before after (slots_at places old) (slots_at left new) v

-- The cells of a plan's last table as a decision's gains and masses. Only private functions cite
-- it.
use Rattle.std.specs.Prelude.{◌≡◌, ◌<◌, ◌≤◌, ◌↔◌, ℕ, ◌+◌, ◌*◌, ◌%◌, List, ◌∷◌, Contains, length, slice_index, slice_index_or, ℤ, pos, ◌+ℤ◌, ◌*ℤ◌, nat_abs}
use Rattle.cell_rings.specs.Rings.{Ring}
use Rattle.cell_rings.specs.Sums.{cell_at}
use Rattle.factor_core.specs.declared.slots.Slot.{Slot}
use Rattle.factor_core.specs.Slots.{IsLiveSlot, part, table_of}
use Rattle.finite_sums.specs.Sums.{World, InRange}
use Rattle.maid_model.specs.Diagrams.{greatest_number}
use Rattle.maid_model.specs.Nodes.{parents_of, rows_of, rows_under, states_of}
use Rattle.maid_model.specs.Tables.{cell_of, row_from, row_of}
use Rattle.maid_model.specs.Views.{NodeView}
use Rattle.maid_model.specs.Worlds.{world_of}
use Rattle.node_sets.specs.Sets.{IsIn}
use Rattle.rule_solver.specs.declared.reading.LastTable.{LastTable}

-- a gain for each row and state of the decision
abbrev pub HasGainForEach : List NodeView → ℕ → List ℤ → Type 0
HasGainForEach nodes d gains = length gains ≡ rows_of nodes d * states_of nodes d

-- the gain of a decision at the row and state that a world picks
abbrev pub gain_there : List ℤ → List NodeView → ℕ → World → ℤ
gain_there gains nodes d q = slice_index_or gains (cell_of nodes d q) (pos 0)

-- each gain is greater by the table's number times the factor
pub record AddsTable
    (nodes : List NodeView) (d : ℕ) (number : World → ℤ) (factor : ℕ) (before after : List ℤ) : Type
    0 where
  pub len : length after ≡ length before
  pub each : (q : World) → InRange (states_of nodes) q
      → gain_there after nodes d q ≡ gain_there before nodes d q +ℤ (number q *ℤ pos factor)

-- each mass is the table's number, of which none is below nought, times the factor
pub record PutsMasses
    (nodes : List NodeView) (d : ℕ) (number : World → ℤ) (factor : ℕ) (after : List ℕ) : Type 0
  where
    pub each : (q : World) → InRange (states_of nodes) q
        → slice_index after (row_of nodes d q) ≡ nat_abs (number q) * factor

-- the number of the slot's cell in a world
abbrev pub cell_number :
    {C : Type 0} → (C → ℤ) → Ring C → List NodeView → List C → Slot → World → ℤ
cell_number number r nodes cells slot = λ q. number ((table_of r nodes cells slot).cell q)

-- ---- cell by cell
-- the gain with the number added, times the factor
abbrev pub added_at : List ℤ → ℕ → ℤ → ℕ → ℤ
added_at gains at number factor = slice_index_or gains at (pos 0) +ℤ (number *ℤ pos factor)

-- there is room to add the number, times the factor, to the gain at that place
abbrev pub HasRoomAtPlace : List ℤ → ℕ → ℤ → ℕ → Type 0
HasRoomAtPlace gains at number factor =
    nat_abs (slice_index_or gains at (pos 0)) + nat_abs (number *ℤ pos factor) ≤ greatest_number

-- the number of the cell at that place
abbrev pub number_in_cell : {C : Type 0} → (C → ℤ) → Ring C → List C → ℕ → ℤ
number_in_cell number r cells i = number (cell_at r cells i)

-- there is room to add each number, times the factor, to the gain at its place
abbrev pub HasRoomForEach : (ℕ → ℤ) → ℕ → List ℤ → Type 0
HasRoomForEach number factor gains =
    (i : ℕ) → i < length gains → HasRoomAtPlace gains i (number i) factor

-- each number, times the factor, was added to the gain at its place
abbrev pub AddsEach : (ℕ → ℤ) → ℕ → List ℤ → List ℤ → Type 0
AddsEach number factor before after = (i : ℕ) → i < length before
    → slice_index_or after i (pos 0) ≡ added_at before i (number i) factor

-- each of so many numbers fits, times the factor
abbrev pub FitEach : (ℕ → ℤ) → ℕ → ℕ → Type 0
FitEach number factor n = (i : ℕ) → i < n → nat_abs (number i) * factor ≤ greatest_number

-- each of so many numbers, times the factor, is the mass at its place
abbrev pub PutsEach : (ℕ → ℤ) → ℕ → ℕ → List ℕ → Type 0
PutsEach number factor n after =
    (i : ℕ) → i < n → slice_index after i ≡ nat_abs (number i) * factor

-- each cell's number, times the factor, is the mass at its place
abbrev pub PutsCells :
    {C : Type 0} → (C → ℤ) → Ring C → List C → ℕ → List ℕ → List ℕ → Type 0
PutsCells number r cells factor before after =
    PutsEach (number_in_cell number r cells) factor (length before) after

-- ---- a whole table
-- the table is over these nodes
abbrev pub IsOverNodes : Slot → List ℕ → Type 0
IsOverNodes slot vs = (v : ℕ) → IsIn slot.scope v ↔ Contains vs v

-- there is room to add the table's numbers, times the factor, to the gains
abbrev pub HasRoomToAdd : List NodeView → ℕ → (World → ℤ) → ℕ → List ℤ → Type 0
HasRoomToAdd nodes d number factor gains = (q : World) → InRange (states_of nodes) q
    → nat_abs (gain_there gains nodes d q) + nat_abs (number q *ℤ pos factor) ≤ greatest_number

-- each of the table's numbers fits, times the factor
abbrev pub FitTimes : List NodeView → (World → ℤ) → ℕ → Type 0
FitTimes nodes number factor =
    (q : World) → InRange (states_of nodes) q → nat_abs (number q) * factor ≤ greatest_number

-- ---- the last table of a plan as the program has it
-- its slot is live
abbrev pub HasLiveSlot : {C : Type 0} → LastTable C → Type 0
HasLiveSlot t = IsLiveSlot t.diagram.now.nodes t.work.now.cells t.slot.now

-- its cells
abbrev pub last_cells : {C : Type 0} → LastTable C → List C
last_cells t = part t.work.now.cells t.slot.now.start t.slot.now.len

-- it is over the decision and its parents
abbrev pub IsOverStates : {C : Type 0} → LastTable C → Type 0
IsOverStates t =
    IsOverNodes t.slot.now (t.decision ∷ parents_of t.diagram.now.nodes t.decision)

-- it is over the decision's parents
abbrev pub IsOverRows : {C : Type 0} → LastTable C → Type 0
IsOverRows t = IsOverNodes t.slot.now (parents_of t.diagram.now.nodes t.decision)

-- the number of its cell in a world
abbrev pub number_in : {C : Type 0} → (C → ℤ) → Ring C → LastTable C → World → ℤ
number_in number r t = cell_number number r t.diagram.now.nodes t.work.now.cells t.slot.now

-- there is room to add its numbers, times the factor, to the decision's gains
abbrev pub HasRoomForSlot : {C : Type 0} → (C → ℤ) → Ring C → LastTable C → List ℤ → Type 0
HasRoomForSlot number r t gains =
    HasRoomToAdd t.diagram.now.nodes t.decision (number_in number r t) t.factor gains

-- they were added
abbrev pub AddsSlot : {C : Type 0} → (C → ℤ) → Ring C → LastTable C → List ℤ → List ℤ → Type 0
AddsSlot number r t before after =
    AddsTable t.diagram.now.nodes t.decision (number_in number r t) t.factor before after

-- each of its numbers fits, times the factor
abbrev pub FitsSlot : {C : Type 0} → (C → ℤ) → Ring C → LastTable C → Type 0
FitsSlot number r t = FitTimes t.diagram.now.nodes (number_in number r t) t.factor

-- each of the decision's masses is its number, times the factor
abbrev pub PutsSlot : {C : Type 0} → (C → ℤ) → Ring C → LastTable C → List ℕ → Type 0
PutsSlot number r t after =
    PutsMasses t.diagram.now.nodes t.decision (number_in number r t) t.factor after

-- ---- the nodes of a scope, and their states one after another
-- the row that a list of states gives to these nodes, the first one slowest
abbrev pub row_in : List NodeView → List ℕ → List ℕ → ℕ
row_in nodes vs states = row_from (states_of nodes) (world_of states) 0 vs

-- the nodes' row is the next one, and after the last the first again
abbrev pub IsNextRow : List NodeView → List ℕ → List ℕ → List ℕ → Type 0
IsNextRow nodes vs before after =
    row_in nodes vs after ≡ (row_in nodes vs before + 1) % rows_under (states_of nodes) vs

-- all other nodes keep their states
abbrev pub KeepsOtherStates : List ℕ → List ℕ → List ℕ → Type 0
KeepsOtherStates vs before after =
    (v : ℕ) → (Contains vs v → ⊥) → slice_index after v ≡ slice_index before v

-- A walk that copies cells in another order. Only private contracts cite this file.
use Rattle.std.specs.Prelude.{◌≡◌, ℕ, zero, suc, ◌+◌, ◌-◌, ◌*◌, ◌^◌, ◌<◌, ◌≤◌, ◌==◌, if◌then◌else◌, List, [], ◌∷◌, ◌++◌, map, take, All, length}
use Rattle.maid_model.specs.Views.{NodeView, DiagramView}
use Rattle.maid_model.specs.Nodes.{rows_under, states_of}
use Rattle.plan_sums.specs.Plans.{has}
use Rattle.ring_sums.specs.Tables.{Table}
use Rattle.cell_rings.specs.Rings.{Ring}
use Rattle.cell_rings.specs.Sums.{cell_at}
use Rattle.factor_core.specs.declared.slots.Slot.{Slot}
use Rattle.factor_core.specs.Slots.{picked, WorkspaceView, AppendsTable, Behind}
use Rattle.factor_core.specs.Tables.{states_in}
use Rattle.factor_core.specs.declared.copies.Step.{Step}
use Rattle.factor_core.specs.declared.sources.Source.{Ghosts}
use Rattle.factor_core.specs.declared.tables.Listed.{Listed}

-- f 0, f 1, .., f (n - 1) one after another
abbrev pub one_by_one : {C : Type 0} → ℕ → (ℕ → List C) → List C
one_by_one zero f = []
one_by_one (suc n) f = one_by_one n f ++ f n

-- the cells that the walk reads, the first step slowest
abbrev pub gathered : {C : Type 0} → Ring C → List C → List Step → ℕ → List C
gathered r cells [] from = cell_at r cells from ∷ []
gathered r cells (a ∷ rest) from =
    one_by_one a.states (λ s. gathered r cells rest (from + s * a.stride))

-- how many they are
abbrev pub count_of_steps : List Step → ℕ
count_of_steps [] = 1
count_of_steps (a ∷ rest) = a.states * count_of_steps rest

-- what is copied stands from `start` on, behind what stood there before
abbrev pub HasCopied :
    {C : Type 0} → Ring C → List C → List Step → ℕ → ℕ → List C → List C → Type 0
HasCopied r cells steps from start old new =
    take (start + count_of_steps steps) new ≡ take start old ++ gathered r cells steps from

-- the same of a copy that ended at the place `next`
abbrev pub Gathers : {C : Type 0} → Ring C → List C → List Step → ℕ → List C → ℕ → List C → ℕ → Type 0
Gathers r cells steps from old at new next = take next new ≡ take at old ++ gathered r cells steps from

-- the same over two steps
abbrev pub GathersTwo : {C : Type 0} → Ring C → List C → Step → Step → ℕ → List C → ℕ → List C → ℕ → Type 0
GathersTwo r cells step inner from old at new next =
    Gathers r cells (step ∷ (inner ∷ [])) from old at new next

-- a step: one state or more, and no long stride
pub record IsCopyStep (a : Step) : Type 0 where
  pub some : 0 < a.states
  pub near : a.stride ≤ 2 ^ 32

-- the walk reads before the place n
abbrev pub ReadsBefore : ℕ → List Step → ℕ → Type 0
ReadsBefore n [] from = from < n
ReadsBefore n (a ∷ rest) from = (s : ℕ) → s < a.states → ReadsBefore n rest (from + s * a.stride)

-- the steps of the nodes, with these strides of what is read
abbrev pub steps_of : (ℕ → ℕ) → (ℕ → ℕ) → List ℕ → List Step
steps_of count stride vs = map (λ v. record { states = count v; stride = stride v }) vs

-- what a copy requires: no long step, and room for what is read, which lies before the place n
pub record CanCopy (Fit : Type 0) (n : ℕ) (steps : List Step) (from len at : ℕ) : Type 0 where
  pub fit : Fit
  pub are_steps : All IsCopyStep steps
  pub reads : ReadsBefore n steps from
  pub short : n ≤ 2 ^ 32
  pub room : at + count_of_steps steps ≤ len

-- how far apart the cells of neighbouring states of u stand, in cells with the first of these nodes
-- slowest
abbrev pub list_stride : (ℕ → ℕ) → List ℕ → ℕ → ℕ
list_stride count [] u = 0
list_stride count (x ∷ xs) u = if x == u then rows_under count xs else list_stride count xs u

-- the steps of a copy of such cells to places that stand with the first node of the order slowest
abbrev pub steps_in : List ℕ → List ℕ → List ℕ → List Step
steps_in counts list order = steps_of (states_in counts) (list_stride (states_in counts) list) order

-- the table whose cells stand in that order
abbrev pub list_table : {C : Type 0} → Ring C → List NodeView → List ℕ → List C → Table C
list_table r nodes vs cells = record { holds = has vs; cell = picked r nodes vs cells }

-- the steps are those of the nodes, with these strides
abbrev pub AreStepsOf : List ℕ → (ℕ → ℕ) → List ℕ → List Step → Type 0
AreStepsOf counts stride nodes steps =
    take (length nodes) steps ≡ steps_of (states_in counts) stride nodes

-- the steps are those of a copy of cells that stand with the first of the list slowest
abbrev pub AreListSteps : List ℕ → List ℕ → List ℕ → List Step → Type 0
AreListSteps counts list order steps =
    AreStepsOf counts (list_stride (states_in counts) list) order steps

-- what a copy of all cells to the end of a list requires, from `start` on
abbrev pub CanCopyTo : {C : Type 0} → Type 0 → ℕ → List Step → List C → ℕ → Type 0
CanCopyTo is_fit len steps all start = CanCopy is_fit len steps 0 (length all - start) 0

-- the table of these cells was appended, the first of the nodes slowest
abbrev pub AppendsList : {C : Type 0} → Ring C → List NodeView → List ℕ → List C
    → WorkspaceView C → WorkspaceView C → Slot → Type 0
AppendsList r nodes vs cells before after slot =
    AppendsTable r nodes before after slot (list_table r nodes vs cells)

-- ---- the same of a source
-- what a copy of its cells requires
abbrev pub CanCopyOf : {S C : Type 0} → Ghosts S C → S → List Step → ℕ → List C → ℕ → Type 0
CanCopyOf kind source steps from out at =
    CanCopy (kind.is_fit source) (length (kind.cells source)) steps from (length out) at

-- and of all its cells to the end of a list, from `start` on
abbrev pub CanCopyAllOf : {S C : Type 0} → Ghosts S C → S → List Step → List C → ℕ → Type 0
CanCopyAllOf kind source steps all start =
    CanCopyTo (kind.is_fit source) (length (kind.cells source)) steps all start

-- where they stand with the first of the list slowest, and go to the order's places
abbrev pub CanCopyListOf :
    {S C : Type 0} → Ghosts S C → S → List ℕ → List ℕ → List ℕ → List C → ℕ → Type 0
CanCopyListOf kind source counts list order all start =
    CanCopyAllOf kind source (steps_in counts list order) all start

-- its cells were copied to the places from `at` on, in the order in which they stand
abbrev pub CopiesStraight :
    {S C : Type 0} → Ring C → Ghosts S C → S → List ℕ → List ℕ → ℕ → List C → List C → Type 0
CopiesStraight r kind source counts list at old new =
    HasCopied r (kind.cells source) (steps_in counts list list) 0 at old new

-- they were copied there with the first of the order slowest, from where the first of the list is
-- slowest
abbrev pub CopiesTo : {S C : Type 0}
    → Ring C → Ghosts S C → S → List ℕ → List ℕ → List ℕ → ℕ → List C → List C → Type 0
CopiesTo r kind source counts list order at old new =
    HasCopied r (kind.cells source) (steps_in counts list order) 0 at old new

-- it has a cell for each choice of the nodes' states
abbrev pub HasCellsOver : {S C : Type 0} → Ghosts S C → S → (ℕ → ℕ) → List ℕ → Type 0
HasCellsOver kind source count vs = length (kind.cells source) ≡ rows_under count vs

-- ---- of listed nodes and their source as the program has them
-- the source has a cell for each choice of the nodes' states
abbrev pub HasCellsOfList : {S C : Type 0} → Ghosts S C → DiagramView → Listed S → Type 0
HasCellsOfList kind d listed =
    HasCellsOver kind listed.source.now (states_of d.nodes) listed.list.now

-- there is room for a table over the listed nodes
abbrev pub HasSpareForList : {S C : Type 0} → DiagramView → Listed S → WorkspaceView C → Type 0
HasSpareForList d listed space = rows_under (states_of d.nodes) listed.list.now ≤ space.spare

-- the table of its cells was written behind the used cells of a list
abbrev pub WritesList : {S C : Type 0} → Ring C → Ghosts S C → DiagramView → Listed S
    → List C → List C → ℕ → Slot → Type 0
WritesList r kind d listed before after used slot = Behind before after used slot
    (AppendsList r d.nodes listed.list.now (kind.cells listed.source.now))

-- Limits on cells and work, as private contracts see them. Only these cite this file.
use Rattle.std.specs.Prelude.{◌≡◌, ◌⊎◌, ℕ, ◌+◌, ◌-◌, ◌*◌, ◌<◌, ◌≤◌, Bool, List, [], map, take, length, sum_by, Option, MatchOption, SomeIff, All, IfSome}
use Rattle.std.specs.List.{list_any}
use Rattle.node_sets.specs.declared.sets.NodeSet.{NodeSet}
use Rattle.node_sets.specs.Sets.{holds}
use Rattle.maid_model.specs.Views.{DiagramView, NodeView, RuleView}
use Rattle.cell_rings.specs.declared.cells.Cell.{Ghosts}
use Rattle.cell_rings.specs.Rings.{Ring}
use Rattle.ring_sums.specs.Tables.{joined_without}
use Rattle.plan_sums.specs.Plans.{Cells, mass_cells}
use Rattle.factor_core.specs.declared.slots.Slot.{Slot}
use Rattle.factor_core.specs.Operations.{cells_of, first_table}
use Rattle.factor_core.specs.Slots.{WorkspaceView, AppendsProduct, IsLiveSlot, ProductOfFits}
use Rattle.size_precheck.specs.Counts.{counted_cells}
use Rattle.size_precheck.specs.Greedy.{holding, joined_set}
use Rattle.eliminate.specs.declared.counts.Limits.{Limits}
use Rattle.eliminate.specs.declared.firsts.Play.{Play}
use Rattle.eliminate.specs.declared.places.Places.{Places}
use Rattle.eliminate.specs.Places.{slots_at}
use Rattle.eliminate.specs.Steps.{Lists, first_cells}

-- so many cells and so much work are taken from what is left, where there is as much
abbrev pub Spends : Limits → ℕ → ℕ → Option Limits → Type 0
Spends left cells work result = SomeIff result ((cells ≤ left.cells) × (work ≤ left.work))
    (record { cells = left.cells - cells; work = left.work - work })

-- the scopes of slots
abbrev pub scopes_at : List Slot → List (ℕ → Bool)
scopes_at slots = map (λ s. holds s.scope) slots

-- those of the live ones
abbrev pub live_scopes : Places → List Slot → List (ℕ → Bool)
live_scopes places slots = scopes_at (slots_at places slots)

-- the nodes of the node's first table, which are the same for every kind of cell and for all rules
abbrev pub IsFirstScope : List NodeView → ℕ → NodeSet → Type 0
IsFirstScope nodes v scope = (u : ℕ) → holds scope u ≡ (first_table mass_cells nodes [] v).holds u

-- the cells that a step makes: those of the joined set without the node
abbrev pub step_cells : List NodeView → ℕ → List (ℕ → Bool) → ℕ
step_cells nodes v scopes = counted_cells nodes (joined_without v (holding v scopes))

-- the work of a step: the cells of the joined set times the number of tables joined
abbrev pub step_work : List NodeView → ℕ → List (ℕ → Bool) → ℕ
step_work nodes v scopes = counted_cells nodes (joined_set v scopes) * length (holding v scopes)

-- the cells and the work of a step over those scopes are taken from what is left, where there is as
-- much
abbrev pub SpendsStep : List NodeView → ℕ → List (ℕ → Bool) → Limits → Option Limits → Type 0
SpendsStep nodes v scopes left result =
    Spends left (step_cells nodes v scopes) (step_work nodes v scopes) result

-- the cells of the product of tables over those scopes
abbrev pub product_cells : List NodeView → List (ℕ → Bool) → ℕ
product_cells nodes scopes = counted_cells nodes (λ v. list_any (λ s. s v) scopes)

-- the work of the product: these cells times the number of tables
abbrev pub product_work : List NodeView → List (ℕ → Bool) → ℕ
product_work nodes scopes = product_cells nodes scopes * length scopes

-- the cells and the work of the product over those scopes are taken from what is left, where there
-- is as much
abbrev pub SpendsProduct : List NodeView → List (ℕ → Bool) → Limits → Option Limits → Type 0
SpendsProduct nodes scopes left result =
    Spends left (product_cells nodes scopes) (product_work nodes scopes) result

-- one of the two is more than what is left
abbrev pub IsProductTooMuch : List NodeView → List (ℕ → Bool) → Limits → Type 0
IsProductTooMuch nodes scopes left =
    (left.cells < product_cells nodes scopes) ⊎ (left.work < product_work nodes scopes)

-- among the first tables: what was appended was taken from the limits
pub record ListsWithin {C : Type 0}
    (c : Cells C) (nodes : List NodeView) (p : List RuleView) (before now : WorkspaceView C)
    (slots : List Slot) (rest all : List ℕ) (limits left : Limits) : Type 0 where
  pub lists : Lists c nodes p before now slots rest all
  pub cells : left.cells + lists.spent ≡ limits.cells
  pub work : left.work ≡ limits.work

-- all first tables of these nodes stand, or none is told where their cells pass the limit
abbrev pub ListsOrNone :
    {C : Type 0} → Ghosts C → Play → WorkspaceView C → WorkspaceView C
    → List Slot → List ℕ → Limits → Option Limits → Type 0
ListsOrNone kind p before now slots vs limits result = MatchOption result
    (limits.cells < sum_by (first_cells (cells_of kind) p.diagram.now.nodes p.profile.now) vs)
    (ListsWithin (cells_of kind) p.diagram.now.nodes p.profile.now before now
    (take (length vs) slots) [] vs limits)

-- ---- the product of the live slots
-- what it asks
pub record CanMultiplyLive {C : Type 0}
    (r : Ring C) (d : DiagramView) (work : WorkspaceView C) (places : Places) (slots : List Slot) :
    Type 0 where
  pub live : All (IsLiveSlot d.nodes work.cells) (slots_at places slots)
  pub fits : ProductOfFits r d.nodes (slots_at places slots) work

-- where there is a slot, it is that of their product, which was appended
abbrev pub MultipliesIfSome : {C : Type 0} → Ring C → DiagramView → WorkspaceView C
    → WorkspaceView C → Places → List Slot → Option Slot → Type 0
MultipliesIfSome r d before after places slots result =
    IfSome result (AppendsProduct r d.nodes (slots_at places slots) before after)

-- it asks for more than what is left
abbrev pub AreLiveTooMuch : DiagramView → Places → List Slot → Limits → Type 0
AreLiveTooMuch d places slots left = IsProductTooMuch d.nodes (live_scopes places slots) left

-- Two chance nodes of two states, and tables of small cells over them.
use Rattle.std.specs.Prelude.{ℕ, ◌+◌, ◌≤◌, [], ◌∷◌, List, pos}
use Rattle.finite_sums.specs.Sums.{World, InRange}
use Rattle.maid_model.specs.Nodes.{states_of}
use Rattle.maid_model.specs.Views.{NodeView, DiagramView, diagram_of}
use Rattle.cell_rings.specs.Rings.{Ring}
use Rattle.factor_core.specs.declared.slots.Slot.{Slot}
use Rattle.factor_core.specs.Slots.{WorkspaceView, IsLiveSlot, table_of}
use Rattle.sample_diagrams.specs.Nodes.{chance_node}

-- a chance node of two states without a parent, by its weights
abbrev pub coin_of : ℕ → ℕ → NodeView
coin_of a b = chance_node 2 [] (pos a ∷ pos b ∷ [])

-- two such nodes
abbrev pub two_coins : List NodeView
two_coins = coin_of 2 3 ∷ coin_of 5 7 ∷ []

-- their diagram, of one agent
abbrev pub coins_diagram : DiagramView
coins_diagram = diagram_of two_coins 1 0

-- a live slot of cells of at most that size
pub record IsSmallSlot {C : Type 0}
    (r : Ring C) (cells : List C) (slot : Slot) (most : ℕ) : Type 0 where
  pub live : IsLiveSlot two_coins cells slot
  pub sizes : (w : World) → InRange (states_of two_coins) w
      → r.size ((table_of r two_coins cells slot).cell w) ≤ most

-- slots that were small still are
abbrev pub AllStaySmall : {C : Type 0} → Ring C → WorkspaceView C → WorkspaceView C → Type 0
AllStaySmall r before after =
    (s : Slot) (b : ℕ) → IsSmallSlot r before.cells s b → IsSmallSlot r after.cells s b

-- a table of such cells was made, four at most, and slots that were small still are
pub record GrowsByFour {C : Type 0}
    (r : Ring C) (before after : WorkspaceView C) (slot : Slot) (most : ℕ) : Type 0 where
  pub small : IsSmallSlot r after.cells slot most
  pub spare : before.spare ≤ after.spare + 4
  pub stays : AllStaySmall r before after

-- The product of the live slots: its cells as the limits count them, and its room.
use Rattle.std.proofs.Common.{◌≡◌, ◌∙◌, ℕ, ◌≤◌, Bool, List, Option, Some, None, sym, ap, inl, inr, arith}
use Rattle.std.specs.Prelude.{IfSome}
use Rattle.std.specs.List.{list_any}
use Rattle.std.proofs.Math.Path.{fun_ext}
use Rattle.node_sets.specs.declared.sets.NodeSet.{NodeSet}
use Rattle.node_sets.specs.Sets.{holds}
use Rattle.maid_model.specs.declared.limits.TheConstants.{MOST_PLAN_CELLS}
use Rattle.maid_model.specs.Views.{NodeView}
use Rattle.cell_rings.specs.Rings.{Ring}
use Rattle.ring_sums.specs.Tables.{Table, joined}
use Rattle.ring_sums.proofs.Same.{any_map}
use Rattle.factor_core.specs.declared.slots.Slot.{Slot}
use Rattle.factor_core.specs.Slots.{WorkspaceView, cells_over, table_of, tables_of, HasSpareForProduct}
use Rattle.size_precheck.specs.Counts.{counted_cells}
use Rattle.eliminate.specs.declared.counts.Limits.{Limits}
use Rattle.eliminate.specs.Limits.{SpendsProduct, IsProductTooMuch, scopes_at, product_cells, product_work}
use Rattle.eliminate.proofs.Sizes.{cells_exact}
use Rattle.eliminate.proofs.Within.{one_passes}

module _ (nodes : List NodeView) (slots : List Slot) where
  united : (u : ℕ) → list_any (λ s. holds s.scope u) slots ≡ list_any (λ k. k u) (scopes_at slots)
  united u = sym (any_map (λ k. k u) (λ (s : Slot). holds s.scope) slots)

  -- a count over the nodes of the slots
  pub product_counted : (scope : NodeSet) → ((u : ℕ) → holds scope u ≡ list_any (λ s. holds s.scope u) slots) → counted_cells nodes (holds scope) ≡ product_cells nodes (scopes_at slots)
  product_counted scope are = ap (counted_cells nodes) (fun_ext (λ u. are u ∙ united u))

  -- where it is within the limits, it has not stopped, and the product has room
  pub product_room : {C : Type 0} (r : Ring C) (work : WorkspaceView C) (left : Limits) → product_cells nodes (scopes_at slots) ≤ left.cells → left.cells ≤ MOST_PLAN_CELLS → left.cells ≤ work.spare → HasSpareForProduct r nodes slots work
  product_room {C} r work left enough small room =
      omega (arith, cells_exact nodes (λ u. list_any (λ k. k u) (scopes_at slots)) (omega (arith, enough, small)), ap (cells_over nodes) (fun_ext same), enough, room)
    where
      same : (u : ℕ) → joined (tables_of r nodes work.cells slots) u ≡ list_any (λ k. k u) (scopes_at slots)
      same u = any_map (λ (t : Table C). t.holds u) (table_of r nodes work.cells) slots ∙ united u

-- where the limits refuse it, it asks for too much, and where they allow it, it doesn't
module _ (nodes : List NodeView) (scopes : List (ℕ → Bool)) (left : Limits) where
  pub product_refused : SpendsProduct nodes scopes left None → IsProductTooMuch nodes scopes left
  product_refused = one_passes (product_cells nodes scopes) (product_work nodes scopes) left.cells left.work

  pub product_allowed : {next : Limits} → SpendsProduct nodes scopes left (Some next) → IsProductTooMuch nodes scopes left → ⊥
  product_allowed told (inl l) = omega (arith, told.0.0, l)
  product_allowed told (inr l) = omega (arith, told.0.1, l)

-- what holds of the value where there is one
pub each_some : {X : Type 0} {P Q : X → Type 0} (o : Option X) → ((x : X) → P x → Q x) → IfSome o P → IfSome o Q
each_some None h m = tt
each_some (Some x) h m = h x m

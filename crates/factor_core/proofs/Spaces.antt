-- A workspace as a list of cells of which the first are used: what was written behind them was
-- appended to it.
use Rattle.std.proofs.Common.{◌≡◌, ◌∙◌, ℕ, ◌+◌, ◌-◌, ◌≤◌, List, take, length, sym, ap, subst, arith}
use Rattle.std.proofs.lemmas.List.{with_items_is}
use Rattle.std.specs.Global.{Vec}
use Rattle.std.specs.Vec.{vec_len, with_items}
use Rattle.cell_rings.specs.Rings.{Ring}
use Rattle.maid_model.specs.Nodes.{states_of}
use Rattle.maid_model.specs.Views.{NodeView}
use Rattle.ring_sums.specs.Tables.{Table, IsSame}
use Rattle.factor_core.specs.declared.slots.Slot.{Slot}
use Rattle.factor_core.specs.Slots.{WorkspaceView, space, table_of, IsLiveSlot, Appends, AllStayLive, AppendsTable}

-- so many cells used of those, in so much room
abbrev pub view_of : {C : Type 0} → List C → ℕ → ℕ → WorkspaceView C
view_of cells used room = record { cells = take used cells; spare = room - used }

-- the used cells are the workspace's, also where cells were written behind them
pub used_cells : {C : Type 0} (v : WorkspaceView C) (items blanked all : List C) (used room : ℕ) → view_of items used room ≡ v → take used blanked ≡ take used items → all ≡ blanked → take used all ≡ v.cells
used_cells v items blanked all used room is first same = ap (take used) same ∙ first ∙ ap (λ w. w.cells) is

module _ {C : Type 0} (v : WorkspaceView C) (items before after : List C) (memory : Vec C) (used len room : ℕ) (is : view_of items used room ≡ v) (cells : take used before ≡ v.cells) (long : length after ≡ vec_len memory) (within : used + len ≤ room) where
  -- the workspace's cells afterwards are those of the list
  pub cells_after : (view_of (with_items memory after).items (used + len) room).cells ≡ take (used + len) after
  cells_after = ap (take (used + len)) (with_items_is memory after long)

  -- cells appended to the used ones were appended to the workspace, which has more room
  pub as_appends : (first : ℕ) → Appends (space before used) (space after (used + len)) first len → Appends v (view_of (with_items memory after).items (used + len) room) first len
  as_appends first a =
      let spare : v.spare ≡ room - used = sym (ap (λ w. w.spare) is) in
      record {
        start = a.start ∙ ap length cells;
        kept = ap (take (length v.cells)) cells_after ∙ subst (λ cs. take (length cs) (take (used + len) after) ≡ cs) cells a.kept;
        longer = ap length cells_after ∙ a.longer ∙ ap (λ cs. length cs + len) cells;
        less = (omega (arith, spare, within));
      }

-- so was a table, which may depend on the cells before it
pub as_appended : {C : Type 0} (r : Ring C) (nodes : List NodeView) (t : List C → Table C) (v : WorkspaceView C) (items before after : List C) (memory : Vec C) (used room : ℕ) (slot : Slot)
    → view_of items used room ≡ v → take used before ≡ v.cells → length after ≡ vec_len memory → used + slot.len ≤ room
    → AppendsTable r nodes (space before used) (space after (used + slot.len)) slot (t (take used before))
    → AppendsTable r nodes v (view_of (with_items memory after).items (used + slot.len) room) slot (t v.cells)
as_appended r nodes t v items before after memory used room slot is cells long within a =
    let now = cells_after v items before after memory used slot.len room is cells long within in
    record {
      appends = as_appends v items before after memory used slot.len room is cells long within slot.start a.appends;
      live = subst (λ cs. IsLiveSlot nodes cs slot) (sym now) a.live;
      table = subst (λ cs. IsSame (states_of nodes) (table_of r nodes cs slot) (t v.cells)) (sym now)
          (subst (λ cs. IsSame (states_of nodes) (table_of r nodes (take (used + slot.len) after) slot) (t cs)) cells a.table);
      stays = subst (λ cs. AllStayLive r nodes v.cells cs) (sym now)
          (subst (λ cs. AllStayLive r nodes cs (take (used + slot.len) after)) cells a.stays);
    }

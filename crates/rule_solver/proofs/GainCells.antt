-- A table's cells added to a decision's gains.
use Rattle.std.proofs.Common.{◌≡◌, ◌∙◌, ◌↔◌, ℕ, ◌+◌, ◌%◌, ◌<◌, ◌≤◌, List, ◌∷◌, length, get_or, set, sym, ap, subst, ℤ, pos, ◌+ℤ◌, ◌*ℤ◌, arith}
use Rattle.std.specs.Prelude.{Contains, nat_abs}
use Rattle.cell_rings.specs.Rings.{Ring}
use Rattle.cell_rings.specs.Sums.{cell_at}
use Rattle.finite_sums.specs.Sums.{World, InRange}
use Rattle.node_sets.specs.Sets.{holds, IsIn}
use Rattle.factor_core.specs.declared.slots.Slot.{Slot}
use Rattle.factor_core.specs.Slots.{IsLiveSlot, nodes_in, part, table_of}
use Rattle.maid_model.specs.Diagrams.{greatest_number}
use Rattle.maid_model.specs.Nodes.{states_of, counts_of, parents_of, rows_under}
use Rattle.maid_model.specs.Tables.{row_from, cell_of}
use Rattle.maid_model.specs.Views.{NodeView}
use Rattle.maid_model.specs.Worlds.{IsWorld, world_of, first_world}
use Rattle.rule_solver.specs.Reading.{AddsTable, gain_there}
use Rattle.rule_solver.proofs.TableCells.{StandsAt, DoneTo, slot_cells, length-part, first_stands, next_stands, none_done, one_done}
use Rattle.rule_solver.proofs.WorldRows.{world_in_range, row_below}

-- what is added is the number itself
pub sum_set : {after : List ℤ} {x y : ℤ} (now : List ℤ) (at factor : ℕ) → after ≡ set now at (get_or now at (pos 0) +ℤ (x *ℤ pos factor)) → x ≡ y → after ≡ set now at (get_or now at (pos 0) +ℤ (y *ℤ pos factor))
sum_set now at factor is e = is ∙ ap (λ z. set now at (get_or now at (pos 0) +ℤ (z *ℤ pos factor))) e

-- a gain with the table's cell added
abbrev pub gain_with : {C : Type 0} → Ring C → (C → ℤ) → List NodeView → ℕ → List C → Slot → ℕ → List ℤ → World → ℤ
gain_with r number nodes d cells slot factor before q = gain_there before nodes d q +ℤ (number ((table_of r nodes cells slot).cell q) *ℤ pos factor)

-- the cells before the place have been added, and the world picks the one there
pub record GainsSoFar {C : Type 0} (r : Ring C) (number : C → ℤ) (nodes : List NodeView) (d : ℕ) (cells : List C) (slot : Slot) (factor : ℕ) (before now : List ℤ) (world : List ℕ) (place : ℕ) : Type 0 where
  pub stands : StandsAt nodes (nodes_in nodes (holds slot.scope)) world place
  pub done : DoneTo (states_of nodes) (nodes_in nodes (holds slot.scope)) (cell_of nodes d) (pos 0) (gain_with r number nodes d cells slot factor before) before now place

module _ {C : Type 0} (r : Ring C) (number : C → ℤ) (nodes : List NodeView) (d : ℕ) (cells : List C) (slot : Slot) (factor : ℕ) (before : List ℤ) (live : IsLiveSlot nodes cells slot)
    (scope : (v : ℕ) → IsIn slot.scope v ↔ Contains (d ∷ parents_of nodes d) v) where
  pub no_gains : (world : List ℕ) → IsWorld (counts_of nodes) world → world ≡ first_world (length nodes) → GainsSoFar r number nodes d cells slot factor before before world 0
  no_gains world w e = record {
    stands = first_stands nodes (nodes_in nodes (holds slot.scope)) world w e;
    done = none_done (states_of nodes) (nodes_in nodes (holds slot.scope)) (cell_of nodes d) (pos 0) (gain_with r number nodes d cells slot factor before) before;
  }

  pub all_gains : (now : List ℤ) (world : List ℕ) (place : ℕ) (items : List C) → GainsSoFar r number nodes d cells slot factor before now world place → items ≡ part cells slot.start slot.len → length items ≤ place
      → AddsTable nodes d (λ q. number ((table_of r nodes cells slot).cell q)) factor before now
  all_gains now world place items s items_are end = record {
    len = s.done.len;
    each = λ q i. s.done.done q i (omega (arith, row_below (states_of nodes) q i (nodes_in nodes (holds slot.scope)), ap length items_are, length-part nodes cells slot live));
  }

  -- ---- the cell at the place
  module _ (now : List ℤ) (world : List ℕ) (place : ℕ) (s : GainsSoFar r number nodes d cells slot factor before now world place) (items : List C) (items_are : items ≡ part cells slot.start slot.len) (some : place < length items)
      (at : ℕ) (at_is : at ≡ cell_of nodes d (world_of world)) where
    row_is : row_from (states_of nodes) (world_of world) 0 (nodes_in nodes (holds slot.scope)) ≡ place
    row_is = s.stands.row (omega (arith, ap length items_are, length-part nodes cells slot live))

    range : InRange (states_of nodes) (world_of world)
    range = world_in_range nodes world s.stands.world

    -- it is the table's
    cell_is : get_or items place r.nought ≡ (table_of r nodes cells slot).cell (world_of world)
    cell_is = λ k. get_or (items_are k) (sym row_is k) r.nought

    -- its gain is as it was
    gain_is : get_or now at (pos 0) ≡ gain_there before nodes d (world_of world)
    gain_is = ap (λ p. get_or now p (pos 0)) at_is ∙ s.done.kept (world_of world) range (omega (arith, row_is))

    pub gain_fits : ((q : World) → InRange (states_of nodes) q → nat_abs (gain_there before nodes d q) + nat_abs (number ((table_of r nodes cells slot).cell q) *ℤ pos factor) ≤ greatest_number)
        → nat_abs (get_or now at (pos 0)) + nat_abs (number (get_or items place r.nought) *ℤ pos factor) ≤ greatest_number
    gain_fits room =
        subst (λ g. nat_abs g + nat_abs (number (get_or items place r.nought) *ℤ pos factor) ≤ greatest_number) (sym gain_is)
        (subst (λ (c : C). nat_abs (gain_there before nodes d (world_of world)) + nat_abs (number c *ℤ pos factor) ≤ greatest_number) (sym cell_is) (room (world_of world) range))

    pub gains_step : (after : List ℤ) (new us : List ℕ) → at < length now → after ≡ set now at (get_or now at (pos 0) +ℤ (number (get_or items place r.nought) *ℤ pos factor))
        → us ≡ nodes_in nodes (holds slot.scope) → IsWorld (counts_of nodes) new
        → row_from (states_of nodes) (world_of new) 0 us ≡ (row_from (states_of nodes) (world_of world) 0 us + 1) % rows_under (states_of nodes) us
        → GainsSoFar r number nodes d cells slot factor before after new (place + 1)
    gains_step after new us inside is e w row = record {
      stands = next_stands nodes (nodes_in nodes (holds slot.scope)) us world new place e s.stands w row;
      done =
          subst (λ g. DoneTo (states_of nodes) (nodes_in nodes (holds slot.scope)) (cell_of nodes d) (pos 0) (gain_with r number nodes d cells slot factor before) before g (place + 1))
          (sym (is ∙ ap (λ p. set now p (get_or now at (pos 0) +ℤ (number (get_or items place r.nought) *ℤ pos factor))) at_is))
          (one_done (states_of nodes) (nodes_in nodes (holds slot.scope)) (cell_of nodes d) (pos 0) (gain_with r number nodes d cells slot factor before) before now place (world_of world) (get_or now at (pos 0) +ℤ (number (get_or items place r.nought) *ℤ pos factor))
          (slot_cells nodes cells slot d live scope) range
          (λ q f g. λ k. get_or before (g k) (pos 0) +ℤ (number (cell_at r (part cells slot.start slot.len) (f k)) *ℤ pos factor))
          row_is (subst (λ p. p < length now) at_is inside)
          (λ k. gain_is k +ℤ (number (cell_is k) *ℤ pos factor))
          s.done);
    }

-- A table's cells written as a decision's masses.
use Rattle.std.proofs.Common.{◌≡◌, ◌∙◌, ◌↔◌, ℕ, ◌+◌, ◌*◌, ◌%◌, ◌<◌, ◌≤◌, List, length, get_or, set, sym, ap, subst, ℤ, arith}
use Rattle.std.specs.Prelude.{Contains, nat_abs}
use Rattle.cell_rings.specs.Rings.{Ring}
use Rattle.cell_rings.specs.Sums.{cell_at}
use Rattle.finite_sums.specs.Sums.{World, InRange}
use Rattle.node_sets.specs.Sets.{holds, IsIn}
use Rattle.factor_core.specs.declared.slots.Slot.{Slot}
use Rattle.factor_core.specs.Slots.{IsLiveSlot, nodes_in, part, table_of}
use Rattle.maid_model.specs.Diagrams.{greatest_number}
use Rattle.maid_model.specs.Nodes.{states_of, counts_of, parents_of, rows_of, rows_under}
use Rattle.maid_model.specs.Tables.{row_from, row_of}
use Rattle.maid_model.specs.Views.{NodeView}
use Rattle.maid_model.specs.Worlds.{IsWorld, world_of, first_world}
use Rattle.rule_solver.specs.Reading.{PutsMasses}
use Rattle.rule_solver.proofs.TableCells.{StandsAt, DoneTo, slot_rows, length-part, first_stands, next_stands, none_done, one_done}
use Rattle.rule_solver.proofs.WorldRows.{world_in_range, row_below}

-- the mass is made of the number itself
pub mass_made : {mass : ℕ} {x y : ℤ} (factor : ℕ) → mass ≡ nat_abs x * factor → x ≡ y → mass ≡ nat_abs y * factor
mass_made factor is e = is ∙ ap (λ z. nat_abs z * factor) e

-- the mass that the number in the table's cell makes
abbrev pub mass_of_cell : {C : Type 0} → Ring C → (C → ℤ) → List NodeView → List C → Slot → ℕ → World → ℕ
mass_of_cell r number nodes cells slot factor q = nat_abs (number ((table_of r nodes cells slot).cell q)) * factor

-- the cells before the place have been written, and the world picks the one there
pub record MassesSoFar {C : Type 0} (r : Ring C) (number : C → ℤ) (nodes : List NodeView) (d : ℕ) (cells : List C) (slot : Slot) (factor : ℕ) (before now world : List ℕ) (place : ℕ) : Type 0 where
  pub stands : StandsAt nodes (nodes_in nodes (holds slot.scope)) world place
  pub done : DoneTo (states_of nodes) (nodes_in nodes (holds slot.scope)) (row_of nodes d) 0 (mass_of_cell r number nodes cells slot factor) before now place

module _ {C : Type 0} (r : Ring C) (number : C → ℤ) (nodes : List NodeView) (d : ℕ) (cells : List C) (slot : Slot) (factor : ℕ) (before : List ℕ) (live : IsLiveSlot nodes cells slot)
    (scope : (v : ℕ) → IsIn slot.scope v ↔ Contains (parents_of nodes d) v) where
  pub no_masses : (world : List ℕ) → IsWorld (counts_of nodes) world → world ≡ first_world (length nodes) → MassesSoFar r number nodes d cells slot factor before before world 0
  no_masses world w e = record {
    stands = first_stands nodes (nodes_in nodes (holds slot.scope)) world w e;
    done = none_done (states_of nodes) (nodes_in nodes (holds slot.scope)) (row_of nodes d) 0 (mass_of_cell r number nodes cells slot factor) before;
  }

  pub all_masses : (now world : List ℕ) (place : ℕ) (items : List C) → MassesSoFar r number nodes d cells slot factor before now world place → items ≡ part cells slot.start slot.len → length items ≤ place
      → PutsMasses nodes d (λ q. number ((table_of r nodes cells slot).cell q)) factor now
  all_masses now world place items s items_are end = record {
    each = λ q i. s.done.done q i (omega (arith, row_below (states_of nodes) q i (nodes_in nodes (holds slot.scope)), ap length items_are, length-part nodes cells slot live));
  }

  -- ---- the cell at the place
  module _ (now world : List ℕ) (place : ℕ) (s : MassesSoFar r number nodes d cells slot factor before now world place) (items : List C) (items_are : items ≡ part cells slot.start slot.len) (some : place < length items) where
    place_is : row_from (states_of nodes) (world_of world) 0 (nodes_in nodes (holds slot.scope)) ≡ place
    place_is = s.stands.row (omega (arith, ap length items_are, length-part nodes cells slot live))

    range : InRange (states_of nodes) (world_of world)
    range = world_in_range nodes world s.stands.world

    -- it is the table's
    cell_is : get_or items place r.nought ≡ (table_of r nodes cells slot).cell (world_of world)
    cell_is = λ k. get_or (items_are k) (sym place_is k) r.nought

    pub mass_fits : ((q : World) → InRange (states_of nodes) q → nat_abs (number ((table_of r nodes cells slot).cell q)) * factor ≤ greatest_number) → nat_abs (number (get_or items place r.nought)) * factor ≤ greatest_number
    mass_fits room = subst (λ (c : C). nat_abs (number c) * factor ≤ greatest_number) (sym cell_is) (room (world_of world) range)

    module _ (row : ℕ) (row_is : row ≡ row_of nodes d (world_of world)) (all : length before ≡ rows_of nodes d) where
      pub row_within : row < length now
      row_within = omega (arith, row_is, all, s.done.len, row_below (states_of nodes) (world_of world) range (parents_of nodes d))

      pub masses_step : (new us : List ℕ) → us ≡ nodes_in nodes (holds slot.scope) → IsWorld (counts_of nodes) new
          → row_from (states_of nodes) (world_of new) 0 us ≡ (row_from (states_of nodes) (world_of world) 0 us + 1) % rows_under (states_of nodes) us
          → MassesSoFar r number nodes d cells slot factor before (set now row (nat_abs (number (get_or items place r.nought)) * factor)) new (place + 1)
      masses_step new us e w next = record {
        stands = next_stands nodes (nodes_in nodes (holds slot.scope)) us world new place e s.stands w next;
        done =
            subst (λ x. DoneTo (states_of nodes) (nodes_in nodes (holds slot.scope)) (row_of nodes d) 0 (mass_of_cell r number nodes cells slot factor) before (set now x (nat_abs (number (get_or items place r.nought)) * factor)) (place + 1)) (sym row_is)
            (one_done (states_of nodes) (nodes_in nodes (holds slot.scope)) (row_of nodes d) 0 (mass_of_cell r number nodes cells slot factor) before now place (world_of world) (nat_abs (number (get_or items place r.nought)) * factor)
            (slot_rows nodes cells slot d live scope) range
            (λ q f g. λ k. nat_abs (number (cell_at r (part cells slot.start slot.len) (f k))) * factor)
            place_is (subst (λ x. x < length now) row_is row_within)
            (λ k. nat_abs (number (cell_is k)) * factor)
            s.done);
      }

-- The walk of a product may begin, and what it adds are the cells of the product.
use Rattle.std.proofs.Common.{◌≡◌, ℕ, ◌+◌, ◌<◌, false, List, length, get_or, sym, ap, ◌∙◌, arith}
use Rattle.std.specs.Prelude.{All}
use Rattle.std.proofs.lemmas.List.{length-map}
use Rattle.cell_rings.specs.Rings.{Ring, IsRing, IsSize, mass_ring}
use Rattle.cell_rings.specs.Sums.{cell_at, product_at, sizes_of, AddsCells}
use Rattle.cell_rings.specs.RingLaws.{mass_is_ring}
use Rattle.factor_core.specs.Walks.{total, CanWalk}
use Rattle.node_sets.specs.Sets.{holds}
use Rattle.finite_sums.specs.Sums.{World, InRange}
use Rattle.factor_core.specs.Tables.{states_in, stride_of, out_place, listed, axes_of, stride_rows, stride_row, starts_of, place_of, product_cell, CanMultiply}
use Rattle.factor_core.specs.declared.walks.Axis.{Axis}
use Rattle.node_sets.specs.declared.sets.NodeSet.{NodeSet}
use Rattle.factor_core.specs.declared.slots.Slot.{Slot}
use Rattle.factor_core.proofs.Collapse.{IsNoneOf, AllOnce, IsRadix, total_at, picked_kept}
use Rattle.factor_core.proofs.Joining.{place_along_kept}
use Rattle.factor_core.proofs.Ordering.{listed_once, listed_below, radix_listed}
use Rattle.factor_core.proofs.FillWalk.{any_false, no_slot, rows_are, CanFill, LeadsAlong, moved_is, begins_with, fills_with}

-- a number that is beyond the nodes is none of them
none_beyond : (n : ℕ) (vs : List ℕ) → All (λ v. v < n) vs → IsNoneOf n vs
none_beyond n vs h = record { none = λ i l e. let below = h i 0 l in omega (arith, e) }

module _ {C : Type 0} {r : Ring C} (laws : IsRing r) (sizes : IsSize r r.size) {cells : List C} {counts : List ℕ} {slots : List Slot} {scope : NodeSet} {out : List C} (can : CanMultiply r cells counts slots scope out) where
  abbrev n : ℕ
  n = length counts

  abbrev count : ℕ → ℕ
  count = states_in counts

  abbrev stride : ℕ → ℕ
  stride = stride_of (states_in counts) (length counts) (holds scope)

  abbrev row : ℕ → List ℕ
  row = stride_row counts slots

  abbrev pub order : List ℕ
  order = listed (holds scope) 0 (length counts)

  order_once : AllOnce order
  order_once = listed_once (holds scope) n 0

  order_below : All (λ v. v < length counts) order
  order_below = listed_below (holds scope) n n 0 (omega arith)

  order_radix : IsRadix count stride row (length slots) (rows_are counts slots) n order
  order_radix = radix_listed count n n (holds scope) can.is_union.beyond row (length slots) (rows_are counts slots) n 0 (omega arith)

  -- a slot's node is in the scope
  covers : (i : ℕ) → i < length slots → (u : ℕ) → u < length counts → holds scope u ≡ false → holds (get_or slots i (no_slot scope)).scope u ≡ false
  covers i l u below f = any_false (λ s. holds s.scope u) slots (no_slot scope) (sym (can.is_union.within u below) ∙ f) i l

  fill : CanFill r cells counts slots scope out
  fill = record {
    are_counts = can.are_counts;
    live = can.live;
    small = can.small;
    few_cells = can.few_cells;
    size = can.size;
    short_out = can.short_out;
    nought = can.nought;
    products = can.fits.products;
  }

  leads : LeadsAlong counts slots scope n order
  leads = record {
    below = order_below;
    once = order_once;
    radix = order_radix;
    slot = λ i l w. place_along_kept count n (holds (get_or slots i (no_slot scope)).scope) (holds scope) w can.is_union.beyond (covers i l);
    out = λ w. place_along_kept count n (holds scope) (holds scope) w can.is_union.beyond (λ u below f. f);
  }

  -- what the walk adds at a world's place
  adds_at : {D : Type 0} (s : Ring D) (s_laws : IsRing s) (ds : List D) (w : World) → InRange count w → total s ds (axes_of count stride order) (stride_rows row order) (starts_of slots) 0 (0 + out_place stride order w) ≡ product_cell s ds counts slots w
  adds_at s s_laws ds w ok =
      total_at count stride row (length slots) (rows_are counts slots) s s_laws ds n order (starts_of slots) 0 w order_radix (length-map slots (λ s. s.start)) ok
      ∙ picked_kept count stride row (length slots) (rows_are counts slots) s s_laws ds n order (starts_of slots) w (none_beyond n order order_below)
      ∙ ap (product_at s ds) (moved_is fill leads w)

  -- lists that are those of the order
  module _ {axes : List Axis} {strides places : List ℕ} (are_axes : axes ≡ axes_of count stride order) (are_strides : strides ≡ stride_rows row order) (are_places : places ≡ starts_of slots) where
    pub can_begin : CanWalk r cells axes strides places out 0
    can_begin = begins_with fill leads are_axes are_strides are_places sizes (λ w ok. omega (arith, adds_at mass_ring mass_is_ring (sizes_of r cells) w ok, can.fits.whole w ok))

    pub multiplies_with : {new : List C} → AddsCells r (total r cells axes strides places 0) out new → (w : World) → InRange count w → cell_at r new (place_of counts scope w) ≡ product_cell r cells counts slots w
    multiplies_with adds w ok = fills_with fill leads are_axes are_strides are_places laws adds w ∙ adds_at r laws cells w ok

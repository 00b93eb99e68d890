-- The walk of a join may begin, and what it adds are the cells of the join: the joined node stands
-- in the order of the others.
use Rattle.std.proofs.Common.{◌≡◌, ℕ, suc, ◌+◌, ◌-◌, ◌<◌, false, cond, List, [], ◌∷◌, ◌++◌, take, drop, length, get_or, refl, sym, ap, subst, ◌∙◌, arith, inl, inr}
use Rattle.std.specs.Prelude.{All}
use Rattle.std.specs.List.{list_any}
use Rattle.std.proofs.lemmas.List.{take-append-drop, length-map}
use Rattle.cell_rings.specs.Rings.{Ring, IsRing, IsSize, mass_ring}
use Rattle.cell_rings.specs.Sums.{cell_at, product_at, sizes_of, AddsCells}
use Rattle.cell_rings.specs.RingLaws.{mass_is_ring}
use Rattle.cell_rings.proofs.Runs.{not_chosen, chosen}
use Rattle.factor_core.specs.Walks.{total, CanWalk}
use Rattle.node_sets.specs.Sets.{holds}
use Rattle.finite_sums.specs.Sums.{World, InRange, with_state}
use Rattle.factor_core.specs.Tables.{states_in, size_from, stride_of, moved, out_place, listed, with_extra, axes_of, stride_rows, stride_row, starts_of, place_of, places_in, join_cell, CanJoin}
use Rattle.factor_core.specs.declared.walks.Axis.{Axis}
use Rattle.node_sets.specs.declared.sets.NodeSet.{NodeSet}
use Rattle.factor_core.specs.declared.slots.Slot.{Slot}
use Rattle.cell_rings.proofs.Together.{ring_sum_cong}
use Rattle.factor_core.proofs.Collapse.{IsNoneOf, AllOnce, IsRadix, IsAmong, total_is}
use Rattle.factor_core.proofs.Joining.{place_along}
use Rattle.factor_core.proofs.StrideRows.{axes_with}
use Rattle.factor_core.proofs.Ordering.{listed_none, listed_once, listed_below, once_among, all_among, radix_among, radix_listed}
use Rattle.factor_core.proofs.FillWalk.{any_false, no_slot, rows_are, CanFill, LeadsAlong, moved_is, begins_with, fills_with}

among_in : (count out : ℕ → ℕ) (row : ℕ → List ℕ) (k : ℕ) (rows : (v : ℕ) → length (row v) ≡ k) {C : Type 0} (r : Ring C) (laws : IsRing r) (cells : List C) (x : ℕ) (xs ys : List ℕ) → IsAmong count out row k rows r laws cells x (xs ++ x ∷ ys)
among_in count out row k rows r laws cells x [] ys = inl refl
among_in count out row k rows r laws cells x (u ∷ xs) ys = inr (among_in count out row k rows r laws cells x xs ys)

module _ {C : Type 0} {r : Ring C} (laws : IsRing r) (sizes : IsSize r r.size) {cells : List C} {counts : List ℕ} {slots : List Slot} {x : ℕ} {scope : NodeSet} {out : List C} (can : CanJoin r cells counts slots x scope out) (cut : ℕ) where
  abbrev n : ℕ
  n = length counts

  abbrev count : ℕ → ℕ
  count = states_in counts

  abbrev stride : ℕ → ℕ
  stride = stride_of (states_in counts) (length counts) (holds scope)

  abbrev row : ℕ → List ℕ
  row = stride_row counts slots

  abbrev kept : List ℕ
  kept = listed (holds scope) 0 (length counts)

  abbrev pub order : List ℕ
  order = with_extra cut x (listed (holds scope) 0 (length counts))

  none : holds scope x ≡ false
  none = can.is_joined.within x can.node ∙ chosen x x false (list_any (λ s. holds s.scope x) slots) refl

  -- the kept nodes, cut behind the first ones
  whole : take cut kept ++ drop cut kept ≡ kept
  whole = take-append-drop cut kept

  order_once : AllOnce order
  order_once =
      once_among x (take cut kept) (drop cut kept)
      (subst (IsNoneOf x) (sym whole) (listed_none (holds scope) x n 0 (inl none)))
      (subst AllOnce (sym whole) (listed_once (holds scope) n 0))

  order_below : All (λ v. v < length counts) order
  order_below = all_among n x (take cut kept) (drop cut kept) can.node (subst (All (λ v. v < length counts)) (sym whole) (listed_below (holds scope) n n 0 (omega arith)))

  still : stride x ≡ 0
  still = ap (λ b. cond b (size_from count (holds scope) (suc x) (n - suc x)) 0) none

  order_radix : IsRadix count stride row (length slots) (rows_are counts slots) x order
  order_radix =
      radix_among count x stride row (length slots) (rows_are counts slots) (take cut kept) (drop cut kept) still
      (subst (IsRadix count stride row (length slots) (rows_are counts slots) x) (sym whole) (radix_listed count x n (holds scope) none row (length slots) (rows_are counts slots) n 0 (omega arith)))

  -- a slot's node is x or kept
  covers : (i : ℕ) → i < length slots → (u : ℕ) → u < length counts → (u ≡ x → ⊥) → holds scope u ≡ false → holds (get_or slots i (no_slot scope)).scope u ≡ false
  covers i l u below ne f =
      any_false (λ s. holds s.scope u) slots (no_slot scope)
      (sym (not_chosen u x false (list_any (λ s. holds s.scope u) slots) ne) ∙ sym (can.is_joined.within u below) ∙ f) i l

  fill : CanFill r cells counts slots scope out
  fill = record {
    are_counts = can.are_counts;
    live = can.live;
    small = can.small;
    few_cells = can.few_cells;
    size = can.size;
    short_out = can.short_out;
    nought = can.nought;
    products = can.fits.products;
  }

  leads : LeadsAlong counts slots scope x order
  leads = record {
    below = order_below;
    once = order_once;
    radix = order_radix;
    slot = λ i l w. place_along count n x cut (holds (get_or slots i (no_slot scope)).scope) (holds scope) w can.node none (covers i l);
    out = λ w. place_along count n x cut (holds scope) (holds scope) w can.node none (λ u below ne f. f);
  }

  -- what the walk adds at a world's place
  adds_at : {D : Type 0} (s : Ring D) (s_laws : IsRing s) (ds : List D) (w : World) → InRange count w → total s ds (axes_of count stride order) (stride_rows row order) (starts_of slots) 0 (0 + out_place stride order w) ≡ join_cell s ds counts slots x w
  adds_at s s_laws ds w ok =
      total_is count stride row (length slots) (rows_are counts slots) s s_laws ds x order (starts_of slots) 0 w order_once
      (among_in count stride row (length slots) (rows_are counts slots) s s_laws ds x (take cut kept) (drop cut kept))
      order_radix (length-map slots (λ s. s.start)) ok
      ∙ ring_sum_cong s (count x) (λ t. product_at s ds (moved row order (with_state w x t) (starts_of slots))) (λ t. product_at s ds (places_in counts slots (with_state w x t))) (λ t. ap (product_at s ds) (moved_is fill leads (with_state w x t)))

  -- the axes of the kept nodes with that of x are those of the order
  pub axes_in_order : (axes : List Axis) (states : ℕ) → states ≡ count x → axes ≡ with_extra cut (let a : Axis = record { states = states; out = 0 } in a) (axes_of count stride kept) → axes ≡ axes_of count stride order
  axes_in_order axes states same e =
      e
      ∙ ap (λ k. with_extra cut (let a : Axis = record { states = k; out = 0 } in a) (axes_of count stride kept)) same
      ∙ ap (λ k. with_extra cut (let a : Axis = record { states = count x; out = k } in a) (axes_of count stride kept)) (sym still)
      ∙ axes_with count stride cut x kept

  -- lists that are those of the order
  module _ {axes : List Axis} {strides places : List ℕ} (are_axes : axes ≡ axes_of count stride order) (are_strides : strides ≡ stride_rows row order) (are_places : places ≡ starts_of slots) where
    pub can_begin : CanWalk r cells axes strides places out 0
    can_begin = begins_with fill leads are_axes are_strides are_places sizes (λ w ok. omega (arith, adds_at mass_ring mass_is_ring (sizes_of r cells) w ok, can.fits.sums w ok))

    pub joins_with : {new : List C} → AddsCells r (total r cells axes strides places 0) out new → (w : World) → InRange count w → cell_at r new (place_of counts scope w) ≡ join_cell r cells counts slots x w
    joins_with adds w ok = fills_with fill leads are_axes are_strides are_places laws adds w ∙ adds_at r laws cells w ok

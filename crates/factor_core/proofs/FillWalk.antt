-- A walk along an order of the nodes that fills a table of noughts: it may begin, and each world's
-- sum comes to its cell.
use Rattle.std.proofs.Common.{◌≡◌, ℕ, zero, suc, ◌+◌, ◌-◌, ◌*◌, ◌^◌, ◌<◌, ◌≤◌, Bool, true, false, cond, List, [], ◌∷◌, ◌++◌, length, get_or, sym, ap, subst, ◌∙◌, arith, inl, inr}
use Rattle.std.specs.Prelude.{All}
use Rattle.std.specs.List.{list_any}
use Rattle.std.proofs.lemmas.List.{ext_get_or, length-map, length-append, get_or-map}
use Rattle.std.proofs.lemmas.Bool.{cases_lt, or_parts}
use Rattle.cell_rings.specs.Rings.{Ring, IsRing, IsSize, mass_ring}
use Rattle.cell_rings.specs.Sums.{cell_at, sizes_of, ProductFits, AddsCells, HasRoom}
use Rattle.cell_rings.specs.RingLaws.{mass_is_ring}
use Rattle.factor_core.specs.Walks.{total, load, IsMet, IsAxis, CanWalk}
use Rattle.node_sets.specs.Sets.{holds}
use Rattle.finite_sums.specs.Sums.{World, InRange}
use Rattle.factor_core.specs.Tables.{AreCounts, LiesIn, states_in, size_from, stride_of, moved, out_place, kept_size, axes_of, stride_rows, stride_row, starts_of, size_of, place_of, places_in}
use Rattle.factor_core.specs.declared.walks.Axis.{Axis}
use Rattle.node_sets.specs.declared.sets.NodeSet.{NodeSet}
use Rattle.factor_core.specs.declared.slots.Slot.{Slot}
use Rattle.factor_core.proofs.SizeLemmas.{size_later}
use Rattle.factor_core.proofs.Collapse.{AllOnce, IsRadix, each_choice, total_outside, world_at}
use Rattle.factor_core.proofs.Joining.{place_below, get-moved, length-moved, out_place_cong}

pub any_false : {X : Type 0} (p : X → Bool) (xs : List X) (d : X) → list_any p xs ≡ false → (i : ℕ) → i < length xs → p (get_or xs i d) ≡ false
any_false p [] d h i l = absurd (omega arith)
any_false p (x ∷ xs) d h zero l = (or_parts (p x) (list_any p xs) h).0
any_false p (x ∷ xs) d h (suc i) l = any_false p xs d (or_parts (p x) (list_any p xs) h).1 i (omega arith)

length-rows : (row : ℕ → List ℕ) (k : ℕ) → ((v : ℕ) → length (row v) ≡ k) → (vs : List ℕ) → length (stride_rows row vs) ≡ length vs * k
length-rows row k h [] = omega arith
length-rows row k h (v ∷ vs) = omega (arith, length-append (row v) (stride_rows row vs), h v, length-rows row k h vs)

all_append : (P : ℕ → Type 0) (xs ys : List ℕ) → All P xs → All P ys → All P (xs ++ ys)
all_append P [] ys a b i d l = b i d l
all_append P (x ∷ xs) ys a b zero d l = a 0 d (omega arith)
all_append P (x ∷ xs) ys a b (suc i) d l = all_append P xs ys (λ j e m. a (suc j) e (omega arith)) b i d (omega arith)

all_rows : (P : ℕ → Type 0) (Q : ℕ → Type 0) (row : ℕ → List ℕ) → ((v : ℕ) → Q v → All P (row v)) → (vs : List ℕ) → All Q vs → All P (stride_rows row vs)
all_rows P Q row h [] q = λ i d l. absurd (omega arith)
all_rows P Q row h (v ∷ vs) q = all_append P (row v) (stride_rows row vs) (h v (q 0 v (omega arith))) (all_rows P Q row h vs (λ i d l. q (suc i) d (omega arith)))

abbrev pub no_slot : NodeSet → Slot
no_slot scope = record { start = 0; len = 0; scope = scope }

-- a walk over lists that are equal to others is the walk over those
module _ {C : Type 0} (r : Ring C) (cells out : List C) {axes axes' : List Axis} {strides strides' places places' : List ℕ} (axes_are : axes ≡ axes') (strides_are : strides ≡ strides') (places_are : places ≡ places') where
  can_same : CanWalk r cells axes' strides' places' out 0 → CanWalk r cells axes strides places out 0
  can_same can =
      subst (λ l. CanWalk r cells l strides places out 0) (sym axes_are)
      (subst (λ l. CanWalk r cells axes' l places out 0) (sym strides_are)
      (subst (λ l. CanWalk r cells axes' strides' l out 0) (sym places_are) can))

  adds_same : (new : List C) → AddsCells r (total r cells axes strides places 0) out new → AddsCells r (total r cells axes' strides' places' 0) out new
  adds_same new adds =
      subst (λ l. AddsCells r (total r cells axes' strides' l 0) out new) places_are
      (subst (λ l. AddsCells r (total r cells axes' l places 0) out new) strides_are
      (subst (λ l. AddsCells r (total r cells l strides places 0) out new) axes_are adds))

-- a slot's row of strides has a stride for each slot
pub rows_are : (counts : List ℕ) (slots : List Slot) (v : ℕ) → length (stride_row counts slots v) ≡ length slots
rows_are counts slots v = length-map slots (λ s. stride_of (states_in counts) (length counts) (holds s.scope) v)

-- the cells that are read, and the noughts that are written over
pub record CanFill {C : Type 0} (r : Ring C) (cells : List C) (counts : List ℕ) (slots : List Slot) (scope : NodeSet) (out : List C) : Type 0 where
  pub are_counts : AreCounts counts
  pub live : All (LiesIn counts (length cells)) slots
  pub small : All (λ s. size_of counts s.scope ≤ 2 ^ 32) slots
  pub few_cells : length cells ≤ 2 ^ 32
  pub size : length out ≡ size_of counts scope
  pub short_out : length out ≤ 2 ^ 32
  pub nought : (p : ℕ) → cell_at r out p ≡ r.nought
  pub products : (w : World) → InRange (states_in counts) w → ProductFits r cells 1 (places_in counts slots w)

-- an order of the nodes along which a walk that sums x comes to each world's places, in the slots
-- and in the result
pub record LeadsAlong (counts : List ℕ) (slots : List Slot) (scope : NodeSet) (x : ℕ) (order : List ℕ) : Type 0 where
  pub below : All (λ v. v < length counts) order
  pub once : AllOnce order
  pub radix : IsRadix (states_in counts) (stride_of (states_in counts) (length counts) (holds scope)) (stride_row counts slots) (length slots) (rows_are counts slots) x order
  pub slot : (i : ℕ) → i < length slots → (w : World) → out_place (stride_of (states_in counts) (length counts) (holds (get_or slots i (no_slot scope)).scope)) order w ≡ place_of counts (get_or slots i (no_slot scope)).scope w
  pub out : (w : World) → out_place (stride_of (states_in counts) (length counts) (holds scope)) order w ≡ place_of counts scope w

module _ {C : Type 0} {r : Ring C} {cells : List C} {counts : List ℕ} {slots : List Slot} {scope : NodeSet} {out : List C} {x : ℕ} {order : List ℕ} (can : CanFill r cells counts slots scope out) (leads : LeadsAlong counts slots scope x order) where
  abbrev n : ℕ
  n = length counts

  abbrev count : ℕ → ℕ
  count = states_in counts

  abbrev stride : ℕ → ℕ
  stride = stride_of (states_in counts) (length counts) (holds scope)

  abbrev row : ℕ → List ℕ
  row = stride_row counts slots

  starts_length : length (starts_of slots) ≡ length slots
  starts_length = length-map slots (λ s. s.start)

  -- the walk comes to the places that the definition gives
  pub moved_is : (w : World) → moved row order w (starts_of slots) ≡ places_in counts slots w
  moved_is w =
      ext_get_or 0 (moved row order w (starts_of slots)) (places_in counts slots w)
      (length-moved row order w (starts_of slots) ∙ starts_length ∙ sym (length-map slots (λ s. s.start + place_of counts s.scope w)))
      (λ i l.
      let in_slots : i < length slots = omega (arith, length-moved row order w (starts_of slots), starts_length) in
      let s = get_or slots i (no_slot scope) in
      let along = leads.slot i in_slots w in
      let strides = out_place_cong (λ v. get_or (row v) i 0) (stride_of count n (holds s.scope)) order w (λ v. get_or-map (λ t. stride_of (states_in counts) (length counts) (holds t.scope) v) slots i (no_slot scope) 0 in_slots) in
      let start = get_or-map (λ t. t.start) slots i (no_slot scope) 0 in_slots in
      let place = get_or-map (λ t. t.start + place_of counts t.scope w) slots i (no_slot scope) 0 in_slots in
      let walked = get-moved row order w (starts_of slots) i (omega (arith, starts_length)) in
      omega (arith, walked, strides, along, start, place))

  stride_small : (s : NodeSet) (v : ℕ) → v < length counts → size_of counts s ≤ 2 ^ 32 → stride_of count n (holds s) v ≤ 2 ^ 32
  stride_small s v below small = bounded (holds s v)
    where
      later : size_from count (holds s) (suc v) (n - suc v) ≤ 2 ^ 32
      later =
          let h = size_later count (holds s) can.are_counts.some n 0 (suc v) (omega arith) (omega arith) in
          omega (arith, h, small, ap (λ k. size_from count (holds s) 0 k) (let e : n - 0 ≡ n = omega arith in e))

      bounded : (b : Bool) → cond b (size_from count (holds s) (suc v) (n - suc v)) 0 ≤ 2 ^ 32
      bounded true = later
      bounded false = omega arith

  axes_are : All IsAxis (axes_of count stride order)
  axes_are = λ i d l.
      let in_order : i < length order = omega (arith, length-map order (λ v. let a : Axis = record { states = count v; out = stride v } in a)) in
      let v = get_or order i 0 in
      let below = leads.below i 0 in_order in
      let axis : IsAxis (record { states = count v; out = stride v }) = record {
        some = can.are_counts.some v;
        few = (let h = can.are_counts.small v in omega arith);
        near = stride_small scope v below (let h = can.short_out in omega (arith, can.size));
      } in
      subst IsAxis (sym (get_or-map (λ u. let a : Axis = record { states = count u; out = stride u } in a) order i 0 d in_order)) axis

  near_are : All (λ d. d ≤ 2 ^ 32) (stride_rows row order)
  near_are =
      all_rows (λ d. d ≤ 2 ^ 32) (λ v. v < length counts) row
      (λ v below i d l.
      let in_slots : i < length slots = omega (arith, rows_are counts slots v) in
      subst (λ k. k ≤ 2 ^ 32) (sym (get_or-map (λ t. stride_of (states_in counts) (length counts) (holds t.scope) v) slots i (no_slot scope) d in_slots))
      (stride_small (get_or slots i (no_slot scope)).scope v below (can.small i (no_slot scope) in_slots)))
      order leads.below

  -- a world's places lie in the cells and in the result
  met_in : (w : World) → InRange count w → IsMet r cells (length out) (moved row order w (starts_of slots)) (0 + out_place stride order w)
  met_in w ok =
      subst (λ ps. IsMet r cells (length out) ps (0 + out_place stride order w)) (sym (moved_is w)) (record {
        within = λ i d l.
            let in_slots : i < length slots = omega (arith, length-map slots (λ s. s.start + place_of counts s.scope w)) in
            let s = get_or slots i (no_slot scope) in
            let live = can.live i (no_slot scope) in_slots in
            let below = place_below count (holds s.scope) w ok n 0 in
            let at_i = get_or-map (λ t. t.start + place_of counts t.scope w) slots i (no_slot scope) d in_slots in
            omega (arith, at_i, live.size, live.within, below);
        out = (let below = place_below count (holds scope) w ok n 0 in omega (arith, below, leads.out w, can.size));
        fits = can.products w ok;
      })

  first_world : InRange count (λ v. 0)
  first_world = record { state = can.are_counts.some }

  -- what the walk adds
  abbrev adding : ℕ → C
  adding p = total r cells (axes_of count stride order) (stride_rows row order) (starts_of slots) 0 p

  -- the sizes of it
  abbrev loading : ℕ → ℕ
  loading p = load r cells (axes_of count stride order) (stride_rows row order) (starts_of slots) 0 p

  room_is : IsSize r r.size → ((w : World) → InRange count w → loading (0 + out_place stride order w) ≤ r.most) → HasRoom r out loading
  room_is sizes fits = record {
    each = λ p.
        let empty = ap r.size (can.nought p) in
        elim (cases_lt p (kept_size count x order)) [
          | inl inside ↦
              let found = world_at count stride row (length slots) (rows_are counts slots) x order p (λ v. 0) first_world leads.once leads.radix can.are_counts.some inside in
              let w = found.0 in
              let there : 0 + out_place stride order w ≡ p = omega (arith, found.2) in
              omega (arith, empty, sizes.nought, ap loading there, fits w found.1)
          | inr outside ↦
              let nothing = total_outside count stride row (length slots) (rows_are counts slots) mass_ring mass_is_ring (sizes_of r cells) x order (starts_of slots) 0 p leads.radix starts_length (inr (let beyond : 0 + kept_size count x order ≤ p = omega arith in beyond)) in
              omega (arith, empty, sizes.nought, nothing)
        ];
  }

  -- the walk may begin
  can_begin : IsSize r r.size → ((w : World) → InRange count w → loading (0 + out_place stride order w) ≤ r.most) → CanWalk r cells (axes_of count stride order) (stride_rows row order) (starts_of slots) out 0
  can_begin sizes fits = record {
    are_axes = axes_are;
    count = length-rows row (length slots) (rows_are counts slots) order ∙ ap (λ k. k * length slots) (sym (length-map order (λ v. let a : Axis = record { states = count v; out = stride v } in a))) ∙ ap (λ k. length (axes_of count stride order) * k) (sym starts_length);
    near = near_are;
    few_cells = can.few_cells;
    short_out = can.short_out;
    met = each_choice count stride row (length slots) (rows_are counts slots) (IsMet r cells (length out)) order (starts_of slots) 0 (λ v. 0) first_world leads.once starts_length met_in;
    room = room_is sizes fits;
  }

  -- what stands in a world's cell
  filled_is : IsRing r → {new : List C} → AddsCells r adding out new → (w : World) → cell_at r new (place_of counts scope w) ≡ adding (0 + out_place stride order w)
  filled_is laws {new} adds w =
      let place = 0 + out_place stride order w in
      let there : place_of counts scope w ≡ place = omega (arith, leads.out w) in
      ap (cell_at r new) there
      ∙ adds.each place
      ∙ ap (λ c. r.plus c (adding place)) (can.nought place)
      ∙ laws.plus_comm r.nought (adding place)
      ∙ laws.plus_nought (adding place)

  -- the same of lists that are those of the order
  module _ {axes : List Axis} {strides places : List ℕ} (are_axes : axes ≡ axes_of count stride order) (are_strides : strides ≡ stride_rows row order) (are_places : places ≡ starts_of slots) where
    pub begins_with : IsSize r r.size → ((w : World) → InRange count w → loading (0 + out_place stride order w) ≤ r.most) → CanWalk r cells axes strides places out 0
    begins_with sizes fits = can_same r cells out are_axes are_strides are_places (can_begin sizes fits)

    pub fills_with : IsRing r → {new : List C} → AddsCells r (total r cells axes strides places 0) out new → (w : World) → cell_at r new (place_of counts scope w) ≡ adding (0 + out_place stride order w)
    fills_with laws {new} adds = filled_is laws (adds_same r cells out are_axes are_strides are_places new adds)

-- One level of a walk: the states of the first axis one after another, each with the walk over the
-- axes below.
use Rattle.std.proofs.Common.{◌≡◌, ℕ, zero, suc, ◌+◌, ◌*◌, ◌^◌, ◌<◌, ◌≤◌, List, [], ◌∷◌, drop, length, refl, sym, ap, subst, ◌∙◌, arith, get_or}
use Rattle.std.specs.Prelude.{All}
use Rattle.std.proofs.lemmas.List.{ext_get_or, drop_more, length-drop, get_or-drop}
use Rattle.cell_rings.specs.Rings.{Ring, IsRing, IsSize}
use Rattle.cell_rings.specs.Sums.{ring_sum, AddsCells, HasRoom}
use Rattle.factor_core.specs.Walks.{shifted, total, load, AtEach, IsMet, IsAxis, CanWalk}
use Rattle.factor_core.specs.declared.walks.Axis.{Axis}
use Rattle.cell_rings.proofs.Adding.{adds_none, adds_then, room_for_next}
use Rattle.factor_core.proofs.Loads.{size_total}
use Rattle.factor_core.proofs.Shifts.{shifted_none, length-shifted, get-shifted, is_shifted, first_choice}
use Rattle.factor_core.proofs.Ends.{at_end}

-- one row of strides for each axis
pub one_row : (n k m : ℕ) → 0 < n → m ≡ n * k → k ≤ m
one_row zero k m h e = omega arith
one_row (suc n) k m h e = omega arith

-- a list that is not empty is its first item and the rest
pub split : (axes : List Axis) (d : Axis) → 0 < length axes → axes ≡ get_or axes 0 d ∷ drop 1 axes
split axes d h = drop_more axes 0 d h

pub three_axes : (axes : List Axis) (d : Axis) → length axes ≡ 3 → axes ≡ get_or axes 0 d ∷ (get_or axes 1 d ∷ (get_or axes 2 d ∷ []))
three_axes [] d h = absurd (omega arith)
three_axes (a ∷ []) d h = absurd (omega arith)
three_axes (a ∷ b ∷ []) d h = absurd (omega arith)
three_axes (a ∷ b ∷ c ∷ []) d h = refl
three_axes (a ∷ b ∷ c ∷ e ∷ axes) d h = absurd (omega arith)

-- how far a loop over the states of the first axis is: the places of the state s, the cell of the
-- result there, and what the states before it have added
pub record HasReached {C : Type 0} (r : Ring C) (cells : List C) (a : Axis) (rest : List Axis) (strides places : List ℕ) (out : List C) (at s : ℕ) (here : List ℕ) (place : ℕ) (now : List C) : Type 0 where
  pub moved : here ≡ shifted s strides places
  pub stands : place ≡ at + s * a.out
  pub len : length now ≡ length out
  pub adds : AddsCells r (λ p. ring_sum r s (λ i. total r cells rest (drop (length places) strides) (shifted i strides places) (at + i * a.out) p)) out now

module _ {C : Type 0} {r : Ring C} {cells : List C} {a : Axis} {rest : List Axis} {strides places : List ℕ} {out : List C} {at : ℕ} (can : CanWalk r cells (a ∷ rest) strides places out at) where
  abbrev part : ℕ → ℕ → C
  part s p = total r cells rest (drop (length places) strides) (shifted s strides places) (at + s * a.out) p

  pub strides_enough : length places ≤ length strides
  strides_enough = omega (arith, can.count)

  -- at each state there is a stride for each place
  pub still_enough : (s : ℕ) {here : List ℕ} → here ≡ shifted s strides places → length here ≤ length strides
  still_enough s e = omega (arith, strides_enough, ap length e, length-shifted s strides places)

  pub first_axis : IsAxis a
  first_axis = can.are_axes 0 a (omega arith)

  pub axes_below : All IsAxis rest
  axes_below = λ k d l. can.are_axes (suc k) d (omega arith)

  -- the first choice of states below
  first_below : (s : ℕ) → s < a.states → IsMet r cells (length out) (shifted s strides places) (at + s * a.out)
  first_below s h = first_choice (IsMet r cells (length out)) rest (drop (length places) strides) (shifted s strides places) (at + s * a.out) axes_below (can.met s h)

  pub place_fits : {s place : ℕ} {here : List ℕ} {now : List C} → s < a.states → HasReached r cells a rest strides places out at s here place now → place + a.out < 2 ^ 64
  place_fits {s} h reached =
      let met = first_below s h in
      let axis = first_axis in
      omega (arith, met.out, can.short_out, axis.near, reached.stands)

  pub advance_fits : (s : ℕ) {here : List ℕ} → s < a.states → here ≡ shifted s strides places → (i : ℕ) → i < length here → get_or here i 0 + get_or strides i 0 < 2 ^ 64
  advance_fits s {here} h e i l =
      let met = first_below s h in
      let len = ap length e in
      let same = length-shifted s strides places in
      let within = met.within i 0 (omega (arith, len)) in
      let at_i : get_or here i 0 ≡ get_or (shifted s strides places) i 0 = ap (λ ps. get_or ps i 0) e in
      let near = can.near i 0 (omega (arith, strides_enough, len, same)) in
      omega (arith, at_i, within, can.few_cells, near)

  pub advanced : (s : ℕ) {here new : List ℕ} → here ≡ shifted s strides places → length new ≡ length here → ((i : ℕ) → i < length here → get_or new i 0 ≡ get_or here i 0 + get_or strides i 0) → new ≡ shifted (s + 1) strides places
  advanced s {here} {new} e len each =
      let same = ap length e ∙ length-shifted s strides places in
      is_shifted (s + 1) strides places new (len ∙ same)
      (λ i l.
      let at_i = ap (λ ps. get_or ps i 0) e ∙ get-shifted s strides places i l in
      let moved = each i (omega (arith, same)) in
      omega (arith, at_i, moved))

  -- at first
  pub begun : IsRing r → IsSize r r.size → HasReached r cells a rest strides places out at 0 places at out
  begun laws sizes = record {
    moved = sym (shifted_none strides places);
    stands = omega arith;
    len = refl;
    adds = adds_none laws sizes out;
  }

  -- and in the end
  module _ {s : ℕ} {here : List ℕ} {place : ℕ} {now : List C} (reached : HasReached r cells a rest strides places out at s here place now) (over : a.states ≤ s) (within : s ≤ a.states) where
    pub all_added : AddsCells r (total r cells (a ∷ rest) strides places at) out now
    all_added = at_end (λ k. AddsCells r (λ p. ring_sum r k (λ i. part i p)) out now) s a.states over within reached.adds

    at_the_end : here ≡ shifted a.states strides places
    at_the_end = at_end (λ k. here ≡ shifted k strides places) s a.states over within reached.moved

    pub retreat_fits : (i : ℕ) → i < length here → a.states * get_or strides i 0 ≤ get_or here i 0
    retreat_fits i l =
        let e = at_the_end in
        let same = ap length e ∙ length-shifted a.states strides places in
        let at_i = ap (λ ps. get_or ps i 0) e ∙ get-shifted a.states strides places i (omega (arith, same)) in
        omega (arith, at_i)

    pub retreated : {new : List ℕ} → length new ≡ length here → ((i : ℕ) → i < length here → get_or new i 0 + a.states * get_or strides i 0 ≡ get_or here i 0) → new ≡ places
    retreated {new} len each =
        let e = at_the_end in
        let same = ap length e ∙ length-shifted a.states strides places in
        ext_get_or 0 new places (len ∙ same)
        (λ i l.
        let in_places : i < length places = omega (arith, len, same) in
        let at_i = ap (λ ps. get_or ps i 0) e ∙ get-shifted a.states strides places i in_places in
        let moved = each i (omega (arith, len)) in
        omega (arith, at_i, moved))

  -- the rows of strides for the axes below
  module _ {below : List ℕ} (b : below ≡ drop (length places) strides) where
    pub strides_below : length below ≡ length rest * length places
    strides_below =
        let e = ap length b ∙ length-drop (length places) strides in
        omega (arith, can.count, e)

    pub near_below : All (λ d. d ≤ 2 ^ 32) below
    near_below = λ k d l.
        let e = ap length b ∙ length-drop (length places) strides in
        let at_k : get_or below k d ≡ get_or strides (length places + k) d = ap (λ ds. get_or ds k d) b ∙ get_or-drop (length places) strides k d in
        subst (λ x. x ≤ 2 ^ 32) (sym at_k) (can.near (length places + k) d (omega (arith, e)))

    pub met_next : (s : ℕ) {here : List ℕ} {place n : ℕ} → s < a.states → here ≡ shifted s strides places → place ≡ at + s * a.out → n ≡ length out → AtEach (IsMet r cells n) rest below here place
    met_next s {here} {place} {n} h e f len =
        subst (λ k. AtEach (IsMet r cells k) rest below here place) (sym len)
        (subst (λ ds. AtEach (IsMet r cells (length out)) rest ds here place) (sym b)
        (subst (λ ps. AtEach (IsMet r cells (length out)) rest (drop (length places) strides) ps place) (sym e)
        (subst (λ k. AtEach (IsMet r cells (length out)) rest (drop (length places) strides) (shifted s strides places) k) (sym f) (can.met s h))))

    module _ (laws : IsRing r) (sizes : IsSize r r.size) {s : ℕ} {here : List ℕ} {place : ℕ} {now : List C} where
      room_next : s < a.states → HasReached r cells a rest strides places out at s here place now → HasRoom r now (load r cells rest below here place)
      room_next h reached =
          subst (λ ds. HasRoom r now (load r cells rest ds here place)) (sym b)
          (subst (λ ps. HasRoom r now (load r cells rest (drop (length places) strides) ps place)) (sym reached.moved)
          (subst (λ k. HasRoom r now (load r cells rest (drop (length places) strides) (shifted s strides places) k)) (sym reached.stands)
          (room_for_next laws sizes a.states s part (λ i p. load r cells rest (drop (length places) strides) (shifted i strides places) (at + i * a.out) p) out now h (λ i p. size_total laws sizes cells rest (drop (length places) strides) (shifted i strides places) (at + i * a.out) p) can.room reached.adds)))

      -- what the walk below requires
      pub can_next : s < a.states → HasReached r cells a rest strides places out at s here place now → CanWalk r cells rest below here now place
      can_next h reached =
          let same : length here ≡ length places = ap length reached.moved ∙ length-shifted s strides places in
          record {
            are_axes = axes_below;
            count = subst (λ n. length below ≡ length rest * n) (sym same) strides_below;
            near = near_below;
            few_cells = can.few_cells;
            short_out = subst (λ n. n ≤ 2 ^ 32) (sym reached.len) can.short_out;
            met = met_next s h reached.moved reached.stands reached.len;
            room = room_next h reached;
          }

      -- when it has added, and the places have moved on
      pub reached_next : {next : List ℕ} {new : List C} → HasReached r cells a rest strides places out at s here place now → next ≡ shifted (s + 1) strides places → length new ≡ length now → AddsCells r (total r cells rest below here place) now new → HasReached r cells a rest strides places out at (s + 1) next (place + a.out) new
      reached_next {new = new} reached e same more =
          let in_below = subst (λ ds. AddsCells r (total r cells rest ds here place) now new) b more in
          let at_state = subst (λ ps. AddsCells r (total r cells rest (drop (length places) strides) ps place) now new) reached.moved in_below in
          let there = subst (λ k. AddsCells r (total r cells rest (drop (length places) strides) (shifted s strides places) k) now new) reached.stands at_state in
          let both = adds_then laws sizes (λ p. ring_sum r s (λ i. part i p)) (part s) out now new reached.adds there in
          record {
            moved = e;
            stands = omega (arith, reached.stands);
            len = same ∙ reached.len;
            adds = subst (λ k. AddsCells r (λ p. ring_sum r k (λ i. part i p)) out new) (let one : suc s ≡ s + 1 = omega arith in one) both;
          }

-- the first axis of a list
abbrev pub first_of : List Axis → Axis
first_of axes = get_or axes 0 (record { states = 0; out = 0 })

-- a walk over axes that are not empty, its first axis set apart
pub can_walk : {C : Type 0} {r : Ring C} {cells : List C} {axes rest : List Axis} {strides places : List ℕ} {out : List C} {at : ℕ} → CanWalk r cells axes strides places out at → 0 < length axes → rest ≡ drop 1 axes → CanWalk r cells (first_of axes ∷ rest) strides places out at
can_walk {r = r} {cells} {axes} {rest} {strides} {places} {out} {at} can some e =
    subst (λ l. CanWalk r cells l strides places out at) (split axes (record { states = 0; out = 0 }) some ∙ ap (λ l. first_of axes ∷ l) (sym e)) can

-- A walk over one axis along which one operand runs, whichever it is, and such walks at the states
-- of a summed axis.
use Rattle.std.proofs.Common.{◌≡◌, ℕ, zero, suc, ◌+◌, ◌*◌, ◌-◌, ◌<◌, ◌≤◌, List, [], ◌∷◌, take, drop, length, refl, sym, ap, subst, ◌∙◌, arith, get_or, Bool, true, false}
use Rattle.cell_rings.specs.Rings.{Ring, IsRing, IsSize, mass_ring}
use Rattle.cell_rings.specs.RingLaws.{mass_is_ring, mass_sized}
use Rattle.cell_rings.specs.Sums.{ring_sum, cell_at, product_at, run_sum, one_scaled, one_sizes, two_scaled, two_sizes, four_scaled, four_sizes, AreWithin, AddsCells, AddsOne, HasRoom}
use Rattle.cell_rings.specs.declared.pairs.RunPair.{RunPair}
use Rattle.cell_rings.proofs.Adding.{nat_sum_one_more, nat_sum_grows, nat_sum_le, size_sum, adds_then}
use Rattle.cell_rings.proofs.Together.{run_sum_plus}
use Rattle.factor_core.specs.Walks.{shifted, total, load, IsMet, CanWalk, MovesAlong, IsCount, CanReadRun, IsRunAt}
use Rattle.factor_core.specs.declared.walks.Axis.{Axis}
use Rattle.factor_core.proofs.Shifts.{length-shifted, get-shifted, is_shifted, first_choice}
use Rattle.factor_core.proofs.Loads.{size_total}
use Rattle.factor_core.proofs.RunLemmas.{run_total, run_load_le, run_in_out, run_in_cells}
use Rattle.factor_core.proofs.Turned.{turned_total, turned_sizes, turned_in_out, turned_in_cells}
use Rattle.factor_core.proofs.Walking.{axes_below, strides_below, near_below, met_next, first_axis}

module _ {C : Type 0} {r : Ring C} (laws : IsRing r) (sizes : IsSize r r.size) {cells : List C} {a : Axis} {ds places : List ℕ} {out : List C} {at : ℕ} (can : CanWalk r cells (a ∷ []) ds places out at) where
  moved_count : (turned : Bool) → MovesAlong turned a ds (length places) → IsCount turned (length places)
  moved_count false run = run.some
  moved_count true turned = turned.two

  pub moved_read : (turned : Bool) → MovesAlong turned a ds (length places) → CanReadRun turned r cells places
  moved_read turned moved =
      let met = first_choice (IsMet r cells (length out)) (a ∷ []) ds places at can.are_axes can.met in
      record { count = moved_count turned moved; within = met.within; fits = met.fits }

  -- what the walk adds is a sum over the run
  pub moved_total : (turned : Bool) → MovesAlong turned a ds (length places) → (factor : C) (from : ℕ) → IsRunAt turned r cells places factor from → (p : ℕ) → run_sum r a.states at (one_scaled r factor cells from) p ≡ total r cells (a ∷ []) ds places at p
  moved_total false run factor from is p =
      ap (λ x. run_sum r a.states at (one_scaled r x cells from) p) is.product
      ∙ ap (λ k. run_sum r a.states at (one_scaled r (product_at r cells (take (length places - 1) places)) cells k) p) is.begins
      ∙ sym (run_total a ds places run r cells at p)
  moved_total true turned factor from is p =
      ap (λ x. run_sum r a.states at (one_scaled r x cells from) p) is.stands
      ∙ ap (λ k. run_sum r a.states at (one_scaled r (cell_at r cells (get_or places 1 0)) cells k) p) is.begins
      ∙ sym (turned_total a ds places turned r laws cells at p)

  pub moved_adds : (turned : Bool) → MovesAlong turned a ds (length places) → (factor : C) (from : ℕ) → IsRunAt turned r cells places factor from → {new : List C} → AddsOne r factor out new at a.states cells from → AddsCells r (total r cells (a ∷ []) ds places at) out new
  moved_adds turned moved factor from is adds =
      record { each = λ p. adds.each p ∙ ap (r.plus (cell_at r out p)) (moved_total turned moved factor from is p) }

  -- and the sizes of its parts are within the load
  pub moved_load : (turned : Bool) → MovesAlong turned a ds (length places) → (factor : C) (from : ℕ) → IsRunAt turned r cells places factor from → (p : ℕ) → run_sum mass_ring a.states at (one_sizes r factor cells from) p ≤ load r cells (a ∷ []) ds places at p
  moved_load false run factor from is p =
      subst (λ k. run_sum mass_ring a.states at (one_sizes r factor cells k) p ≤ load r cells (a ∷ []) ds places at p) (sym is.begins)
      (run_load_le laws sizes cells a ds places at run factor is.size p)
  moved_load true turned factor from is p =
      subst (λ k. run_sum mass_ring a.states at (one_sizes r factor cells k) p ≤ load r cells (a ∷ []) ds places at p) (sym is.begins)
      (subst (λ x. run_sum mass_ring a.states at (one_sizes r x cells (get_or places 0 0)) p ≤ load r cells (a ∷ []) ds places at p) (sym is.stands)
      (turned_sizes laws sizes cells a ds places out at turned can p))

  pub moved_in_out : (turned : Bool) → MovesAlong turned a ds (length places) → at + a.states ≤ length out
  moved_in_out false run = run_in_out laws sizes cells a ds places out at run can
  moved_in_out true turned = turned_in_out laws sizes cells a ds places out at turned can

  pub moved_in_cells : (turned : Bool) → MovesAlong turned a ds (length places) → (factor : C) (from : ℕ) → IsRunAt turned r cells places factor from → from + a.states ≤ length cells
  moved_in_cells false run factor from is = omega (arith, run_in_cells laws sizes cells a ds places out at run can, is.begins)
  moved_in_cells true turned factor from is = omega (arith, turned_in_cells laws sizes cells a ds places out at turned can, is.begins)

-- the sum of the first terms and of those behind them
ring_sum_split : {C : Type 0} {r : Ring C} (laws : IsRing r) (s k : ℕ) (f : ℕ → C) → ring_sum r (s + k) f ≡ r.plus (ring_sum r s f) (ring_sum r k (λ i. f (s + i)))
ring_sum_split {r = r} laws s zero f = ap (λ n. ring_sum r n f) (let e : s + 0 ≡ s = omega arith in e) ∙ sym (laws.plus_nought (ring_sum r s f))
ring_sum_split {r = r} laws s (suc k) f =
    ap (λ n. ring_sum r n f) (let e : s + suc k ≡ suc (s + k) = omega arith in e)
    ∙ ap (λ x. r.plus x (f (s + k))) (ring_sum_split laws s k f)
    ∙ laws.plus_assoc (ring_sum r s f) (ring_sum r k (λ i. f (s + i))) (f (s + k))

module _ {C : Type 0} {r : Ring C} (laws : IsRing r) (sizes : IsSize r r.size) where
  sum_of_two : (f : ℕ → C) → r.plus (f 0) (f 1) ≡ ring_sum r 2 f
  sum_of_two f = ap (λ x. r.plus x (f 1)) (sym (laws.plus_comm r.nought (f 0) ∙ laws.plus_nought (f 0)))

  sum_of_four : (f : ℕ → C) → r.plus (r.plus (f 0) (f 1)) (r.plus (f 2) (f 3)) ≡ ring_sum r 4 f
  sum_of_four f = sym (laws.plus_assoc (r.plus (f 0) (f 1)) (f 2) (f 3)) ∙ ap (λ x. r.plus (r.plus x (f 2)) (f 3)) (sum_of_two f)

  module _ {cells : List C} {sum a : Axis} (turned : Bool) {strides places : List ℕ} {out : List C} {at : ℕ} (still : sum.out ≡ 0) (moved : MovesAlong turned a (drop (length places) strides) (length places)) (can : CanWalk r cells (sum ∷ (a ∷ [])) strides places out at) where
    -- the places at a state of the summed axis, what its walk adds, and the sizes of that
    abbrev state : ℕ → List ℕ
    state s = shifted s strides places

    abbrev part : ℕ → ℕ → C
    part s p = total r cells (a ∷ []) (drop (length places) strides) (state s) (at + s * sum.out) p

    abbrev size_part : ℕ → ℕ → ℕ
    size_part s p = load r cells (a ∷ []) (drop (length places) strides) (state s) (at + s * sum.out) p

    -- the result's place doesn't move
    pub stays : (s : ℕ) → at ≡ at + s * sum.out
    stays s = omega (arith, ap (λ k. s * k) still)

    moved_at : (s : ℕ) → MovesAlong turned a (drop (length places) strides) (length (state s))
    moved_at s = subst (λ n. MovesAlong turned a (drop (length places) strides) n) (sym (length-shifted s strides places)) moved

    -- the walk at a state, with nothing added before
    can_state : (s : ℕ) → s < sum.states → CanWalk r cells (a ∷ []) (drop (length places) strides) (state s) out at
    can_state s h = record {
      are_axes = axes_below can;
      count = subst (λ n. length (drop (length places) strides) ≡ length (a ∷ []) * n) (sym (length-shifted s strides places)) (strides_below can refl);
      near = near_below can refl;
      few_cells = can.few_cells;
      short_out = can.short_out;
      met = met_next can refl s h refl (stays s) refl;
      room = record {
        each = λ p.
            let there = ap (λ k. load r cells (a ∷ []) (drop (length places) strides) (state s) k p) (stays s) in
            omega (arith, can.room.each p, nat_sum_one_more s sum.states (λ i. size_part i p) h, there);
      };
    }

    -- the places some states further
    pub reach : (s k : ℕ) {here : List ℕ} → here ≡ state s → shifted k strides here ≡ state (s + k)
    reach s k {here} e =
        let len = ap length e ∙ length-shifted s strides places in
        is_shifted (s + k) strides places (shifted k strides here) (length-shifted k strides here ∙ len)
        (λ i h.
        let in_here : i < length here = omega (arith, len) in
        let further = get-shifted k strides here i in_here in
        let was = ap (λ ps. get_or ps i 0) e ∙ get-shifted s strides places i h in
        omega (arith, further, was))

    pub read_at : (s : ℕ) {here : List ℕ} → s < sum.states → here ≡ state s → CanReadRun turned r cells here
    read_at s h e = subst (CanReadRun turned r cells) (sym e) (moved_read laws sizes (can_state s h) turned (moved_at s))

    pub in_out : at + a.states ≤ length out
    in_out =
        let axis = first_axis can in
        moved_in_out laws sizes (can_state 0 axis.some) turned (moved_at 0)

    -- the runs at two states
    pub record ArePair (i j : ℕ) (pair : RunPair C) : Type 0 where
      pub before : (i < sum.states) × (j < sum.states)
      pub first : IsRunAt turned r cells (state i) pair.first pair.from
      pub second : IsRunAt turned r cells (state j) pair.second pair.beside

    -- as they were read
    pub read_pair : (s i j : ℕ) {here : List ℕ} (pair : RunPair C) → here ≡ state s → s ≡ i → s + 1 ≡ j → j < sum.states → IsRunAt turned r cells here pair.first pair.from → IsRunAt turned r cells (shifted 1 strides here) pair.second pair.beside → ArePair i j pair
    read_pair s i j pair e at_i at_j h first second = record {
      before = (omega arith, h);
      first = subst (λ qs. IsRunAt turned r cells qs pair.first pair.from) (e ∙ ap state at_i) first;
      second = subst (λ qs. IsRunAt turned r cells qs pair.second pair.beside) (reach s 1 e ∙ ap state at_j) second;
    }

    pub pair_within : (i j : ℕ) (pair : RunPair C) → ArePair i j pair → AreWithin cells pair a.states
    pair_within i j pair are = (
      moved_in_cells laws sizes (can_state i are.before.0) turned (moved_at i) pair.first pair.from are.first,
      moved_in_cells laws sizes (can_state j are.before.1) turned (moved_at j) pair.second pair.beside are.second,
    )

    run_part : (s : ℕ) → s < sum.states → (factor : C) (from : ℕ) → IsRunAt turned r cells (state s) factor from → (p : ℕ) → run_sum r a.states at (one_scaled r factor cells from) p ≡ part s p
    run_part s h factor from is p =
        moved_total laws sizes (can_state s h) turned (moved_at s) factor from is p
        ∙ ap (λ k. total r cells (a ∷ []) (drop (length places) strides) (state s) k p) (stays s)

    run_size : (s : ℕ) → s < sum.states → (factor : C) (from : ℕ) → IsRunAt turned r cells (state s) factor from → (p : ℕ) → run_sum mass_ring a.states at (one_sizes r factor cells from) p ≤ size_part s p
    run_size s h factor from is p =
        subst (λ k. run_sum mass_ring a.states at (one_sizes r factor cells from) p ≤ load r cells (a ∷ []) (drop (length places) strides) (state s) k p) (stays s)
        (moved_load laws sizes (can_state s h) turned (moved_at s) factor from is p)

    -- what a pair adds, and the sizes of that
    pub pair_part : (i j : ℕ) (pair : RunPair C) → ArePair i j pair → (p : ℕ) → run_sum r a.states at (two_scaled r (λ f. f) cells pair) p ≡ r.plus (part i p) (part j p)
    pair_part i j pair are p =
        let one = one_scaled r pair.first cells pair.from in
        let two = one_scaled r pair.second cells pair.beside in
        run_sum_plus laws sizes a.states at p one two
        ∙ ap (λ x. r.plus x (run_sum r a.states at two p)) (run_part i are.before.0 pair.first pair.from are.first p)
        ∙ ap (r.plus (part i p)) (run_part j are.before.1 pair.second pair.beside are.second p)

    pub pair_size : (i j : ℕ) (pair : RunPair C) → ArePair i j pair → (p : ℕ) → run_sum mass_ring a.states at (two_sizes r r.size cells pair) p ≤ size_part i p + size_part j p
    pair_size i j pair are p =
        let one = one_sizes r pair.first cells pair.from in
        let two = one_sizes r pair.second cells pair.beside in
        omega (arith, run_sum_plus mass_is_ring mass_sized a.states at p one two, run_size i are.before.0 pair.first pair.from are.first p, run_size j are.before.1 pair.second pair.beside are.second p)

    -- room for what the next states add
    more_room : (s k : ℕ) (now : List C) → s + k ≤ sum.states → AddsCells r (λ p. ring_sum r s (λ i. part i p)) out now → (p : ℕ) → r.size (cell_at r now p) + ring_sum mass_ring k (λ i. size_part (s + i) p) ≤ r.most
    more_room s k now h adds p =
        let is = ap r.size (adds.each p) in
        let terms = nat_sum_le s (λ i. r.size (part i p)) (λ i. size_part i p) (λ i l. size_total laws sizes cells (a ∷ []) (drop (length places) strides) (state i) (at + i * sum.out) p) in
        let all = nat_sum_grows (s + k) (sum.states - (s + k)) (λ i. size_part i p) in
        let whole : (s + k) + (sum.states - (s + k)) ≡ sum.states = omega arith in
        let count = ap (λ n. ring_sum mass_ring n (λ i. size_part i p)) whole in
        let split = ring_sum_split mass_is_ring s k (λ i. size_part i p) in
        omega (arith, is, terms, all, count, split, sizes.plus (cell_at r out p) (ring_sum r s (λ i. part i p)), size_sum laws sizes s (λ i. part i p), can.room.each p)

    pub two_have_room : (s : ℕ) {now : List C} (pair : RunPair C) → s + 2 ≤ sum.states → AddsCells r (λ p. ring_sum r s (λ i. part i p)) out now → ArePair (s + 0) (s + 1) pair → HasRoom r now (run_sum mass_ring a.states at (two_sizes r r.size cells pair))
    two_have_room s {now} pair h adds are = record {
      each = λ p. omega (arith, more_room s 2 now h adds p, pair_size (s + 0) (s + 1) pair are p);
    }

    pub four_have_room : (s : ℕ) {now : List C} (one other : RunPair C) → s + 4 ≤ sum.states → AddsCells r (λ p. ring_sum r s (λ i. part i p)) out now → ArePair (s + 0) (s + 1) one → ArePair (s + 2) (s + 3) other → HasRoom r now (run_sum mass_ring a.states at (four_sizes r r.size cells one other))
    four_have_room s {now} one other h adds first second = record {
      each = λ p.
          let both = run_sum_plus mass_is_ring mass_sized a.states at p (two_sizes r r.size cells one) (two_sizes r r.size cells other) in
          omega (arith, both, more_room s 4 now h adds p, pair_size (s + 0) (s + 1) one first p, pair_size (s + 2) (s + 3) other second p);
    }

    -- what the next states add comes behind
    adds_more : (s k : ℕ) (now new : List C) → AddsCells r (λ p. ring_sum r s (λ i. part i p)) out now → AddsCells r (λ p. ring_sum r k (λ i. part (s + i) p)) now new → AddsCells r (λ p. ring_sum r (s + k) (λ i. part i p)) out new
    adds_more s k now new adds more =
        let then = adds_then laws sizes (λ p. ring_sum r s (λ i. part i p)) (λ p. ring_sum r k (λ i. part (s + i) p)) out now new adds more in
        record { each = λ p. then.each p ∙ ap (r.plus (cell_at r out p)) (sym (ring_sum_split laws s k (λ i. part i p))) }

    pub adds_two : (s : ℕ) {now new : List C} (pair : RunPair C) → AddsCells r (λ p. ring_sum r s (λ i. part i p)) out now → ArePair (s + 0) (s + 1) pair → AddsCells r (run_sum r a.states at (two_scaled r (λ f. f) cells pair)) now new → AddsCells r (λ p. ring_sum r (s + 2) (λ i. part i p)) out new
    adds_two s {now} {new} pair adds are more = adds_more s 2 now new adds (record {
      each = λ p. more.each p ∙ ap (r.plus (cell_at r now p)) (pair_part (s + 0) (s + 1) pair are p ∙ sum_of_two (λ i. part (s + i) p));
    })

    pub adds_four : (s : ℕ) {now new : List C} (one other : RunPair C) → AddsCells r (λ p. ring_sum r s (λ i. part i p)) out now → ArePair (s + 0) (s + 1) one → ArePair (s + 2) (s + 3) other → AddsCells r (run_sum r a.states at (four_scaled r (λ f. f) cells one other)) now new → AddsCells r (λ p. ring_sum r (s + 4) (λ i. part i p)) out new
    adds_four s {now} {new} one other adds first second more = adds_more s 4 now new adds (record {
      each = λ p.
          more.each p
          ∙ ap (r.plus (cell_at r now p))
          (run_sum_plus laws sizes a.states at p (two_scaled r (λ f. f) cells one) (two_scaled r (λ f. f) cells other)
          ∙ ap (λ x. r.plus x (run_sum r a.states at (two_scaled r (λ f. f) cells other) p)) (pair_part (s + 0) (s + 1) one first p)
          ∙ ap (r.plus (r.plus (part (s + 0) p) (part (s + 1) p))) (pair_part (s + 2) (s + 3) other second p)
          ∙ sum_of_four (λ i. part (s + i) p));
    })

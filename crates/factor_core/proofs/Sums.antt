-- A walk over one axis along which the result stands, as one sum of products.
use Rattle.std.proofs.Common.{◌≡◌, ℕ, ◌+◌, ◌*◌, ◌<◌, ◌≤◌, List, [], ◌∷◌, length, ap, subst, ◌∙◌, sym, arith, cond, ◌==◌, refl}
use Rattle.cell_rings.specs.Rings.{Ring, IsRing, IsSize, mass_ring}
use Rattle.cell_rings.specs.Sums.{ring_sum, cell_at, product_at, sizes_of, AddsCells}
use Rattle.cell_rings.specs.RingLaws.{mass_is_ring}
use Rattle.cell_rings.proofs.Adding.{nat_sum_le, size_sum, size_product}
use Rattle.cell_rings.proofs.Dots.{term_room, sum_next}
use Rattle.cell_rings.proofs.Runs.{chosen}
use Rattle.factor_core.specs.Walks.{shifted, total, IsMet, CanWalk}
use Rattle.factor_core.specs.declared.walks.Axis.{Axis}
use Rattle.factor_core.proofs.Dots.{sum_if}
use Rattle.cell_rings.proofs.Together.{ring_sum_cong}
use Rattle.factor_core.proofs.Shifts.{first_choice, shifted_none}

-- what the walk adds
pub total_sum : {C : Type 0} (r : Ring C) → IsRing r → (cells : List C) (a : Axis) (ds places : List ℕ) (at p : ℕ) → a.out ≡ 0 → total r cells (a ∷ []) ds places at p ≡ cond (p == at) (ring_sum r a.states (λ s. product_at r cells (shifted s ds places))) r.nought
total_sum r laws cells a ds places at p stands =
    ring_sum_cong r a.states (λ s. cond (p == at + s * a.out) (product_at r cells (shifted s ds places)) r.nought) (λ s. cond (p == at) (product_at r cells (shifted s ds places)) r.nought)
    (λ s.
    let there : at + s * a.out ≡ at = omega (arith, ap (λ k. s * k) stands) in
    ap (λ k. cond (p == k) (product_at r cells (shifted s ds places)) r.nought) there)
    ∙ sum_if r laws a.states (p == at) (λ s. product_at r cells (shifted s ds places))

module _ {C : Type 0} {r : Ring C} (laws : IsRing r) (sizes : IsSize r r.size) {cells : List C} {a : Axis} {ds places : List ℕ} {out : List C} {at : ℕ} (stands : a.out ≡ 0) (can : CanWalk r cells (a ∷ []) ds places out at) where
  abbrev term : ℕ → C
  term s = product_at r cells (shifted s ds places)

  abbrev most : ℕ → ℕ
  most s = product_at mass_ring (sizes_of r cells) (shifted s ds places)

  term_size : (s : ℕ) → r.size (term s) ≤ most s
  term_size s = size_product laws sizes cells (shifted s ds places) r.unit 1 (omega (arith, sizes.unit))

  sizes_room : r.size (cell_at r out at) + ring_sum mass_ring a.states most ≤ r.most
  sizes_room =
      let is = total_sum mass_ring mass_is_ring (sizes_of r cells) a ds places at at stands ∙ chosen at at (ring_sum mass_ring a.states most) 0 refl in
      omega (arith, is, can.room.each at)

  -- room for one product more
  pub sum_room : (s : ℕ) (sum product : C) → s < a.states → sum ≡ ring_sum r s term → r.size product ≤ most s → r.size sum + r.size product ≤ r.most
  sum_room s sum product h e le =
      let room : ring_sum mass_ring a.states most ≤ r.most = omega (arith, sizes_room) in
      omega (arith, term_room laws sizes a.states term most term_size room s h, ap r.size e, le)

  -- the same where the places are those of a state
  pub sum_room_at : (s : ℕ) (here : List ℕ) (sum product : C) → s < a.states → here ≡ shifted s ds places → sum ≡ ring_sum r s term → r.size product ≤ product_at mass_ring (sizes_of r cells) here → r.size sum + r.size product ≤ r.most
  sum_room_at s here sum product h there e le =
      sum_room s sum product h e (subst (λ ps. r.size product ≤ product_at mass_ring (sizes_of r cells) ps) there le)

  -- all places are in range at each state
  pub met_at : (s : ℕ) (here : List ℕ) → s < a.states → here ≡ shifted s ds places → IsMet r cells (length out) here (at + s * a.out)
  met_at s here h e = subst (λ ps. IsMet r cells (length out) ps (at + s * a.out)) (sym e) (can.met s h)

  pub sum_more : (s : ℕ) (sum product new : C) → sum ≡ ring_sum r s term → product ≡ term s → new ≡ r.plus sum product → new ≡ ring_sum r (s + 1) term
  sum_more s sum product new e is plus = plus ∙ ap (λ x. r.plus x product) e ∙ ap (r.plus (ring_sum r s term)) is ∙ sym (sum_next r s term)

  pub sum_more_at : (s : ℕ) (here : List ℕ) (sum product new : C) → here ≡ shifted s ds places → sum ≡ ring_sum r s term → product ≡ product_at r cells here → new ≡ r.plus sum product → new ≡ ring_sum r (s + 1) term
  sum_more_at s here sum product new there e is plus =
      sum_more s sum product new e (is ∙ ap (product_at r cells) there) plus

  -- room for the sum
  pub sum_fits : (sum : C) → sum ≡ ring_sum r a.states term → r.size (cell_at r out at) + r.size sum ≤ r.most
  sum_fits sum e =
      omega (arith, sizes_room, ap r.size e, size_sum laws sizes a.states term, nat_sum_le a.states (λ s. r.size (term s)) most (λ s l. term_size s))

  pub sum_adds : (sum : C) (new : List C) → sum ≡ ring_sum r a.states term → AddsCells r (λ p. cond (p == at) sum r.nought) out new → AddsCells r (total r cells (a ∷ []) ds places at) out new
  sum_adds sum new e adds = record {
    each = λ p.
        adds.each p
        ∙ ap (λ x. r.plus (cell_at r out p) (cond (p == at) x r.nought)) e
        ∙ ap (r.plus (cell_at r out p)) (sym (total_sum r laws cells a ds places at p stands));
  }

  -- where the axis has two states
  pub pair_first : IsMet r cells (length out) places at
  pair_first = first_choice (IsMet r cells (length out)) (a ∷ []) ds places at can.are_axes can.met

  pub pair_second : (there : List ℕ) → a.states ≡ 2 → there ≡ shifted 1 ds places → IsMet r cells (length out) there (at + 1 * a.out)
  pair_second there two e = subst (λ ps. IsMet r cells (length out) ps (at + 1 * a.out)) (sym e) (can.met 1 (omega (arith, two)))

  pub one_term : (first : C) → first ≡ product_at r cells places → first ≡ ring_sum r 1 term
  one_term first e =
      e
      ∙ ap (product_at r cells) (sym (shifted_none ds places))
      ∙ sym (laws.plus_comm r.nought (term 0) ∙ laws.plus_nought (term 0))

  pub pair_sum : (first second sum : C) (there : List ℕ) → a.states ≡ 2 → there ≡ shifted 1 ds places → first ≡ product_at r cells places → second ≡ product_at r cells there → sum ≡ r.plus first second → sum ≡ ring_sum r a.states term
  pair_sum first second sum there two e is after plus =
      let more = sum_more 1 first second sum (one_term first is) (after ∙ ap (product_at r cells) e) plus in
      let all : 1 + 1 ≡ a.states = omega (arith, two) in
      subst (λ k. sum ≡ ring_sum r k term) all more

-- A walk along which the first of two operands runs: a product has the same value with its factors
-- turned.
use Rattle.std.proofs.Common.{◌≡◌, ℕ, ◌+◌, ◌*◌, ◌-◌, ◌≤◌, List, [], ◌∷◌, length, refl, sym, ap, subst, ◌∙◌, arith, get_or, cond, ◌==◌}
use Rattle.cell_rings.specs.Rings.{Ring, IsRing, IsSize, mass_ring}
use Rattle.cell_rings.specs.RingLaws.{mass_is_ring}
use Rattle.cell_rings.specs.Sums.{cell_at, product_at, sizes_of, run_sum}
use Rattle.cell_rings.proofs.Adding.{size_at}
use Rattle.factor_core.specs.Walks.{shifted, total, load, IsMet, CanWalk, IsTurned}
use Rattle.factor_core.specs.declared.walks.Axis.{Axis}
use Rattle.factor_core.proofs.RunLemmas.{run_sum_le}
use Rattle.cell_rings.proofs.Together.{ring_sum_cong}
use Rattle.factor_core.proofs.Shifts.{length-shifted, get-shifted}

two_items : (xs : List ℕ) → length xs ≡ 2 → xs ≡ get_or xs 0 0 ∷ (get_or xs 1 0 ∷ [])
two_items [] e = absurd (omega arith)
two_items (x ∷ []) e = absurd (omega arith)
two_items (x ∷ y ∷ []) e = refl
two_items (x ∷ y ∷ z ∷ zs) e = absurd (omega arith)

-- the first place moves by s, the second stands
two_shifted : (s p q : ℕ) (ds : List ℕ) → get_or ds 0 0 ≡ 1 → get_or ds 1 0 ≡ 0 → shifted s ds (p ∷ (q ∷ [])) ≡ (p + s) ∷ (q ∷ [])
two_shifted s p q [] first second = absurd (omega arith)
two_shifted s p q (d ∷ []) first second = let head : p + s * d ≡ p + s = omega (arith, ap (λ k. s * k) first) in ap (λ k. k ∷ (q ∷ [])) head
two_shifted s p q (d ∷ e ∷ ds) first second =
    let head : p + s * d ≡ p + s = omega (arith, ap (λ k. s * k) first) in
    let next : q + s * e ≡ q = omega (arith, ap (λ k. s * k) second) in
    ap (λ k. k ∷ ((q + s * e) ∷ [])) head ∙ ap (λ k. (p + s) ∷ (k ∷ [])) next

module _ (a : Axis) (ds places : List ℕ) (turned : IsTurned a ds (length places)) where
  abbrev from : ℕ
  from = get_or places 0 0

  abbrev still : ℕ
  still = get_or places 1 0

  turned_shifted : (s : ℕ) → shifted s ds places ≡ (from + s) ∷ (still ∷ [])
  turned_shifted s = ap (shifted s ds) (two_items places turned.two) ∙ two_shifted s from still ds turned.first turned.second

  module _ {C : Type 0} (r : Ring C) (laws : IsRing r) (cells : List C) (at : ℕ) where
    turned_product : (s : ℕ) → product_at r cells (shifted s ds places) ≡ r.times (cell_at r cells still) (cell_at r cells (from + s))
    turned_product s =
        let c = cell_at r cells (from + s) in
        let k = cell_at r cells still in
        ap (product_at r cells) (turned_shifted s)
        ∙ ap (λ x. r.times x k) (laws.times_comm r.unit c ∙ laws.times_unit c)
        ∙ laws.times_comm c k

    -- what the walk adds, as a sum over the run
    pub turned_total : (p : ℕ) → total r cells (a ∷ []) ds places at p ≡ run_sum r a.states at (λ i. r.times (cell_at r cells still) (cell_at r cells (from + i))) p
    turned_total p =
        ring_sum_cong r a.states (λ s. cond (p == at + s * a.out) (product_at r cells (shifted s ds places)) r.nought) (λ s. cond (p == at + s) (r.times (cell_at r cells still) (cell_at r cells (from + s))) r.nought)
        (λ s.
        let there : at + s * a.out ≡ at + s = omega (arith, ap (λ k. s * k) turned.out) in
        ap (λ k. cond (p == k) (product_at r cells (shifted s ds places)) r.nought) there ∙ ap (λ x. cond (p == at + s) x r.nought) (turned_product s))

module _ {C : Type 0} {r : Ring C} (laws : IsRing r) (sizes : IsSize r r.size) (cells : List C) (a : Axis) (ds places : List ℕ) (out : List C) (at : ℕ) (turned : IsTurned a ds (length places)) (can : CanWalk r cells (a ∷ []) ds places out at) where
  last_met : IsMet r cells (length out) (shifted (a.states - 1) ds places) (at + (a.states - 1) * a.out)
  last_met = let axis = can.are_axes 0 a (omega arith) in can.met (a.states - 1) (omega (arith, axis.some))

  pub turned_in_out : at + a.states ≤ length out
  turned_in_out =
      let axis = can.are_axes 0 a (omega arith) in
      let there : (a.states - 1) * a.out ≡ a.states - 1 = ap (λ k. (a.states - 1) * k) turned.out ∙ omega arith in
      omega (arith, last_met.out, there, axis.some)

  pub turned_in_cells : get_or places 0 0 + a.states ≤ length cells
  turned_in_cells =
      let axis = can.are_axes 0 a (omega arith) in
      let len = length-shifted (a.states - 1) ds places in
      let moved = get-shifted (a.states - 1) ds places 0 (omega (arith, turned.two)) in
      let one = ap (λ k. (a.states - 1) * k) turned.first in
      omega (arith, last_met.within 0 0 (omega (arith, len, turned.two)), moved, one, axis.some)

  -- the sizes of the run's products are the load
  pub turned_sizes : (p : ℕ) → run_sum mass_ring a.states at (λ i. r.size (cell_at r cells (get_or places 1 0)) * r.size (cell_at r cells (get_or places 0 0 + i))) p ≤ load r cells (a ∷ []) ds places at p
  turned_sizes p =
      let q = get_or places 1 0 in
      let from = get_or places 0 0 in
      let list = sizes_of r cells in
      subst (λ n. run_sum mass_ring a.states at (λ i. r.size (cell_at r cells q) * r.size (cell_at r cells (from + i))) p ≤ n)
      (sym (turned_total a ds places turned mass_ring mass_is_ring list at p))
      (run_sum_le a.states at p (λ i. r.size (cell_at r cells q) * r.size (cell_at r cells (from + i))) (λ i. cell_at mass_ring list q * cell_at mass_ring list (from + i))
      (λ i.
      let same : cell_at mass_ring list q * cell_at mass_ring list (from + i) ≡ r.size (cell_at r cells q) * r.size (cell_at r cells (from + i)) =
      ap (λ n. n * cell_at mass_ring list (from + i)) (size_at laws sizes cells q) ∙ ap (λ n. r.size (cell_at r cells q) * n) (size_at laws sizes cells (from + i)) in
      omega (arith, same)))

-- What a walk adds is no larger than its load.
use Rattle.std.proofs.Common.{ℕ, ◌+◌, ◌*◌, ◌≤◌, List, [], ◌∷◌, drop, length, arith, cond, Bool, true, false, ◌==◌}
use Rattle.cell_rings.specs.Rings.{Ring, IsRing, IsSize, mass_ring}
use Rattle.cell_rings.specs.Sums.{product_at, sizes_of}
use Rattle.cell_rings.proofs.Adding.{nat_sum_le, size_sum, size_product}
use Rattle.factor_core.specs.Walks.{shifted, total, load}
use Rattle.factor_core.specs.declared.walks.Axis.{Axis}

module _ {C : Type 0} {r : Ring C} (laws : IsRing r) (sizes : IsSize r r.size) where
  pub size_total : (cells : List C) (axes : List Axis) (strides places : List ℕ) (at p : ℕ) → r.size (total r cells axes strides places at p) ≤ load r cells axes strides places at p
  size_total cells [] strides places at p = size_if (p == at)
    where
      size_if : (b : Bool) → r.size (cond b (product_at r cells places) r.nought) ≤ cond b (product_at mass_ring (sizes_of r cells) places) 0
      size_if true = size_product laws sizes cells places r.unit 1 (omega (arith, sizes.unit))
      size_if false = omega (arith, sizes.nought)
  size_total cells (a ∷ rest) strides places at p =
      let terms = nat_sum_le a.states (λ s. r.size (total r cells rest (drop (length places) strides) (shifted s strides places) (at + s * a.out) p)) (λ s. load r cells rest (drop (length places) strides) (shifted s strides places) (at + s * a.out) p) (λ s l. size_total cells rest (drop (length places) strides) (shifted s strides places) (at + s * a.out) p) in
      omega (arith, terms, size_sum laws sizes a.states (λ s. total r cells rest (drop (length places) strides) (shifted s strides places) (at + s * a.out) p))

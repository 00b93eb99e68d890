-- Sums of products of two runs.
use Rattle.std.proofs.Common.{◌≡◌, ℕ, suc, ◌+◌, ◌*◌, ◌<◌, ◌≤◌, ap, arith}
use Rattle.std.proofs.Math.Nat.{mul-le-mul_right}
use Rattle.cell_rings.specs.Rings.{Ring, IsRing, IsSize, mass_ring}
use Rattle.cell_rings.specs.Sums.{ring_sum}
use Rattle.cell_rings.proofs.Adding.{nat_sum_le, nat_sum_one_more, size_sum}

module _ {C : Type 0} {r : Ring C} (laws : IsRing r) (sizes : IsSize r r.size) where
  -- a product of three is no larger than the product of the sizes
  pub three_le : (a b c : C) → r.size (r.times a b) * r.size c ≤ r.size a * r.size b * r.size c
  three_le a b c = mul-le-mul_right (r.size c) (sizes.times a b)

  pub three_size : (a b c : C) → r.size (r.times (r.times a b) c) ≤ r.size a * r.size b * r.size c
  three_size a b c = omega (arith, sizes.times (r.times a b) c, three_le a b c)

  -- room for one term more
  pub term_room : (n : ℕ) (f : ℕ → C) (g : ℕ → ℕ) → ((i : ℕ) → r.size (f i) ≤ g i) → ring_sum mass_ring n g ≤ r.most → (i : ℕ) → i < n → r.size (ring_sum r i f) + g i ≤ r.most
  term_room n f g le room i h = omega (arith, size_sum laws sizes i f, nat_sum_le i (λ k. r.size (f k)) g (λ k l. le k), nat_sum_one_more i n g h, room)

pub sum_next : {C : Type 0} (r : Ring C) (i : ℕ) (f : ℕ → C) → ring_sum r (i + 1) f ≡ r.plus (ring_sum r i f) (f i)
sum_next r i f = ap (λ k. ring_sum r k f) (let e : i + 1 ≡ suc i = omega arith in e)

-- Two runs of cells, or four, added one after the other.
use Rattle.std.proofs.Common.{◌≡◌, ℕ, zero, suc, ◌+◌, ◌*◌, ◌≤◌, List, refl, sym, ap, ◌∙◌, arith, cond, Bool, true, false, ◌==◌}
use Rattle.cell_rings.specs.Rings.{Ring, IsRing, IsSize, mass_ring}
use Rattle.cell_rings.specs.RingLaws.{mass_is_ring, mass_sized}
use Rattle.cell_rings.specs.Sums.{ring_sum, cell_at, run_sum, two_scaled, two_sizes, four_scaled, four_sizes, AddsTwo, AddsFour, HasRoomForTwo, HasRoomForFour}
use Rattle.cell_rings.specs.declared.pairs.RunPair.{RunPair}
use Rattle.cell_rings.proofs.Adding.{nat_sum_le, size_sum, adds_then}
use Rattle.cell_rings.proofs.Runs.{size_if, two_le}

pub ring_sum_cong : {C : Type 0} (r : Ring C) (n : ℕ) (f g : ℕ → C) → ((i : ℕ) → f i ≡ g i) → ring_sum r n f ≡ ring_sum r n g
ring_sum_cong r zero f g h = refl
ring_sum_cong r (suc n) f g h =
    let before : ring_sum r n f ≡ ring_sum r n g = ring_sum_cong r n f g h in
    let last = h n in
    cc

module _ {C : Type 0} {r : Ring C} (laws : IsRing r) (sizes : IsSize r r.size) where
  -- sums of sums
  swap : (a b c d : C) → r.plus (r.plus a b) (r.plus c d) ≡ r.plus (r.plus a c) (r.plus b d)
  swap a b c d =
      laws.plus_assoc a b (r.plus c d)
      ∙ ap (r.plus a) (sym (laws.plus_assoc b c d) ∙ ap (λ x. r.plus x d) (laws.plus_comm b c) ∙ laws.plus_assoc c b d)
      ∙ sym (laws.plus_assoc a c (r.plus b d))

  sum_plus : (n : ℕ) (f g : ℕ → C) → ring_sum r n (λ i. r.plus (f i) (g i)) ≡ r.plus (ring_sum r n f) (ring_sum r n g)
  sum_plus zero f g = sym (laws.plus_nought r.nought)
  sum_plus (suc n) f g = ap (λ x. r.plus x (r.plus (f n) (g n))) (sum_plus n f g) ∙ swap (ring_sum r n f) (ring_sum r n g) (f n) (g n)

  if_plus : (b : Bool) (x y : C) → cond b (r.plus x y) r.nought ≡ r.plus (cond b x r.nought) (cond b y r.nought)
  if_plus true x y = refl
  if_plus false x y = sym (laws.plus_nought r.nought)

  pub run_sum_plus : (n at p : ℕ) (f g : ℕ → C) → run_sum r n at (λ i. r.plus (f i) (g i)) p ≡ r.plus (run_sum r n at f p) (run_sum r n at g p)
  run_sum_plus n at p f g =
      ring_sum_cong r n (λ i. cond (p == at + i) (r.plus (f i) (g i)) r.nought) (λ i. r.plus (cond (p == at + i) (f i) r.nought) (cond (p == at + i) (g i) r.nought)) (λ i. if_plus (p == at + i) (f i) (g i))
      ∙ sum_plus n (λ i. cond (p == at + i) (f i) r.nought) (λ i. cond (p == at + i) (g i) r.nought)

module _ {C : Type 0} {r : Ring C} (laws : IsRing r) (sizes : IsSize r r.size) where
  -- a run's sum is no larger than the sizes of its parts
  pub run_size : (n at p : ℕ) (f : ℕ → C) (g : ℕ → ℕ) → ((i : ℕ) → r.size (f i) ≤ g i) → r.size (run_sum r n at f p) ≤ run_sum mass_ring n at g p
  run_size n at p f g le =
      let parts = size_sum laws sizes n (λ i. cond (p == at + i) (f i) r.nought) in
      let each = nat_sum_le n (λ i. r.size (cond (p == at + i) (f i) r.nought)) (λ i. cond (p == at + i) (g i) 0) (λ i l. size_if laws sizes (p == at + i) (f i) (g i) (le i)) in
      omega (arith, parts, each)

-- factors of a kind of cell: a factor's size is that of the cell that it makes
pub record AreFactors {C F : Type 0} (r : Ring C) (of : F → C) (size : F → ℕ) : Type 0 where
  pub laws : IsRing r
  pub sizes : IsSize r r.size
  pub same : (a : F) → r.size (of a) ≡ size a

pub cells_are_factors : {C : Type 0} {r : Ring C} → IsRing r → IsSize r r.size → AreFactors r (λ f. f) r.size
cells_are_factors laws sizes = record { laws = laws; sizes = sizes; same = λ a. refl }

module _ {C F : Type 0} {r : Ring C} {of : F → C} {size : F → ℕ} (factors : AreFactors r of size) (cells : List C) where
  -- what two runs add to a cell is no larger than the sizes say
  pub two_size : (pair : RunPair F) (i : ℕ) → r.size (two_scaled r of cells pair i) ≤ two_sizes r size cells pair i
  two_size pair i =
      let x = cell_at r cells (pair.from + i) in
      let y = cell_at r cells (pair.beside + i) in
      let one = ap (λ s. s * r.size x) (factors.same pair.first) in
      let other = ap (λ s. s * r.size y) (factors.same pair.second) in
      omega (arith, two_le factors.laws factors.sizes (of pair.first) (of pair.second) x y, one, other)

  pub four_size : (one other : RunPair F) (i : ℕ) → r.size (four_scaled r of cells one other i) ≤ four_sizes r size cells one other i
  four_size one other i = omega (arith, factors.sizes.plus (two_scaled r of cells one i) (two_scaled r of cells other i), two_size one i, two_size other i)

  module _ (one other : RunPair F) (n at : ℕ) {xs : List C} where
    -- where there is room for both pairs of runs, there is for the first
    pub room_first : HasRoomForFour r size xs at n cells one other → HasRoomForTwo r size xs at n cells one
    room_first room = record {
      each = λ p.
          let both = run_sum_plus mass_is_ring mass_sized n at p (two_sizes r size cells one) (two_sizes r size cells other) in
          omega (arith, room.each p, both);
    }

    -- and for the second when the first is added
    pub room_then : HasRoomForFour r size xs at n cells one other → {ys : List C} → AddsTwo r of xs ys at n cells one → HasRoomForTwo r size ys at n cells other
    room_then room adds = record {
      each = λ p.
          let f = two_scaled r of cells one in
          let g = two_sizes r size cells one in
          let both = run_sum_plus mass_is_ring mass_sized n at p g (two_sizes r size cells other) in
          let is = ap r.size (adds.each p) in
          omega (arith, room.each p, both, is, factors.sizes.plus (cell_at r xs p) (run_sum r n at f p), run_size factors.laws factors.sizes n at p f g (two_size one));
    }

    -- then both are added
    pub both_added : {ys zs : List C} → AddsTwo r of xs ys at n cells one → AddsTwo r of ys zs at n cells other → AddsFour r of xs zs at n cells one other
    both_added {ys} {zs} first second =
        let f = two_scaled r of cells one in
        let k = two_scaled r of cells other in
        let then = adds_then factors.laws factors.sizes (run_sum r n at f) (run_sum r n at k) xs ys zs first second in
        record { each = λ p. then.each p ∙ ap (r.plus (cell_at r xs p)) (sym (run_sum_plus factors.laws factors.sizes n at p f k)) }

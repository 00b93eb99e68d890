-- Sums in a ring, their sizes, and what a list has had added to it.
use Rattle.std.proofs.Common.{◌≡◌, ℕ, zero, suc, ◌+◌, ◌*◌, ◌<◌, ◌≤◌, ◌-◌, List, [], ◌∷◌, map, sym, ap, subst, ◌∙◌, arith, get_or}
use Rattle.std.proofs.Math.Nat.{mul-le-mul_right}
use Rattle.std.proofs.Math.ListN.{get_or-map}
use Rattle.cell_rings.specs.Rings.{Ring, IsRing, IsSize, mass_ring}
use Rattle.cell_rings.specs.Sums.{ring_sum, cell_at, product_from, sizes_of, ProductFits, AddsCells, HasRoom}

-- sums of numbers grow with their length and with their terms
pub nat_sum_le : (n : ℕ) (f g : ℕ → ℕ) → ((i : ℕ) → i < n → f i ≤ g i) → ring_sum mass_ring n f ≤ ring_sum mass_ring n g
nat_sum_le zero f g h = omega arith
nat_sum_le (suc n) f g h =
    let before : ring_sum mass_ring n f ≤ ring_sum mass_ring n g = nat_sum_le n f g (λ i l. h i (omega arith)) in
    let last : f n ≤ g n = h n (omega arith) in
    omega arith

pub nat_sum_grows : (m d : ℕ) (f : ℕ → ℕ) → ring_sum mass_ring m f ≤ ring_sum mass_ring (m + d) f
nat_sum_grows m zero f = subst (λ k. ring_sum mass_ring m f ≤ ring_sum mass_ring k f) (let e : m ≡ m + 0 = omega arith in e) (omega arith)
nat_sum_grows m (suc d) f =
    let before : ring_sum mass_ring m f ≤ ring_sum mass_ring (m + d) f = nat_sum_grows m d f in
    subst (λ k. ring_sum mass_ring m f ≤ ring_sum mass_ring k f) (let e : suc (m + d) ≡ m + suc d = omega arith in e) (let step : ring_sum mass_ring m f ≤ ring_sum mass_ring (m + d) f + f (m + d) = omega arith in step)

-- the sum of the first terms with one more
pub nat_sum_one_more : (s n : ℕ) (f : ℕ → ℕ) → s < n → ring_sum mass_ring s f + f s ≤ ring_sum mass_ring n f
nat_sum_one_more s n f h =
    let g = nat_sum_grows (suc s) (n - suc s) f in
    subst (λ k. ring_sum mass_ring s f + f s ≤ ring_sum mass_ring k f) (let e : suc s + (n - suc s) ≡ n = omega arith in e) g

module _ {C : Type 0} {r : Ring C} (laws : IsRing r) (sizes : IsSize r r.size) where
  pub adds_none : (xs : List C) → AddsCells r (λ p. r.nought) xs xs
  adds_none xs = record { each = λ p. sym (laws.plus_nought (cell_at r xs p)) }

  pub adds_then : (f g : ℕ → C) (xs ys zs : List C) → AddsCells r f xs ys → AddsCells r g ys zs → AddsCells r (λ p. r.plus (f p) (g p)) xs zs
  adds_then f g xs ys zs a b =
      record { each = λ p. b.each p ∙ ap (λ c. r.plus c (g p)) (a.each p) ∙ laws.plus_assoc (cell_at r xs p) (f p) (g p) }

  pub size_sum : (n : ℕ) (f : ℕ → C) → r.size (ring_sum r n f) ≤ ring_sum mass_ring n (λ i. r.size (f i))
  size_sum zero f = omega (arith, sizes.nought)
  size_sum (suc n) f =
      let before : r.size (ring_sum r n f) ≤ ring_sum mass_ring n (λ i. r.size (f i)) = size_sum n f in
      omega (arith, sizes.plus (ring_sum r n f) (f n))

  pub size_at : (cells : List C) (p : ℕ) → cell_at mass_ring (sizes_of r cells) p ≡ r.size (cell_at r cells p)
  size_at cells p = subst (λ d. get_or (map r.size cells) p d ≡ r.size (cell_at r cells p)) sizes.nought (get_or-map r.size cells p r.nought)

  pub size_product : (cells : List C) (places : List ℕ) (x : C) (n : ℕ) → r.size x ≤ n → r.size (product_from r cells x places) ≤ product_from mass_ring (sizes_of r cells) n places
  size_product cells [] x n h = h
  size_product cells (p ∷ ps) x n h =
      size_product cells ps (r.times x (cell_at r cells p)) (n * cell_at mass_ring (sizes_of r cells) p)
      (let times : r.size x * r.size (cell_at r cells p) ≤ n * r.size (cell_at r cells p) = mul-le-mul_right (r.size (cell_at r cells p)) h in
      let at = size_at cells p in
      let e : n * cell_at mass_ring (sizes_of r cells) p ≡ n * r.size (cell_at r cells p) = ap (λ k. n * k) at in
      omega (arith, sizes.times x (cell_at r cells p)))

  -- room for one part more, after the parts before it
  pub room_for_next : (n s : ℕ) (f : ℕ → ℕ → C) (g : ℕ → ℕ → ℕ) (xs ys : List C) → s < n → ((i p : ℕ) → r.size (f i p) ≤ g i p) → HasRoom r xs (λ p. ring_sum mass_ring n (λ i. g i p)) → AddsCells r (λ p. ring_sum r s (λ i. f i p)) xs ys → HasRoom r ys (g s)
  room_for_next n s f g xs ys h le room adds = record {
    each = λ p.
        let is = ap r.size (adds.each p) in
        let more = nat_sum_one_more s n (λ i. g i p) h in
        let terms = nat_sum_le s (λ i. r.size (f i p)) (λ i. g i p) (λ i l. le i p) in
        omega (arith, is, more, terms, sizes.plus (cell_at r xs p) (ring_sum r s (λ i. f i p)), size_sum s (λ i. f i p), room.each p);
  }

  -- a smaller product before leaves as much room
  pub fits_less : (cells : List C) (places : List ℕ) (m n : ℕ) → m ≤ n → ProductFits r cells n places → ProductFits r cells m places
  fits_less cells [] m n h f = tt
  fits_less cells (p ∷ ps) m n h f =
      let times : m * r.size (cell_at r cells p) ≤ n * r.size (cell_at r cells p) = mul-le-mul_right (r.size (cell_at r cells p)) h in
      (omega (arith, f.0), fits_less cells ps (m * r.size (cell_at r cells p)) (n * r.size (cell_at r cells p)) times f.1)

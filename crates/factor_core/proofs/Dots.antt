-- A walk over one axis along which the result stands, as a sum of products of runs.
use Rattle.std.proofs.Common.{◌≡◌, ℕ, zero, suc, ◌+◌, ◌*◌, ◌-◌, ◌<◌, ◌≤◌, List, [], ◌∷◌, ◌++◌, take, drop, length, refl, sym, ap, subst, ◌∙◌, arith, get_or, cond, Bool, true, false, ◌==◌}
use Rattle.std.specs.Prelude.{All}
use Rattle.std.proofs.Math.Nat.{mul-le-mul_right}
use Rattle.std.proofs.lemmas.List.{take-append-drop, get_or-take, get_or-drop, length-take-le, length-drop}
use Rattle.cell_rings.specs.Rings.{Ring, IsRing, IsSize, mass_ring}
use Rattle.cell_rings.specs.Sums.{ring_sum, cell_at, product_from, product_at, sizes_of, ProductFits, AddsCells}
use Rattle.cell_rings.specs.RingLaws.{mass_is_ring}
use Rattle.cell_rings.proofs.Adding.{nat_sum_le, size_at, size_sum, size_product, fits_less}
use Rattle.cell_rings.proofs.Dots.{term_room}
use Rattle.cell_rings.proofs.Runs.{chosen}
use Rattle.factor_core.specs.Walks.{shifted, further, total, IsMet, CanWalk, IsDot}
use Rattle.factor_core.specs.declared.walks.Axis.{Axis}
use Rattle.factor_core.proofs.Shifts.{length-shifted, get-shifted, first_choice}
use Rattle.factor_core.proofs.RunLemmas.{fits_before}
use Rattle.cell_rings.proofs.Together.{ring_sum_cong}

-- the last places move by s, the others stand
pub dot_shift : (s : ℕ) (front ms ds : List ℕ) → ((i : ℕ) → i < length front → get_or ds i 0 ≡ 0) → ((i : ℕ) → length front ≤ i → i < length front + length ms → get_or ds i 0 ≡ 1) → shifted s ds (front ++ ms) ≡ front ++ further s ms
dot_shift s [] [] ds fixed moving = refl
dot_shift s [] (m ∷ ms) [] fixed moving = absurd (let no : 0 ≡ 1 = moving 0 (omega arith) (omega arith) in omega arith)
dot_shift s [] (m ∷ ms) (d ∷ ds) fixed moving =
    let one : d ≡ 1 = moving 0 (omega arith) (omega arith) in
    let head : m + s * d ≡ m + s = omega (arith, ap (λ k. s * k) one) in
    let tail = dot_shift s [] ms ds (λ i h. absurd (omega arith)) (λ i a b. moving (suc i) (omega arith) (omega arith)) in
    cc
dot_shift s (p ∷ front) [] [] fixed moving = refl
dot_shift s (p ∷ front) (m ∷ ms) [] fixed moving = absurd (let no : 0 ≡ 1 = moving (length (p ∷ front)) (omega arith) (omega arith) in omega arith)
dot_shift s (p ∷ front) ms (d ∷ ds) fixed moving =
    let none : d ≡ 0 = fixed 0 (omega arith) in
    let head : p + s * d ≡ p = omega (arith, ap (λ k. s * k) none) in
    let tail = dot_shift s front ms ds (λ i h. fixed (suc i) (omega arith)) (λ i a b. moving (suc i) (omega arith) (omega arith)) in
    cc

pub product-two : {C : Type 0} (r : Ring C) (cells : List C) (x : C) (ps qs : List ℕ) → product_from r cells x (ps ++ qs) ≡ product_from r cells (product_from r cells x ps) qs
product-two r cells x [] qs = refl
product-two r cells x (p ∷ ps) qs = product-two r cells (r.times x (cell_at r cells p)) ps qs

sum_none : {C : Type 0} (r : Ring C) → IsRing r → (n : ℕ) → ring_sum r n (λ s. r.nought) ≡ r.nought
sum_none r laws zero = refl
sum_none r laws (suc n) = laws.plus_nought (ring_sum r n (λ s. r.nought)) ∙ sum_none r laws n

pub sum_if : {C : Type 0} (r : Ring C) → IsRing r → (n : ℕ) (b : Bool) (f : ℕ → C) → ring_sum r n (λ s. cond b (f s) r.nought) ≡ cond b (ring_sum r n f) r.nought
sum_if r laws n true f = refl
sum_if r laws n false f = sum_none r laws n

product_grows : (cells ps : List ℕ) (m n : ℕ) → m ≤ n → product_from mass_ring cells m ps ≤ product_from mass_ring cells n ps
product_grows cells [] m n h = h
product_grows cells (p ∷ ps) m n h = product_grows cells ps (m * cell_at mass_ring cells p) (n * cell_at mass_ring cells p) (mul-le-mul_right (cell_at mass_ring cells p) h)

module _ (a : Axis) (stand : ℕ) (ds places : List ℕ) (dot : IsDot a ds stand (length places)) where
  abbrev front : List ℕ
  front = take stand places

  abbrev movers : List ℕ
  movers = drop stand places

  len_front : length (take stand places) ≡ stand
  len_front = length-take-le stand places dot.within

  len_movers : length (drop stand places) ≡ length places - stand
  len_movers = length-drop stand places

  pub dot_shifted : (s : ℕ) → shifted s ds places ≡ front ++ further s movers
  dot_shifted s =
      ap (shifted s ds) (sym (take-append-drop stand places))
      ∙ dot_shift s front movers ds (λ i h. dot.fixed i (omega (arith, len_front))) (λ i h l. dot.moving i (omega (arith, len_front)) (omega (arith, len_front, len_movers, dot.within)))

  -- what the walk adds
  pub dot_total : {C : Type 0} (r : Ring C) → IsRing r → (cells : List C) (at p : ℕ) → total r cells (a ∷ []) ds places at p ≡ cond (p == at) (ring_sum r a.states (λ s. product_from r cells (product_at r cells front) (further s movers))) r.nought
  dot_total r laws cells at p =
      ring_sum_cong r a.states (λ s. cond (p == at + s * a.out) (product_at r cells (shifted s ds places)) r.nought) (λ s. cond (p == at) (product_from r cells (product_at r cells front) (further s movers)) r.nought)
      (λ s.
      let there : at + s * a.out ≡ at = omega (arith, ap (λ k. s * k) dot.out) in
      let product = ap (product_at r cells) (dot_shifted s) ∙ product-two r cells r.unit front (further s movers) in
      ap (λ k. cond (p == k) (product_at r cells (shifted s ds places)) r.nought) there ∙ ap (λ x. cond (p == at) x r.nought) product)
      ∙ sum_if r laws a.states (p == at) (λ s. product_from r cells (product_at r cells front) (further s movers))

module _ {C : Type 0} {r : Ring C} (laws : IsRing r) (sizes : IsSize r r.size) where
  fits_behind : (cells : List C) (n : ℕ) (ps qs : List ℕ) → ProductFits r cells n (ps ++ qs) → ProductFits r cells (product_from mass_ring (sizes_of r cells) n ps) qs
  fits_behind cells n [] qs f = f
  fits_behind cells n (p ∷ ps) qs f =
      subst (λ k. ProductFits r cells (product_from mass_ring (sizes_of r cells) (n * k) ps) qs) (sym (size_at laws sizes cells p))
      (fits_behind cells (n * r.size (cell_at r cells p)) ps qs f.1)

  module _ (cells : List C) (a : Axis) (stand : ℕ) (ds places : List ℕ) (out : List C) (at : ℕ) (dot : IsDot a ds stand (length places)) (can : CanWalk r cells (a ∷ []) ds places out at) where
    first_met : IsMet r cells (length out) places at
    first_met = first_choice (IsMet r cells (length out)) (a ∷ []) ds places at can.are_axes can.met

    some : 0 < a.states
    some = let axis = can.are_axes 0 a (omega arith) in axis.some

    pub dot_front_within : All (λ p. p < length cells) (take stand places)
    dot_front_within = λ k d h.
        let len = length-take-le stand places dot.within in
        subst (λ p. p < length cells) (sym (get_or-take stand places k d (omega (arith, len)))) (first_met.within k d (omega (arith, len, dot.within)))

    pub dot_front_fits : ProductFits r cells 1 (take stand places)
    dot_front_fits = fits_before r cells 1 (take stand places) (drop stand places) (subst (ProductFits r cells 1) (sym (take-append-drop stand places)) first_met.fits)

    pub dot_within : All (λ p. p + a.states ≤ length cells) (drop stand places)
    dot_within = λ k d h.
        let len = length-drop stand places in
        let in_places : stand + k < length places = omega (arith, len) in
        let last = can.met (a.states - 1) (omega (arith, some)) in
        let moved = get-shifted (a.states - 1) ds places (stand + k) in_places in
        let one = ap (λ j. (a.states - 1) * j) (dot.moving (stand + k) (omega arith) in_places) in
        let there = last.within (stand + k) 0 (omega (arith, length-shifted (a.states - 1) ds places)) in
        subst (λ p. p + a.states ≤ length cells) (sym (get_or-drop stand places k d ∙ get_or_same places (stand + k) d 0 in_places)) (omega (arith, there, moved, one, some))
      where
        get_or_same : (xs : List ℕ) (i d e : ℕ) → i < length xs → get_or xs i d ≡ get_or xs i e
        get_or_same [] i d e h = absurd (omega arith)
        get_or_same (x ∷ xs) zero d e h = refl
        get_or_same (x ∷ xs) (suc i) d e h = get_or_same xs i d e (omega arith)

    pub dot_fits : (factor : C) → r.size factor ≤ product_at mass_ring (sizes_of r cells) (take stand places) → (s : ℕ) → s < a.states → ProductFits r cells (r.size factor) (further s (drop stand places))
    dot_fits factor h s l =
        let met = can.met s l in
        fits_less laws sizes cells (further s (drop stand places)) (r.size factor) (product_at mass_ring (sizes_of r cells) (take stand places)) h
        (fits_behind cells 1 (take stand places) (further s (drop stand places)) (subst (ProductFits r cells 1) (dot_shifted a stand ds places dot s) met.fits))

    -- the sizes of what is added
    pub dot_sizes : (factor : C) → r.size factor ≤ product_at mass_ring (sizes_of r cells) (take stand places) → r.size (cell_at r out at) + ring_sum mass_ring a.states (λ s. product_from mass_ring (sizes_of r cells) (r.size factor) (further s (drop stand places))) ≤ r.most
    dot_sizes factor h =
        let lists = sizes_of r cells in
        let whole = ring_sum mass_ring a.states (λ s. product_from mass_ring lists (product_at mass_ring lists (take stand places)) (further s (drop stand places))) in
        let less = nat_sum_le a.states (λ s. product_from mass_ring lists (r.size factor) (further s (drop stand places))) (λ s. product_from mass_ring lists (product_at mass_ring lists (take stand places)) (further s (drop stand places))) (λ s l. product_grows lists (further s (drop stand places)) (r.size factor) (product_at mass_ring lists (take stand places)) h) in
        let is = dot_total a stand ds places dot mass_ring mass_is_ring lists at at ∙ chosen at at whole 0 refl in
        omega (arith, less, is, can.room.each at)

    pub dot_size : (factor sum : C) → r.size factor ≤ product_at mass_ring (sizes_of r cells) (take stand places) → sum ≡ ring_sum r a.states (λ s. product_from r cells factor (further s (drop stand places))) → r.size (cell_at r out at) + r.size sum ≤ r.most
    dot_size factor sum h e =
        let lists = sizes_of r cells in
        let terms = nat_sum_le a.states (λ s. r.size (product_from r cells factor (further s (drop stand places)))) (λ s. product_from mass_ring lists (r.size factor) (further s (drop stand places))) (λ s l. size_product laws sizes cells (further s (drop stand places)) factor (r.size factor) (omega arith)) in
        omega (arith, ap r.size e, size_sum laws sizes a.states (λ s. product_from r cells factor (further s (drop stand places))), terms, dot_sizes factor h)

    pub dot_adds : (factor sum : C) → factor ≡ product_at r cells (take stand places) → sum ≡ ring_sum r a.states (λ s. product_from r cells factor (further s (drop stand places))) → (new : List C) → AddsCells r (λ p. cond (p == at) sum r.nought) out new → AddsCells r (total r cells (a ∷ []) ds places at) out new
    dot_adds factor sum e is new adds = record {
      each = λ p.
          adds.each p
          ∙ ap (λ x. r.plus (cell_at r out p) (cond (p == at) x r.nought)) (is ∙ ap (λ x. ring_sum r a.states (λ s. product_from r cells x (further s (drop stand places)))) e)
          ∙ ap (r.plus (cell_at r out p)) (sym (dot_total a stand ds places dot r laws cells at p));
    }

    pub dot_at : at < length out
    dot_at = first_met.out

pub two_places : (ps : List ℕ) → length ps ≡ 2 → ps ≡ get_or ps 0 0 ∷ (get_or ps 1 0 ∷ [])
two_places [] h = absurd (omega arith)
two_places (p ∷ []) h = absurd (omega arith)
two_places (p ∷ q ∷ []) h = refl
two_places (p ∷ q ∷ t ∷ ps) h = absurd (omega arith)

-- the room for two runs, by the sizes of their cells
pub room_of_two : {C : Type 0} {r : Ring C} → IsRing r → IsSize r r.size → (cells : List C) (n k p q : ℕ) → ring_sum mass_ring n (λ s. product_from mass_ring (sizes_of r cells) k (further s (p ∷ (q ∷ [])))) ≤ r.most → ring_sum mass_ring n (λ i. k * r.size (cell_at r cells (p + i)) * r.size (cell_at r cells (q + i))) ≤ r.most
room_of_two {C} {r} laws sizes cells n k p q h =
    let same = ring_sum_cong mass_ring n (λ i. k * r.size (cell_at r cells (p + i)) * r.size (cell_at r cells (q + i))) (λ s. product_from mass_ring (sizes_of r cells) k (further s (p ∷ (q ∷ []))))
    (λ i.
    ap (λ x. k * x * r.size (cell_at r cells (q + i))) (sym (size_at laws sizes cells (p + i)))
    ∙ ap (λ x. k * cell_at mass_ring (sizes_of r cells) (p + i) * x) (sym (size_at laws sizes cells (q + i)))) in
    omega (arith, same, h)

-- room for one product more of a factor and cells further along
pub along_fits : {C : Type 0} {r : Ring C} → IsRing r → IsSize r r.size → (cells : List C) (places : List ℕ) (factor : C) (n : ℕ) → ring_sum mass_ring n (λ s. product_from mass_ring (sizes_of r cells) (r.size factor) (further s places)) ≤ r.most → (s : ℕ) (sum product : C) → s < n → sum ≡ ring_sum r s (λ s. product_from r cells factor (further s places)) → product ≡ product_from r cells factor (further s places) → r.size sum + r.size product ≤ r.most
along_fits {C} {r} laws sizes cells places factor n room s sum product h e is =
    let f = λ (s : ℕ). product_from r cells factor (further s places) in
    let most = λ (s : ℕ). product_from mass_ring (sizes_of r cells) (r.size factor) (further s places) in
    let size = λ (s : ℕ). size_product laws sizes cells (further s places) factor (r.size factor) (omega arith) in
    omega (arith, term_room laws sizes n f most size room s h, size s, ap r.size e, ap r.size is)

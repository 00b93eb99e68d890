-- A walk over one axis that is a run, as a sum over a run of cells.
use Rattle.std.proofs.Common.{◌≡◌, ℕ, suc, ◌+◌, ◌*◌, ◌-◌, ◌<◌, ◌≤◌, List, [], ◌∷◌, ◌++◌, take, length, refl, sym, ap, subst, ◌∙◌, arith, get_or, cond, Bool, true, false, ◌==◌}
use Rattle.std.proofs.lemmas.List.{take_more, take_all, length-take-le}
use Rattle.cell_rings.specs.Rings.{Ring, IsRing, IsSize, mass_ring}
use Rattle.cell_rings.specs.Sums.{cell_at, product_from, product_at, sizes_of, ProductFits, run_sum}
use Rattle.cell_rings.proofs.Adding.{nat_sum_le, size_at}
use Rattle.cell_rings.proofs.Together.{ring_sum_cong}
use Rattle.factor_core.specs.Walks.{shifted, total, load, IsMet, CanWalk, IsRun}
use Rattle.factor_core.specs.declared.walks.Axis.{Axis}
use Rattle.std.proofs.Math.Nat.{mul-le-mul_right}
use Rattle.factor_core.proofs.Shifts.{length-shifted, get-shifted}

pub product-append : {C : Type 0} (r : Ring C) (cells : List C) (x : C) (ps : List ℕ) (p : ℕ) → product_from r cells x (ps ++ p ∷ []) ≡ r.times (product_from r cells x ps) (cell_at r cells p)
product-append r cells x [] p = refl
product-append r cells x (q ∷ qs) p = product-append r cells (r.times x (cell_at r cells q)) qs p

pub fits_before : {C : Type 0} (r : Ring C) (cells : List C) (n : ℕ) (ps qs : List ℕ) → ProductFits r cells n (ps ++ qs) → ProductFits r cells n ps
fits_before r cells n [] qs f = tt
fits_before r cells n (p ∷ ps) qs f = (f.0, fits_before r cells (n * r.size (cell_at r cells p)) ps qs f.1)

-- the last place moves by s, the others stand
pub run_shift : (s l : ℕ) (front ds : List ℕ) → ((i : ℕ) → i < length front → get_or ds i 0 ≡ 0) → get_or ds (length front) 0 ≡ 1 → shifted s ds (front ++ l ∷ []) ≡ front ++ (l + s) ∷ []
run_shift s l [] [] fixed last = absurd (omega arith)
run_shift s l [] (d ∷ ds) fixed last = ap (λ k. k ∷ []) (let e : l + s * d ≡ l + s = omega (arith, ap (λ k. s * k) last) in e)
run_shift s l (p ∷ front) [] fixed last = absurd (omega arith)
run_shift s l (p ∷ front) (d ∷ ds) fixed last =
    let none : d ≡ 0 = fixed 0 (omega arith) in
    let head : p + s * d ≡ p = omega (arith, ap (λ k. s * k) none) in
    let tail = run_shift s l front ds (λ i h. fixed (suc i) (omega arith)) last in
    cc

-- a list that is not empty is what stands before its last item, and that item
pub split_last : (places : List ℕ) → 0 < length places → places ≡ take (length places - 1) places ++ get_or places (length places - 1) 0 ∷ []
split_last places h =
    let one_less : length places - 1 < length places = omega arith in
    let all : length places ≤ (length places - 1) + 1 = omega arith in
    sym (take_all ((length places - 1) + 1) places all) ∙ take_more places (length places - 1) 0 one_less

pub length_front : (places : List ℕ) → 0 < length places → length (take (length places - 1) places) ≡ length places - 1
length_front places h = length-take-le (length places - 1) places (omega arith)

module _ (a : Axis) (ds places : List ℕ) (run : IsRun a ds (length places)) where
  abbrev front : List ℕ
  front = take (length places - 1) places

  abbrev from : ℕ
  from = get_or places (length places - 1) 0

  pub run_shifted : (s : ℕ) → shifted s ds places ≡ front ++ (from + s) ∷ []
  run_shifted s =
      let len = length_front places run.some in
      let moved = run_shift s from front ds (λ i h. run.fixed i (omega (arith, len))) (subst (λ k. get_or ds k 0 ≡ 1) (sym len) run.last) in
      ap (shifted s ds) (split_last places run.some) ∙ moved

  module _ {C : Type 0} (r : Ring C) (cells : List C) (at : ℕ) where
    -- what the walk adds, as a sum over the run
    pub run_total : (p : ℕ) → total r cells (a ∷ []) ds places at p ≡ run_sum r a.states at (λ i. r.times (product_at r cells front) (cell_at r cells (from + i))) p
    run_total p =
        ring_sum_cong r a.states (λ s. cond (p == at + s * a.out) (product_at r cells (shifted s ds places)) r.nought) (λ s. cond (p == at + s) (r.times (product_at r cells front) (cell_at r cells (from + s))) r.nought)
        (λ s.
        let there : at + s * a.out ≡ at + s = omega (arith, ap (λ k. s * k) run.out) in
        let product = ap (product_at r cells) (run_shifted s) ∙ product-append r cells r.unit front (from + s) in
        ap (λ k. cond (p == k) (product_at r cells (shifted s ds places)) r.nought) there ∙ ap (λ x. cond (p == at + s) x r.nought) product)

pub if_le : (b : Bool) (m n : ℕ) → m ≤ n → cond b m 0 ≤ cond b n 0
if_le true m n h = h
if_le false m n h = omega arith

pub run_sum_le : (n at p : ℕ) (f g : ℕ → ℕ) → ((i : ℕ) → f i ≤ g i) → run_sum mass_ring n at f p ≤ run_sum mass_ring n at g p
run_sum_le n at p f g h = nat_sum_le n (λ i. cond (p == at + i) (f i) 0) (λ i. cond (p == at + i) (g i) 0) (λ i l. if_le (p == at + i) (f i) (g i) (h i))

module _ {C : Type 0} {r : Ring C} (laws : IsRing r) (sizes : IsSize r r.size) where
  -- the sizes of a run's products are within the load
  pub run_load_le : (cells : List C) (a : Axis) (ds places : List ℕ) (at : ℕ) → IsRun a ds (length places) → (factor : C) → r.size factor ≤ product_at mass_ring (sizes_of r cells) (take (length places - 1) places) → (p : ℕ) → run_sum mass_ring a.states at (λ i. r.size factor * r.size (cell_at r cells (get_or places (length places - 1) 0 + i))) p ≤ load r cells (a ∷ []) ds places at p
  run_load_le cells a ds places at run factor h p =
      let last = get_or places (length places - 1) 0 in
      let front = take (length places - 1) places in
      let lists = sizes_of r cells in
      subst (λ n. run_sum mass_ring a.states at (λ i. r.size factor * r.size (cell_at r cells (last + i))) p ≤ n)
      (sym (run_total a ds places run mass_ring lists at p))
      (run_sum_le a.states at p (λ i. r.size factor * r.size (cell_at r cells (last + i))) (λ i. product_at mass_ring lists front * cell_at mass_ring lists (last + i))
      (λ i. subst (λ n. r.size factor * r.size (cell_at r cells (last + i)) ≤ product_at mass_ring lists front * n) (sym (size_at laws sizes cells (last + i))) (mul-le-mul_right (r.size (cell_at r cells (last + i))) h)))

  module _ (cells : List C) (a : Axis) (ds places : List ℕ) (out : List C) (at : ℕ) (run : IsRun a ds (length places)) (can : CanWalk r cells (a ∷ []) ds places out at) where
    -- the last choice of a state
    last_choice : IsMet r cells (length out) (shifted (a.states - 1) ds places) (at + (a.states - 1) * a.out)
    last_choice = let axis = can.are_axes 0 a (omega arith) in can.met (a.states - 1) (omega (arith, axis.some))

    pub run_in_out : at + a.states ≤ length out
    run_in_out =
        let axis = can.are_axes 0 a (omega arith) in
        let there : (a.states - 1) * a.out ≡ a.states - 1 = ap (λ k. (a.states - 1) * k) run.out ∙ omega arith in
        omega (arith, last_choice.out, there, axis.some)

    pub run_in_cells : get_or places (length places - 1) 0 + a.states ≤ length cells
    run_in_cells =
        let axis = can.are_axes 0 a (omega arith) in
        let len = length-shifted (a.states - 1) ds places in
        let moved = get-shifted (a.states - 1) ds places (length places - 1) (omega (arith, run.some)) in
        let one = ap (λ k. (a.states - 1) * k) run.last in
        omega (arith, last_choice.within (length places - 1) 0 (omega (arith, len, run.some)), moved, one, axis.some)

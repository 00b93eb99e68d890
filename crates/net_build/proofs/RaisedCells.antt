-- Cells raised to a greater scale are the values to that scale.
use Rattle.std.proofs.Common.{◌≡◌, ◌⊎◌, inl, inr, ◌<◌, ◌≤◌, ◌+◌, ◌-◌, ◌*◌, ◌/◌, ◌^◌, ℕ, suc, ℤ, pos, ◌*ℤ◌, unsigned_abs, FitsSigned, to_z, of_z, List, [], ◌∷◌, All, length, get_or, set, get_or-set_other, get_or-set_same, map, refl, sym, ap, subst, ◌∙◌, arith}
use Rattle.std.specs.Int.{w128}
use Rattle.std.proofs.lemmas.Int.{fits_signed_from_abs, ints, to_z-of_z, to_z_pos, unsigned_abs-mul}
use Rattle.std.proofs.lemmas.List.{ext_get_or, get_or-map, length-map, length-set}
use Rattle.std.proofs.lemmas.List.Elements.{All-map}
use Rattle.std.proofs.lemmas.Nat.{pow-add}
use Rattle.std.proofs.Math.IntN.{pos-*ℤ-pos}
use Rattle.std.proofs.Math.Nat.{le-div_iff_mul-le, mul-le-mul_left, mul_assoc, pow-le-pow_right}
use Rattle.finite_sums.proofs.Ints as whole
use Rattle.maid_model.specs.Diagrams.{greatest_number}
use Rattle.weight_scale.specs.declared.decimal.Decimal.{Decimal}
use Rattle.net_build.specs.TableParts.{AreScaled, Fits, FitsRaised, IsReachedIn, raised_by, value_at_scale}
use Rattle.net_build.specs.Zero.{nought}
use Rattle.net_build.proofs.ScaleLemmas.{tens_positive}

-- the tens to the greater scale are those to the lesser, and those that are missing
tens_more : (a k scale : ℕ) → a ≤ k → k ≤ scale → 10 ^ (scale - a) ≡ 10 ^ (k - a) * 10 ^ (scale - k)
tens_more a k scale h g = let e : scale - a ≡ (k - a) + (scale - k) = omega arith in ap (λ x. 10 ^ x) e ∙ pow-add 10 (k - a) (scale - k)

times_twice : (m : ℤ) (t u : ℕ) → (m *ℤ pos t) *ℤ pos u ≡ m *ℤ pos (t * u)
times_twice m t u = whole.mul_assoc m (pos t) (pos u) ∙ ap (λ z. m *ℤ z) (pos-*ℤ-pos t u)

-- with none missing they stay
pub raised_none : (cells : List ℤ) (more : ℕ) → more ≡ 0 → cells ≡ map (raised_by more) cells
raised_none [] more none = refl
raised_none (x ∷ cells) more none = ap (λ z. z ∷ cells) (times_one x (10 ^ more) (ap (λ n. 10 ^ n) none)) ∙ ap (λ zs. raised_by more x ∷ zs) (raised_none cells more none) where
  times_one : (z : ℤ) (n : ℕ) → n ≡ 1 → z ≡ z *ℤ pos n
  times_one z n e = rw e (omega (arith, ints))

pub value_again : (d : Decimal) (k scale : ℕ) → d.k ≤ k → k ≤ scale → raised_by (scale - k) (value_at_scale k d) ≡ value_at_scale scale d
value_again d k scale h g = times_twice d.m (10 ^ (k - d.k)) (10 ^ (scale - k)) ∙ ap (λ n. d.m *ℤ pos n) (sym (tens_more d.k k scale h g))

-- the size of a raised cell is that of its value to scale
size_again : (d : Decimal) (k scale : ℕ) → d.k ≤ k → k ≤ scale → unsigned_abs (value_at_scale k d) * 10 ^ (scale - k) ≡ unsigned_abs d.m * 10 ^ (scale - d.k)
size_again d k scale h g = ap (λ n. n * 10 ^ (scale - k)) (unsigned_abs-mul d.m (pos (10 ^ (k - d.k)))) ∙ mul_assoc (unsigned_abs d.m) (10 ^ (k - d.k)) (10 ^ (scale - k)) ∙ ap (λ n. unsigned_abs d.m * n) (sym (tens_more d.k k scale h g))

all_again : (ds : List Decimal) (k scale : ℕ) → All (λ d. d.k ≤ k) ds → k ≤ scale → map (raised_by (scale - k)) (map (value_at_scale k) ds) ≡ map (value_at_scale scale) ds
all_again [] k scale most g = refl
all_again (d ∷ ds) k scale most g =
    let first : raised_by (scale - k) (value_at_scale k d) ≡ value_at_scale scale d = value_again d k scale (most 0 d (omega arith)) g in
    let rest = all_again ds k scale (λ i e h. most (suc i) e (omega (arith, h))) g in
    ap (λ x. x ∷ map (raised_by (scale - k)) (map (value_at_scale k) ds)) first ∙ ap (λ xs. value_at_scale scale d ∷ xs) rest

-- a scale that all values are whole to is no less than the most decimals
pub scale_enough : (ds : List Decimal) (k : ℕ) (cells : List ℤ) (scale : ℕ) → AreScaled ds k cells → All (λ d. d.k ≤ scale) ds → k ≤ scale
scale_enough ds k cells scale are few = by_order (order k) where
  order : (n : ℕ) → (n ≡ 0) ⊎ (0 < n)
  order n = grind arith

  of_one : IsReachedIn ds k → k ≤ scale
  of_one (i, within, is) = subst (λ n. n ≤ scale) is (few i nought within)

  by_order : (k ≡ 0) ⊎ (0 < k) → k ≤ scale
  by_order (inl e) = omega (arith, e)
  by_order (inr some) = of_one (are.scale.reached some)

module _ (ds : List Decimal) (k : ℕ) (cells : List ℤ) (are : AreScaled ds k cells) (scale : ℕ) (enough : k ≤ scale) where
  pub few_to : All (λ d. d.k ≤ scale) ds
  few_to i d h = omega (arith, enough, are.scale.most i d h)

  pub raised_are : map (raised_by (scale - k)) cells ≡ map (value_at_scale scale) ds
  raised_are = ap (map (raised_by (scale - k))) are.cells_are ∙ all_again ds k scale are.scale.most enough

  -- the values fit where the cells can be raised, and only there
  pub fit_to : All (FitsRaised (scale - k)) cells → All (Fits scale) ds
  fit_to all i d h =
      let within : i < length (map (value_at_scale k) ds) = omega (arith, h, length-map ds (value_at_scale k)) in
      let here : FitsRaised (scale - k) (value_at_scale k (get_or ds i d)) = subst (FitsRaised (scale - k)) (get_or-map (value_at_scale k) ds i d (pos 0) h) (subst (All (FitsRaised (scale - k))) are.cells_are all i (pos 0) within) in
      subst (λ n. n ≤ greatest_number) (size_again (get_or ds i d) k scale (are.scale.most i d h) enough) here

  pub fit_from : All (Fits scale) ds → All (FitsRaised (scale - k)) cells
  fit_from all = subst (All (FitsRaised (scale - k))) (sym are.cells_are) (All-map (FitsRaised (scale - k)) (value_at_scale k) ds (λ i d h. subst (λ n. n ≤ greatest_number) (sym (size_again (get_or ds i d) k scale (are.scale.most i d h) enough)) (all i d h)))

-- raising one cell
small_fits : (x : ℤ) → unsigned_abs x ≤ greatest_number → FitsSigned w128 x
small_fits x small = fits_signed_from_abs w128 x (below (unsigned_abs x) small) where
  below : (n : ℕ) → n ≤ greatest_number → n < 2 ^ 127
  below n h = omega (arith, h)

tens_small : (more : ℕ) → more ≤ 30 → 10 ^ more < 2 ^ 127
tens_small more few = omega (arith, pow-le-pow_right {n = 10} (omega arith) {i = more} {j = 30} few)

pub tens_signed : (more : ℕ) → more ≤ 30 → FitsSigned w128 (pos (10 ^ more))
tens_signed more few = fits_signed_from_abs w128 (pos (10 ^ more)) (tens_small more few)

cell_small : (x : ℤ) (more : ℕ) → FitsRaised more x → unsigned_abs x ≤ greatest_number
cell_small x more fits = omega (arith, mul-le-mul_left {m = 1} {n = 10 ^ more} (unsigned_abs x) (tens_positive more), fits)

-- as the code has it
module _ (x : ℤ) (more tens : ℕ) (few : more ≤ 30) (is : tens ≡ 10 ^ more) (fits : FitsRaised more x) where
  tens_are : to_z w128 tens ≡ pos (10 ^ more)
  tens_are = ap (to_z w128) is ∙ to_z_pos w128 (10 ^ more) (tens_small more few)

  product_is : to_z w128 (of_z w128 x) *ℤ to_z w128 tens ≡ raised_by more x
  product_is = ap (λ z. z *ℤ to_z w128 tens) (to_z-of_z w128 x (small_fits x (cell_small x more fits))) ∙ ap (λ z. x *ℤ z) tens_are

  raised_fits : FitsSigned w128 (raised_by more x)
  raised_fits = small_fits (raised_by more x) (subst (λ n. n ≤ greatest_number) (sym (unsigned_abs-mul x (pos (10 ^ more)))) fits)

  pub product_fits : FitsSigned w128 (to_z w128 (of_z w128 x) *ℤ to_z w128 tens)
  product_fits = subst (FitsSigned w128) (sym product_is) raised_fits

  pub written_is : to_z w128 (of_z w128 (to_z w128 (of_z w128 x) *ℤ to_z w128 tens)) ≡ raised_by more x
  written_is = to_z-of_z w128 (to_z w128 (of_z w128 x) *ℤ to_z w128 tens) product_fits ∙ product_is

-- the cells before a place are raised, and those behind it are as they were
pub record IsRaisedTo (more i : ℕ) (before now : List ℤ) : Type 0 where
  pub len : length now ≡ length before
  pub done : (k : ℕ) → k < i → get_or now k (pos 0) ≡ raised_by more (get_or before k (pos 0))
  pub left : (k : ℕ) → i ≤ k → get_or now k (pos 0) ≡ get_or before k (pos 0)

pub raise_first : (more : ℕ) (cells : List ℤ) → IsRaisedTo more 0 cells cells
raise_first more cells = record { len = refl; done = λ k h. absurd (omega (arith, h)); left = λ k h. refl }

pub cell_fits : (more i : ℕ) (before now : List ℤ) → IsRaisedTo more i before now → i < length before → All (FitsRaised more) before → FitsRaised more (get_or now i (pos 0))
cell_fits more i before now is h all = subst (FitsRaised more) (sym (is.left i (omega arith))) (all i (pos 0) h)

pub raise_next : (more i : ℕ) (before now : List ℤ) (x : ℤ) → IsRaisedTo more i before now → i < length before → x ≡ raised_by more (get_or now i (pos 0)) → IsRaisedTo more (i + 1) before (set now i x)
raise_next more i before now x is h made = record {
  len = length-set now i x ∙ is.len;
  done = λ k near. by_place k (split k i near);
  left = λ k far. get_or-set_other now i k x (pos 0) (λ e. omega (arith, far, e)) ∙ is.left k (omega (arith, far));
} where
  split : (a b : ℕ) → a < b + 1 → (a < b) ⊎ (a ≡ b)
  split a b l = grind arith

  by_place : (k : ℕ) → (k < i) ⊎ (k ≡ i) → get_or (set now i x) k (pos 0) ≡ raised_by more (get_or before k (pos 0))
  by_place k (inl l) = get_or-set_other now i k x (pos 0) (λ e. omega (arith, l, e)) ∙ is.done k l
  by_place k (inr e) = subst (λ n. get_or (set now i x) n (pos 0) ≡ raised_by more (get_or before n (pos 0))) (sym e) (get_or-set_same now i x (pos 0) (omega (arith, h, is.len)) ∙ made ∙ ap (raised_by more) (is.left i (omega arith)))

pub raise_last : (more i : ℕ) (before now : List ℤ) → IsRaisedTo more i before now → length before ≤ i → now ≡ map (raised_by more) before
raise_last more i before now is end = ext_get_or (pos 0) now (map (raised_by more) before) (is.len ∙ sym (length-map before (raised_by more)))
    (λ k h. is.done k (omega (arith, h, end, is.len)) ∙ sym (get_or-map (raised_by more) before k (pos 0) (pos 0) (omega (arith, h, is.len))))

-- a cell can be raised where it is no greater than what is left of the greatest number
pub raised_within : (x : ℤ) (more most tens size : ℕ) → most ≡ greatest_number / tens → tens ≡ 10 ^ more → size ≡ unsigned_abs x → size ≤ most → FitsRaised more x
raised_within x more most tens size is power abs within = (le-div_iff_mul-le {k = 10 ^ more} {x = unsigned_abs x} {y = greatest_number} (tens_positive more)).0 (subst (λ n. n ≤ greatest_number / 10 ^ more) abs (subst (λ n. size ≤ n) (is ∙ ap (λ t. greatest_number / t) power) within))

pub raised_beyond : (x : ℤ) (more most tens size : ℕ) → most ≡ greatest_number / tens → tens ≡ 10 ^ more → size ≡ unsigned_abs x → most < size → FitsRaised more x → ⊥
raised_beyond x more most tens size is power abs beyond fits =
    let within : unsigned_abs x ≤ greatest_number / 10 ^ more = (le-div_iff_mul-le {k = 10 ^ more} {x = unsigned_abs x} {y = greatest_number} (tens_positive more)).1 fits in
    omega (arith, within, abs, beyond, is ∙ ap (λ t. greatest_number / t) power)

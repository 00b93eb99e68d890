-- A numeral's value times a power of ten, by its decimal: when it is whole, and when it is too
-- great.
use Rattle.std.proofs.Common.{◌≡◌, ◌⊎◌, inl, inr, ◌<◌, ◌≤◌, ◌+◌, ◌-◌, ◌*◌, ◌^◌, ℕ, suc, ℤ, pos, ◌*ℤ◌, unsigned_abs, Bool, true, false, cond, List, [], All, length, get_or, map, refl, sym, ap, subst, ◌∙◌, arith, Option, None, Some}
use Rattle.std.proofs.Math.Nat.{pow-le-pow_right, mul-pos, mul-le-mul_left, mul-le-mul_right}
use Rattle.std.proofs.lemmas.Int.{ints, unsigned_abs-mul}
use borrow.Author.Differences.{up, down, product_is}
use Rattle.std.proofs.lemmas.List.{get_or-map, get_or_default, length-map}
use Rattle.std.proofs.lemmas.Nat.{pow-add}
use Rattle.maid_model.specs.Diagrams.{greatest_number}
use Rattle.net_lexer.specs.Token.{token_bytes}
use Rattle.net_lexer.specs.declared.tokens.Token.{Token}
use Rattle.weight_scale.specs.declared.decimal.Decimal.{Decimal}
use Rattle.weight_scale.specs.Numeral.{numerator, denominator, is_minus, exponent_of, exponent_size, decimal_digits, IsLeastDecimalOf}
use Rattle.net_build.specs.Building.{AreUtilityCells}
use Rattle.net_build.specs.Scaling.{AreDecimals, decimal_at, IsWholeBy, IsScaledBy}
use Rattle.net_build.specs.Blocks.{no_token}
use Rattle.net_build.specs.Table.{IsWideValue, wide_row, length_row}
use Rattle.first_fault.specs.Passes.{Pass, each}
use Rattle.first_fault.specs.Answers.{IsFaultOrNoMemory}
use Rattle.net_build.specs.Passes.{Found, build_fault}
use Rattle.net_build.specs.declared.faults.BuildFault.{BuildFault}
use Rattle.net_build.specs.declared.faults.BuildFault.TheVariants.{Fault, NoMemory}
use Rattle.net_build.specs.declared.faults.BuildKind.TheVariants as kinds
use Rattle.std.proofs.lemmas.Bool.{false≢true}
use Rattle.std.specs.Option.{SomeIff, is_some}
use Rattle.first_fault.proofs.Leading.{Leads}
use Rattle.first_fault.proofs.Items.{EachFrom, each_step_at, each_refused_at, each_refuses_none}
use Rattle.net_build.specs.TableParts.{IsScaleOf, scaled_pass, value_at_scale, Fits}
use Rattle.net_build.specs.Zero.{nought}

pub tens_positive : (k : ℕ) → 0 < 10 ^ k
tens_positive k = omega (arith, pow-le-pow_right {n = 10} (omega arith) {i = 0} {j = k} (omega arith))

pub tens_fit : (k : ℕ) → k ≤ 30 → 10 ^ k < 2 ^ 128
tens_fit k h = omega (arith, pow-le-pow_right {n = 10} (omega arith) {i = k} {j = 30} h)

pub tens_split : (k s : ℕ) → k ≤ s → 10 ^ s ≡ 10 ^ k * 10 ^ (s - k)
tens_split k s h = let e : s ≡ k + (s - k) = omega arith in ap (λ x. 10 ^ x) e ∙ pow-add 10 k (s - k)

positive_by : (down : Bool) (x e : ℕ) → 0 < 10 ^ x * cond down (10 ^ e) 1
positive_by true x e = mul-pos (tens_positive x) (tens_positive e)
positive_by false x e = omega (arith, tens_positive x)

pub den_positive : (numeral : List ℕ) → 0 < denominator numeral
den_positive numeral = positive_by (is_minus (exponent_of numeral)) (length (decimal_digits numeral)) (exponent_size (exponent_of numeral))

pub sizes : (m num : ℤ) (p den : ℕ) → m *ℤ pos den ≡ num *ℤ pos p → unsigned_abs m * den ≡ unsigned_abs num * p
sizes m num p den e = sym (unsigned_abs-mul m (pos den)) ∙ ap unsigned_abs e ∙ unsigned_abs-mul num (pos p)

narrow_by : (g m t den num p q : ℕ) → m * den ≡ num * p → q ≡ p * t → m * t ≤ g → g * den < num * q → ⊥
narrow_by g m t den num p q e split fits wide = omega (arith, mul-le-mul_right {m = m * t} {n = g} den fits, ap (λ x. x * t) e, ap (λ x. num * x) split, wide)

wide_by : (g m t den num p q : ℕ) → 0 < den → m * den ≡ num * p → q ≡ p * t → g < m * t → g * den < num * q
wide_by g m t den num p q some e split wide = omega (arith, mul-le-mul_right {m = suc g} {n = m * t} den wide, ap (λ x. x * t) e, ap (λ x. num * x) split)

-- a value within the limits is not wide
pub fits_narrow : (numeral : List ℕ) (d : Decimal) (scale : ℕ) → IsLeastDecimalOf (numerator numeral) (denominator numeral) d → d.k ≤ scale → Fits scale d → IsWideValue scale numeral → ⊥
fits_narrow numeral d scale is enough fits = narrow_by greatest_number (unsigned_abs d.m) (10 ^ (scale - d.k)) (denominator numeral) (unsigned_abs (numerator numeral)) (10 ^ d.k) (10 ^ scale) (sizes d.m (numerator numeral) (10 ^ d.k) (denominator numeral) is.value) (tens_split d.k scale enough) fits

le_or_more : (a b : ℕ) → (a ≤ b → ⊥) → b < a
le_or_more a b h = omega (arith, h)

-- and one beyond them is
pub unfit_wide : (numeral : List ℕ) (d : Decimal) (scale : ℕ) → IsLeastDecimalOf (numerator numeral) (denominator numeral) d → d.k ≤ scale → (Fits scale d → ⊥) → IsWideValue scale numeral
unfit_wide numeral d scale is enough unfit = wide_by greatest_number (unsigned_abs d.m) (10 ^ (scale - d.k)) (denominator numeral) (unsigned_abs (numerator numeral)) (10 ^ d.k) (10 ^ scale) (den_positive numeral) (sizes d.m (numerator numeral) (10 ^ d.k) (denominator numeral) is.value) (tens_split d.k scale enough) (le_or_more _ _ unfit)

pub whole_by : (m num : ℤ) (t den p : ℕ) → m *ℤ pos den ≡ num *ℤ pos p → (m *ℤ pos t) *ℤ pos den ≡ (num *ℤ pos (p * t)) *ℤ pos 1
whole_by m num t den p e =
    let by = λ (k : ℕ) (a b : ℕ) (q : a ≡ b). ap (λ x. x * k) q in
    let flat : up m * den + down num * p ≡ up num * p + down m * den = omega (arith, ints, e) in
    omega (arith, ints, by t _ _ flat, by den _ _ (product_is m (pos t)).0, by den _ _ (product_is m (pos t)).1)

-- the number raised by the scale is the value to scale
pub raised_is : (numeral : List ℕ) (d : Decimal) (scale : ℕ) → IsLeastDecimalOf (numerator numeral) (denominator numeral) d → d.k ≤ scale → IsScaledBy scale numeral (value_at_scale scale d)
raised_is numeral d scale is enough = rw (tens_split d.k scale enough) (whole_by d.m (numerator numeral) (10 ^ (scale - d.k)) (denominator numeral) (10 ^ d.k) is.value)

pub one_more : (x num : ℤ) (p den : ℕ) → x *ℤ pos den ≡ (num *ℤ pos p) *ℤ pos 1 → x *ℤ pos den ≡ num *ℤ pos p
one_more x num p den e = omega (arith, ints, e)

smaller_by : (x m den num p r : ℕ) → 0 < den → 0 < r → x * den ≡ num * p → m * den ≡ num * (p * r) → x ≤ m
smaller_by x m den num p r some more e f = by_order (order x m) where
  order : (a b : ℕ) → (a ≤ b) ⊎ (b < a)
  order a b = grind arith

  by_order : (x ≤ m) ⊎ (m < x) → x ≤ m
  by_order (inl h) = h
  by_order (inr h) = absurd (omega (arith, mul-le-mul_right {m = suc m} {n = x} den h, mul-le-mul_left {m = 1} {n = r} (x * den) more, ap (λ y. y * r) e, f))

-- with fewer decimals than the least decimal has no value is whole
pub not_whole : (numeral : List ℕ) (d : Decimal) (k : ℕ) → IsLeastDecimalOf (numerator numeral) (denominator numeral) d → k < d.k → IsWholeBy k numeral → ⊥
not_whole numeral d k is fewer (x, scaled) =
    let value : x *ℤ pos (denominator numeral) ≡ numerator numeral *ℤ pos (10 ^ k) = one_more x (numerator numeral) (10 ^ k) (denominator numeral) scaled in
    let near : unsigned_abs x ≤ unsigned_abs d.m = smaller_by (unsigned_abs x) (unsigned_abs d.m) (denominator numeral) (unsigned_abs (numerator numeral)) (10 ^ k) (10 ^ (d.k - k)) (den_positive numeral) (tens_positive (d.k - k)) (sizes x (numerator numeral) (10 ^ k) (denominator numeral) value) (sizes d.m (numerator numeral) (10 ^ d.k) (denominator numeral) is.value ∙ ap (λ y. unsigned_abs (numerator numeral) * y) (tens_split k d.k (omega arith))) in
    let small : unsigned_abs x ≤ greatest_number = omega (arith, near, d.small) in
    let few : k ≤ 30 = omega (arith, d.few) in
    let other : Decimal = record { m = x; k = k; small = small; few = few } in
    let least : d.k ≤ k = is.least other value in
    omega arith

-- the numeral at a place, and the token there
numeral_at : (text : List ℕ) (tokens : List Token) (i : ℕ) (t : Token) → i < length tokens → get_or (map (token_bytes text) tokens) i [] ≡ token_bytes text (get_or tokens i t)
numeral_at text tokens i t h = get_or-map (token_bytes text) tokens i t [] h

pub decimal_of : (text : List ℕ) (tokens : List Token) (ds : List Decimal) (i : ℕ) (t : Token) → AreDecimals (map (token_bytes text) tokens) ds → i < length tokens → IsLeastDecimalOf (numerator (token_bytes text (get_or tokens i t))) (denominator (token_bytes text (get_or tokens i t))) (decimal_at ds i)
decimal_of text tokens ds i t are h = subst (λ n. IsLeastDecimalOf (numerator n) (denominator n) (decimal_at ds i)) (numeral_at text tokens i t h) (are.each i (let l = length-map tokens (token_bytes text) in omega arith))

-- the most decimals of all are the scale
pub scale_found : (text : List ℕ) (tokens : List Token) (ds : List Decimal) (scale : ℕ) → AreDecimals (map (token_bytes text) tokens) ds → All (λ d. d.k ≤ scale) ds → (0 < scale → (i : ℕ) × (i < length ds) × ((decimal_at ds i).k ≡ scale)) → IsScaleOf text tokens scale
scale_found text tokens ds scale are most reached = (whole, least) where
  len : length ds ≡ length tokens
  len = are.len ∙ length-map tokens (token_bytes text)

  whole : All (λ t. IsWholeBy scale (token_bytes text t)) tokens
  whole i t h = (value_at_scale scale (decimal_at ds i), raised_is (token_bytes text (get_or tokens i t)) (decimal_at ds i) scale (decimal_of text tokens ds i t are h) (most i nought (omega (arith, len))))

  at : (k : ℕ) → k < scale → (i : ℕ) × (i < length ds) × ((decimal_at ds i).k ≡ scale) → All (λ t. IsWholeBy k (token_bytes text t)) tokens → ⊥
  at k h (i, within, is) all = not_whole (token_bytes text (get_or tokens i no_token)) (decimal_at ds i) k (decimal_of text tokens ds i no_token are (omega (arith, len))) (omega (arith, is)) (all i no_token (omega (arith, len)))

  least : (k : ℕ) → k < scale → All (λ t. IsWholeBy k (token_bytes text t)) tokens → ⊥
  least k h = at k h (reached (omega arith))

unfit : (r : Option ℤ) (P : Type 0) (v : ℤ) → SomeIff r P v → is_some r ≡ false → P → ⊥
unfit None P v h e = h
unfit (Some x) P v h e = absurd (false≢true (sym e))

fit : (r : Option ℤ) (P : Type 0) (v : ℤ) → SomeIff r P v → is_some r ≡ true → P
fit None P v h e = absurd (false≢true e)
fit (Some x) P v h e = h.0

-- the number at a place is wide where it does not fit, and only there
module _ (text : List ℕ) (tokens : List Token) (ds : List Decimal) (scale : ℕ) (W : Pass Found) (i : ℕ) (d : Decimal) (r : Option ℤ) (within : i < length tokens) (len : length ds ≡ length tokens) (most : All (λ e. e.k ≤ scale) ds) (is : d ≡ get_or ds i d) (tried : SomeIff r (Fits scale d) (value_at_scale scale d)) (are : AreDecimals (map (token_bytes text) tokens) ds) (lead : Leads (EachFrom (wide_row text scale) tokens i) W) where
  here : decimal_at ds i ≡ d
  here = get_or_default ds i nought d (omega (arith, len)) ∙ sym is

  its : IsLeastDecimalOf (numerator (token_bytes text (get_or tokens i no_token))) (denominator (token_bytes text (get_or tokens i no_token))) d
  its = subst (λ e. IsLeastDecimalOf (numerator (token_bytes text (get_or tokens i no_token))) (denominator (token_bytes text (get_or tokens i no_token))) e) here (decimal_of text tokens ds i no_token are within)

  enough : d.k ≤ scale
  enough = subst (λ (e : Decimal). e.k ≤ scale) here (most i nought (omega (arith, len)))

  pub wide_refused : (fault : BuildFault) → is_some r ≡ false → fault ≡ Fault (get_or tokens i no_token).start kinds.WideValue → IsFaultOrNoMemory build_fault W fault
  wide_refused fault none what = rw what (each_refused_at (wide_row text scale) tokens W i no_token (build_fault (Fault (get_or tokens i no_token).start kinds.WideValue)) within lead (unfit_wide (token_bytes text (get_or tokens i no_token)) d scale its enough (unfit r _ _ tried none), refl))

  pub wide_on : is_some r ≡ true → Leads (EachFrom (wide_row text scale) tokens (i + 1)) W
  wide_on some = each_step_at (wide_row text scale) tokens W i no_token within lead (fits_narrow (token_bytes text (get_or tokens i no_token)) d scale its enough (fit r _ _ tried some))

-- the numbers raised by the scale are utility cells
pub cells_found : (numerals : List (List ℕ)) (ds : List Decimal) (scale : ℕ) → AreDecimals numerals ds → All (λ d. d.k ≤ scale) ds → AreUtilityCells scale numerals (map (value_at_scale scale) ds)
cells_found numerals ds scale are most = record {
  len = length-map ds (value_at_scale scale) ∙ are.len;
  each = λ i h. let within : i < length ds = omega (arith, length-map ds (value_at_scale scale)) in subst (λ x. IsScaledBy scale (get_or numerals i []) x) (sym (get_or-map (value_at_scale scale) ds i nought (pos 0) within)) (raised_is (get_or numerals i []) (decimal_at ds i) scale (are.each i (omega (arith, are.len))) (most i nought within));
}

long_or_not : (text : List ℕ) (t : Token) (f : Found) → length_row text t None → length_row text t (Some f) → ⊥
long_or_not text t f nothing here = nothing here.0

-- where no number is too long, only want of memory refuses
pub short_refuses : (text : List ℕ) (tokens : List Token) (fault : BuildFault) → each (length_row text) tokens None → IsFaultOrNoMemory build_fault (each (length_row text) tokens) fault → IsFaultOrNoMemory build_fault (scaled_pass text tokens) fault
short_refuses text tokens fault short h = each_refuses_none (length_row text) (scaled_pass text tokens) (λ token. long_or_not text token) tokens (build_fault fault) short h

-- a wide value to that scale
pub scaled_refuses : (text : List ℕ) (tokens : List Token) (scale : ℕ) (fault : BuildFault) → IsScaleOf text tokens scale → IsFaultOrNoMemory build_fault (each (wide_row text scale) tokens) fault → IsFaultOrNoMemory build_fault (scaled_pass text tokens) fault
scaled_refuses text tokens scale NoMemory is h = tt
scaled_refuses text tokens scale (Fault at kind) is h = (scale, is, h)

pub scaled_passes : (text : List ℕ) (tokens : List Token) (scale : ℕ) → IsScaleOf text tokens scale → each (wide_row text scale) tokens None → scaled_pass text tokens None
scaled_passes text tokens scale is h = (scale, is, h)

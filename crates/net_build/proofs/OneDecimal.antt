-- A numeral has one least decimal, and one value to a scale.
use Rattle.std.proofs.Common.{◌≡◌, ◌<◌, ◌≤◌, ◌*◌, ◌^◌, ℕ, suc, ℤ, pos, negsuc, ◌*ℤ◌, unsigned_abs, Bool, true, false, cond, List, [], length, get_or, sym, ap, subst, ◌∙◌, arith}
use Rattle.std.proofs.Math.Bridge.{le_prop}
use Rattle.std.proofs.Math.Nat.{pow-le-pow_right, mul-pos, eq_of_mul-eq-mul_right}
use Rattle.std.proofs.lemmas.Int.{ints}
use Rattle.std.proofs.lemmas.List.{ext_get_or}
use Rattle.maid_model.specs.Diagrams.{greatest_number}
use Rattle.weight_scale.specs.declared.decimal.Decimal.{Decimal}
use Rattle.weight_scale.specs.Numeral.{numerator, denominator, is_minus, exponent_of, exponent_size, decimal_digits, IsLeastDecimalOf}
use Rattle.net_build.specs.Building.{AreUtilityCells}
use Rattle.net_build.specs.Scaling.{AreDecimals, decimal_at, IsScaledBy}
use Rattle.net_build.specs.Zero.{nought}

tens_positive : (k : ℕ) → 0 < 10 ^ k
tens_positive k = omega (arith, pow-le-pow_right {n = 10} (omega arith) {i = 0} {j = k} (omega arith))

positive_by : (down : Bool) (x e : ℕ) → 0 < 10 ^ x * cond down (10 ^ e) 1
positive_by true x e = mul-pos (tens_positive x) (tens_positive e)
positive_by false x e = omega (arith, tens_positive x)

denominator_positive : (numeral : List ℕ) → 0 < denominator numeral
denominator_positive numeral = positive_by (is_minus (exponent_of numeral)) (length (decimal_digits numeral)) (exponent_size (exponent_of numeral))

cancel : (x y : ℤ) (d : ℕ) → 0 < d → x *ℤ pos d ≡ y *ℤ pos d → x ≡ y
cancel (pos a) (pos b) d h e = ap pos (eq_of_mul-eq-mul_right d h a b (omega (arith, ints, e)))
cancel (pos a) (negsuc b) d h e = absurd (omega (arith, ints, e, mul-pos {m = suc b} {n = d} (omega arith) h))
cancel (negsuc a) (pos b) d h e = absurd (omega (arith, ints, e, mul-pos {m = suc a} {n = d} (omega arith) h))
cancel (negsuc a) (negsuc b) d h e =
    let same : suc a ≡ suc b = eq_of_mul-eq-mul_right d h (suc a) (suc b) (omega (arith, ints, e)) in
    let less : a ≡ b = omega arith in
    ap negsuc less

-- the value to a scale
scaled_once : (numeral : List ℕ) (scale : ℕ) (x y : ℤ) → IsScaledBy scale numeral x → IsScaledBy scale numeral y → x ≡ y
scaled_once numeral scale x y h k = cancel x y (denominator numeral) (denominator_positive numeral) (h ∙ sym k)

pub utility_cells_once : (scale : ℕ) (numerals : List (List ℕ)) (cells others : List ℤ) → AreUtilityCells scale numerals cells → AreUtilityCells scale numerals others → cells ≡ others
utility_cells_once scale numerals cells others h k =
    let len = h.len ∙ sym k.len in
    ext_get_or (pos 0) cells others len
    (λ i l. scaled_once (get_or numerals i []) scale (get_or cells i (pos 0)) (get_or others i (pos 0)) (h.each i l) (k.each i (subst (λ n. i < n) len l)))

-- decimals of one number and as many decimals are one
abbrev decimal : (m : ℤ) (k : ℕ) → unsigned_abs m ≤ greatest_number → k ≤ 30 → Decimal
decimal m k small few = record { m = m; k = k; small = small; few = few }

same_number : (m : ℤ) (k : ℕ) (small small' : unsigned_abs m ≤ greatest_number) (few few' : k ≤ 30) → decimal m k small few ≡ decimal m k small' few'
same_number m k small small' few few' = ap (λ (s : unsigned_abs m ≤ greatest_number). decimal m k s few) (le_prop small small') ∙ ap (λ (f : k ≤ 30). decimal m k small' f) (le_prop few few')

same_decimal : (d e : Decimal) → d.m ≡ e.m → d.k ≡ e.k → d ≡ e
same_decimal d e m k =
    subst (λ (x : ℤ). (small : unsigned_abs x ≤ greatest_number) → d ≡ decimal x e.k small e.few) m
    (subst (λ (x : ℕ). (few : x ≤ 30) (small : unsigned_abs d.m ≤ greatest_number) → d ≡ decimal d.m x small few) k
    (λ few small. same_number d.m d.k d.small small d.few few) e.few)
    e.small

-- the least decimal
least_decimal_once : (numeral : List ℕ) (d e : Decimal) → IsLeastDecimalOf (numerator numeral) (denominator numeral) d → IsLeastDecimalOf (numerator numeral) (denominator numeral) e → d ≡ e
least_decimal_once numeral d e h k =
    let above : d.k ≤ e.k = h.least e k.value in
    let below : e.k ≤ d.k = k.least d h.value in
    let places : d.k ≡ e.k = omega arith in
    same_decimal d e (cancel d.m e.m (denominator numeral) (denominator_positive numeral) (h.value ∙ ap (λ x. numerator numeral *ℤ pos (10 ^ x)) places ∙ sym k.value)) places

pub decimals_once : (numerals : List (List ℕ)) (ds es : List Decimal) → AreDecimals numerals ds → AreDecimals numerals es → ds ≡ es
decimals_once numerals ds es h k =
    ext_get_or nought ds es (h.len ∙ sym k.len)
    (λ i l. let within : i < length numerals = subst (λ n. i < n) h.len l in least_decimal_once (get_or numerals i []) (decimal_at ds i) (decimal_at es i) (h.each i within) (k.each i within))

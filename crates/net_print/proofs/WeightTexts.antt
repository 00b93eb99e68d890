-- The decimals of printed weights: a number up to the greatest, and no digit behind a point.
use Rattle.std.proofs.Common.{◌≡◌, ◌∙◌, ℕ, ◌*◌, ◌-◌, ◌^◌, ◌<◌, ◌≤◌, min, ℤ, pos, ◌*ℤ◌, ◌≤ℤ◌, unsigned_abs, List, [], All, length, map, get_or, decimal, sym, ap, subst, arith}
use Rattle.std.proofs.lemmas.Int.{ints}
use Rattle.std.proofs.lemmas.List.{get_or-map, length-map, ext_get_or}
use Rattle.maid_model.specs.Diagrams.{greatest_number}
use Rattle.weight_scale.specs.Numeral.{numerator, denominator, IsLeastDecimalOf}
use Rattle.weight_scale.specs.Scaling.{whole_number, NoneNegative}
use Rattle.weight_scale.specs.declared.decimal.Decimal.{Decimal}
use Rattle.net_build.specs.Scaling.{AreDecimals, decimal_at}
use Rattle.net_build.specs.Zero.{nought}
use Rattle.net_print.proofs.DigitValues.{decimal_read}
use Rattle.net_print.proofs.ValueLimits.{small_enough}

-- a number as a decimal, the greatest one in place of a greater
abbrev pub decimal_of : ℕ → Decimal
decimal_of n = record { m = pos (min n greatest_number); k = 0; small = omega arith; few = omega arith }

abbrev pub decimals_of : List ℕ → List Decimal
decimals_of ns = map decimal_of ns

-- no number is greater than the greatest
abbrev pub AreSmall : List ℕ → Type 0
AreSmall ns = All (λ n. n ≤ greatest_number) ns

its_number : (n : ℕ) → n ≤ greatest_number → min n greatest_number ≡ n
its_number n small = omega arith

least_of : (n : ℕ) → n ≤ greatest_number → IsLeastDecimalOf (pos n) 1 (decimal_of n)
least_of n small = record { value = ap (λ k. pos k *ℤ pos 1) (its_number n small); least = λ other _. omega arith }

-- the least decimal of a printed number is that number
pub least_of_text : (text : List ℕ) (n : ℕ) (d : Decimal) → n ≤ greatest_number → text ≡ decimal n → d ≡ decimal_of n → IsLeastDecimalOf (numerator text) (denominator text) d
least_of_text text n d small e is =
    let read = decimal_read n (small_enough n small) in
    subst (IsLeastDecimalOf (numerator text) (denominator text)) (sym is)
    (subst (λ bytes. IsLeastDecimalOf (numerator bytes) (denominator bytes) (decimal_of n)) (sym e)
    (subst (λ z. IsLeastDecimalOf z (denominator (decimal n)) (decimal_of n)) (sym read.0)
    (subst (λ k. IsLeastDecimalOf (pos n) k (decimal_of n)) (sym read.1) (least_of n small))))

-- The decimals of printed numbers.
pub are_decimals : (ns : List ℕ) → AreSmall ns → AreDecimals (map decimal ns) (decimals_of ns)
are_decimals ns small = record {
  len = length-map ns decimal_of ∙ sym (length-map ns decimal);
  each = λ i l. let within : i < length ns = subst (λ n. i < n) (length-map ns decimal) l in least_of_text (get_or (map decimal ns) i []) (get_or ns i 0) (decimal_at (decimals_of ns) i) (small i 0 within) (get_or-map decimal ns i 0 [] within) (get_or-map decimal_of ns i 0 nought within);
}

-- whatever the least decimal of a number is, raised it is the number with noughts behind it
raised_by : (m : ℤ) (k n : ℕ) → k ≡ 0 → m *ℤ pos 1 ≡ pos n *ℤ pos (10 ^ k) → unsigned_abs m * 10 ^ (30 - k) ≡ n * 10 ^ 30
raised_by m k n none e =
    let whole : m ≡ pos n = once m ∙ e ∙ ap (λ j. pos n *ℤ pos (10 ^ j)) none ∙ sym (once (pos n)) in
    ap (λ z. unsigned_abs z * 10 ^ (30 - k)) whole ∙ ap (λ j. n * 10 ^ (30 - j)) none
  where
    once : (z : ℤ) → z ≡ z *ℤ pos 1
    once z = omega (arith, ints)

raised_is : (n : ℕ) (d : Decimal) → n ≤ greatest_number → IsLeastDecimalOf (pos n) 1 d → whole_number 30 d ≡ n * 10 ^ 30
raised_is n d small is =
    let most : d.k ≤ 0 = is.least (decimal_of n) (least_of n small).value in
    raised_by d.m d.k n (omega arith) is.value

raised_text : (text : List ℕ) (n : ℕ) (d : Decimal) → n ≤ greatest_number → text ≡ decimal n → IsLeastDecimalOf (numerator text) (denominator text) d → whole_number 30 d ≡ n * 10 ^ 30
raised_text text n d small e is =
    let read = decimal_read n (small_enough n small) in
    raised_is n d small
    (subst (λ k. IsLeastDecimalOf (pos n) k d) read.1
    (subst (λ z. IsLeastDecimalOf z (denominator (decimal n)) d) read.0
    (subst (λ bytes. IsLeastDecimalOf (numerator bytes) (denominator bytes) d) e is)))

-- Raised, all decimals of printed numbers are the numbers with noughts behind them.
pub raised_are : (ns : List ℕ) (ds : List Decimal) → AreSmall ns → AreDecimals (map decimal ns) ds → map (whole_number 30) ds ≡ map (λ n. n * 10 ^ 30) ns
raised_are ns ds small are = ext_get_or 0 (map (whole_number 30) ds) (map (λ n. n * 10 ^ 30) ns) (length-map ds (whole_number 30) ∙ len ∙ sym (length-map ns (λ n. n * 10 ^ 30))) (λ i l. at i (subst (λ n. i < n) (length-map ds (whole_number 30)) l))
  where
    len : length ds ≡ length ns
    len = are.len ∙ length-map ns decimal

    at : (i : ℕ) → i < length ds → get_or (map (whole_number 30) ds) i 0 ≡ get_or (map (λ n. n * 10 ^ 30) ns) i 0
    at i l =
        let within : i < length ns = subst (λ n. i < n) len l in
        let here : i < length (map decimal ns) = subst (λ n. i < n) are.len l in
        get_or-map (whole_number 30) ds i nought 0 l
        ∙ raised_text (get_or (map decimal ns) i []) (get_or ns i 0) (decimal_at ds i) (small i 0 within) (get_or-map decimal ns i 0 [] within) (are.each i here)
        ∙ sym (get_or-map (λ n. n * 10 ^ 30) ns i 0 0 within)

-- a number that is one from nought times a power of ten is not below nought
from_nought : (m : ℤ) (n : ℕ) → m *ℤ pos 1 ≡ pos n → pos 0 ≤ℤ m
from_nought m n e = omega (arith, ints, e)

-- no decimal of a printed number is below nought
not_below : (text : List ℕ) (n : ℕ) (d : Decimal) → n ≤ greatest_number → text ≡ decimal n → IsLeastDecimalOf (numerator text) (denominator text) d → pos 0 ≤ℤ d.m
not_below text n d small e is =
    let read = decimal_read n (small_enough n small) in
    let of_number : IsLeastDecimalOf (pos n) 1 d =
    subst (λ k. IsLeastDecimalOf (pos n) k d) read.1
    (subst (λ z. IsLeastDecimalOf z (denominator (decimal n)) d) read.0
    (subst (λ bytes. IsLeastDecimalOf (numerator bytes) (denominator bytes) d) e is)) in
    from_nought d.m (n * 10 ^ d.k) of_number.value

pub none_below : (ns : List ℕ) (ds : List Decimal) → AreSmall ns → AreDecimals (map decimal ns) ds → NoneNegative ds
none_below ns ds small are i l =
    let within : i < length ns = subst (λ n. i < n) (are.len ∙ length-map ns decimal) l in
    let here : i < length (map decimal ns) = subst (λ n. i < n) are.len l in
    subst (λ z. pos 0 ≤ℤ z) (sym (get_or-map (λ (d : Decimal). d.m) ds i nought (pos 0) l))
    (not_below (get_or (map decimal ns) i []) (get_or ns i 0) (decimal_at ds i) (small i 0 within) (get_or-map decimal ns i 0 [] within) (are.each i here))

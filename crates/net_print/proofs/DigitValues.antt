-- The number that digits write, and the value of a decimal that has no point.
use Rattle.std.proofs.Common.{◌≡◌, ◌∙◌, ℕ, zero, suc, ◌+◌, ◌-◌, ◌*◌, ◌%◌, ◌^◌, ◌<◌, ℤ, pos, Bool, true, false, List, [], ◌∷◌, ◌++◌, length, take, drop, replicate, decimal, refl, sym, ap, arith, tests, append-nil, one-add, if◌then◌else◌}
use Rattle.std.specs.List.{list_all, prefix_len}
use Rattle.std.proofs.Math.Nat.{pow-zero, pow-suc}
use Rattle.std.proofs.Math.Seq.{take-append_seam, drop-append_seam}
use Rattle.std.proofs.lemmas.Bool.{and_parts}
use Rattle.std.proofs.lemmas.Fmt.{decimal_by_steps_wide}
use Rattle.std.proofs.lemmas.List.Sums.{fold-append}
use Rattle.net_lexer.specs.Bytes.{is_digit}
use Rattle.net_lexer.specs.Numerals.{without_sign}
use Rattle.weight_scale.specs.Numeral.{front_digits, behind_digits, point_digits, behind_point, whole_digits, decimal_digits, exponent_of, exponent_size, is_minus, number_behind, number_of, signed, numerator, denominator}
use Rattle.net_print.proofs.Forms.{AreDigits, Whole, plain_unsigned}
use Rattle.net_print.proofs.Forms as forms

pub number_behind-append : (n : ℕ) (xs ys : List ℕ) → number_behind n (xs ++ ys) ≡ number_behind (number_behind n xs) ys
number_behind-append n xs ys = fold-append (λ m b. m * 10 + (b - 48)) n xs ys

-- the number before counts a ten for each digit
pub number_behind-tens : (n : ℕ) (digits : List ℕ) → number_behind n digits ≡ n * 10 ^ length digits + number_of digits
number_behind-tens n [] = omega (arith, pow-zero 10)
number_behind-tens n (b ∷ digits) =
    let first = number_behind-tens (n * 10 + (b - 48)) digits in
    let second = number_behind-tens (0 * 10 + (b - 48)) digits in
    first ∙ rw pow-suc (omega (arith, second))

-- noughts before digits don't count
pub number_of-noughts : (t : ℕ) (digits : List ℕ) → number_of (replicate t 48 ++ digits) ≡ number_of digits
number_of-noughts zero digits = refl
number_of-noughts (suc t) digits = number_of-noughts t digits

-- the digits of a number write it
pub number_of-decimal : (n : ℕ) → n < 10 ^ 64 → number_of (decimal n) ≡ n
number_of-decimal n h = decimal_by_steps_wide (λ m bs. number_of bs ≡ m)
    (λ m small. omega arith)
    (λ m bs le is. number_behind-append 0 bs ((48 + m % 10) ∷ []) ∙ omega (arith, is))
    n h

-- the digits before what doesn't begin with one are those at the front
pub digits_in_front : (bs after : List ℕ) → list_all is_digit bs ≡ true → prefix_len is_digit after ≡ 0 → prefix_len is_digit (bs ++ after) ≡ length bs
digits_in_front [] after all none = none
digits_in_front (b ∷ bs) after all none =
    let parts = and_parts (is_digit b) (list_all is_digit bs) all in
    rw (parts.0, digits_in_front bs after parts.1 none, one-add) refl

pub front_are : (bs after : List ℕ) → list_all is_digit bs ≡ true → prefix_len is_digit after ≡ 0 → front_digits (bs ++ after) ≡ bs
front_are bs after all none = ap (λ n. take n (bs ++ after)) (digits_in_front bs after all none) ∙ take-append_seam bs after

pub behind_are : (bs after : List ℕ) → list_all is_digit bs ≡ true → prefix_len is_digit after ≡ 0 → behind_digits (bs ++ after) ≡ after
behind_are bs after all none = ap (λ n. drop n (bs ++ after)) (digits_in_front bs after all none) ∙ drop-append_seam bs after

-- bytes without a sign that are these digits, these behind a point, and no exponent
pub record IsSpelt (bytes whole rest : List ℕ) : Type 0 where
  pub whole_are : front_digits bytes ≡ whole
  pub rest_are : point_digits (behind_digits bytes) ≡ rest
  pub no_exponent : drop 1 (behind_point (behind_digits bytes)) ≡ []

-- digits alone
pub whole_spelt : (bs : List ℕ) → list_all is_digit bs ≡ true → IsSpelt bs bs []
whole_spelt bs all =
    let front : front_digits bs ≡ bs = ap front_digits (sym (append-nil bs)) ∙ front_are bs [] all refl in
    let behind : behind_digits bs ≡ [] = ap behind_digits (sym (append-nil bs)) ∙ behind_are bs [] all refl in
    record { whole_are = front; rest_are = ap point_digits behind; no_exponent = ap (λ ys. drop 1 (behind_point ys)) behind }

-- digits, a point and digits
pub pointed_spelt : (whole rest : List ℕ) → list_all is_digit whole ≡ true → list_all is_digit rest ≡ true → IsSpelt (whole ++ 46 ∷ rest) whole rest
pointed_spelt whole rest all more =
    let behind : behind_digits (whole ++ 46 ∷ rest) ≡ 46 ∷ rest = behind_are whole (46 ∷ rest) all refl in
    let alone = whole_spelt rest more in
    let none : behind_digits rest ≡ [] = ap behind_digits (sym (append-nil rest)) ∙ behind_are rest [] more refl in
    record {
      whole_are = front_are whole (46 ∷ rest) all refl;
      rest_are = ap point_digits behind ∙ alone.whole_are;
      no_exponent = ap (λ ys. drop 1 (behind_point ys)) behind ∙ ap (drop 1) none;
    }

abbrev number_by : Bool → List ℕ → List ℕ → List ℕ → ℤ
number_by minus whole rest exponent = signed minus (number_of (whole ++ rest) * (if is_minus exponent then 1 else 10 ^ exponent_size exponent))

abbrev tens_by : List ℕ → List ℕ → ℕ
tens_by rest exponent = 10 ^ length rest * (if is_minus exponent then 10 ^ exponent_size exponent else 1)

-- A numeral without an exponent is its digits with its sign, over a ten for each digit behind the
-- point.
pub numerator_is : (text bytes whole rest : List ℕ) (minus : Bool) → is_minus text ≡ minus → without_sign text ≡ bytes → IsSpelt bytes whole rest → numerator text ≡ signed minus (number_of (whole ++ rest))
numerator_is text bytes whole rest minus sign is spelt =
    let w : whole_digits text ≡ whole = ap front_digits is ∙ spelt.whole_are in
    let r : decimal_digits text ≡ rest = ap (λ ys. point_digits (behind_digits ys)) is ∙ spelt.rest_are in
    let e : exponent_of text ≡ [] = ap (λ ys. drop 1 (behind_point (behind_digits ys))) is ∙ spelt.no_exponent in
    let same : number_by (is_minus text) (whole_digits text) (decimal_digits text) (exponent_of text) ≡ number_by minus whole rest [] = cc in
    same ∙ ap (signed minus) (once (number_of (whole ++ rest)))
  where
    once : (n : ℕ) → n * 10 ^ 0 ≡ n
    once n = omega (arith, pow-zero 10)

pub denominator_is : (text bytes whole rest : List ℕ) → without_sign text ≡ bytes → IsSpelt bytes whole rest → denominator text ≡ 10 ^ length rest
denominator_is text bytes whole rest is spelt =
    let r : decimal_digits text ≡ rest = ap (λ ys. point_digits (behind_digits ys)) is ∙ spelt.rest_are in
    let e : exponent_of text ≡ [] = ap (λ ys. drop 1 (behind_point (behind_digits ys))) is ∙ spelt.no_exponent in
    let same : tens_by (decimal_digits text) (exponent_of text) ≡ tens_by rest [] = cc in
    same ∙ once (10 ^ length rest)
  where
    once : (n : ℕ) → n * 1 ≡ n
    once n = omega arith

no_minus : (b : ℕ) → is_digit b ≡ true → is_minus (b ∷ []) ≡ false
no_minus b e = grind (arith, tests)

-- digits have no minus before them
pub digits_no_minus : (bs after : List ℕ) → AreDigits bs → is_minus (bs ++ after) ≡ false
digits_no_minus [] after is = absurd (none is.some) where
  none : 0 < length {A = ℕ} [] → ⊥
  none h = omega arith
digits_no_minus (b ∷ bs) after is = no_minus b (and_parts (is_digit b) (list_all is_digit bs) is.all).0

-- the digits of a number are a numeral of that value
pub decimal_read : (n : ℕ) → n < 10 ^ 64 → (numerator (decimal n) ≡ pos n) × (denominator (decimal n) ≡ 1)
decimal_read n h =
    let are = forms.decimal_digits n h in
    let plain = plain_unsigned (decimal n) (Whole are) in
    let spelt = whole_spelt (decimal n) are.all in
    let sign : is_minus (decimal n) ≡ false = ap is_minus (sym (append-nil (decimal n))) ∙ digits_no_minus (decimal n) [] are in (
      numerator_is (decimal n) (decimal n) (decimal n) [] false sign plain spelt ∙ ap pos (ap number_of (append-nil (decimal n)) ∙ number_of-decimal n h),
      denominator_is (decimal n) (decimal n) (decimal n) [] plain spelt ∙ pow-zero 10,
    )

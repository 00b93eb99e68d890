-- A numeral of digits, a point and digits is what these write, over a ten for each behind the
-- point.
use Rattle.std.proofs.Common.{◌≡◌, ◌+◌, ◌*◌, ◌^◌, ℕ, ℤ, Bool, true, false, List, [], ◌∷◌, ◌++◌, length, take, drop, arith, refl, sym, ap, ◌∙◌, Option, IfSome}
use Rattle.std.specs.List.{list_all}
use Rattle.std.specs.Prelude.{◌==◌, if◌then◌else◌}
use Rattle.std.proofs.Math.Nat.{pow-zero}
use Rattle.std.proofs.lemmas.Bool.Decides.{nat_tests}
use Rattle.std.proofs.lemmas.List.{take_all, drop_all}
use Rattle.net_lexer.specs.Bytes.{is_digit, is_sign}
use Rattle.net_lexer.specs.Numerals.{without_sign}
use Rattle.weight_scale.specs.declared.decimal.Decimal.{Decimal}
use Rattle.weight_scale.specs.Numeral.{signed, numerator, denominator, number_of, is_minus, front_digits, behind_digits, whole_digits, point_digits, behind_point, exponent_size, IsLeastDecimalOf}
use Rattle.weight_scale.specs.Significant.{IsSignificand}
use Rattle.weight_scale.proofs.Few.{all_front}
use Rattle.weight_scale.proofs.Tens.{tens_positive, some_of_same}

module _ (decimals : List ℕ) where
  -- where a point stands behind the digits at the front, no sign stands before them
  not_signed : (b : ℕ) (bytes : List ℕ) → behind_digits (b ∷ bytes) ≡ 46 ∷ decimals → is_sign b ≡ false
  not_signed b bytes rest = by_sign (is_sign b) refl where
    by_sign : (s : Bool) → is_sign b ≡ s → is_sign b ≡ false
    by_sign false is = is
    by_sign true is =
        let no_digit : is_digit b ≡ false = grind (arith, nat_tests) in
        let all : b ∷ bytes ≡ 46 ∷ decimals = rw no_digit at rest in
        let point : b ≡ 46 = cc all in
        absurd (grind (arith, nat_tests))

  unsigned : (text : List ℕ) → behind_digits text ≡ 46 ∷ decimals → without_sign text ≡ text
  unsigned [] rest = refl
  unsigned (b ∷ bytes) rest = rw (not_signed b bytes rest) refl

  no_minus : (text : List ℕ) → behind_digits text ≡ 46 ∷ decimals → is_minus text ≡ false
  no_minus [] rest = refl
  no_minus (b ∷ bytes) rest =
      let plain = not_signed b bytes rest in
      let other : (b == 45) ≡ false = grind (arith, nat_tests) in
      other

module _ (text decimals : List ℕ) (rest : behind_digits text ≡ 46 ∷ decimals) (digits : list_all is_digit decimals ≡ true) where
  abbrev num : Bool → List ℕ → List ℕ → List ℕ → ℤ
  num minus whole behind exponent = signed minus (number_of (whole ++ behind) * (if is_minus (drop 1 exponent) then 1 else 10 ^ exponent_size (drop 1 exponent)))

  abbrev den : List ℕ → List ℕ → ℕ
  den behind exponent = 10 ^ length behind * (if is_minus (drop 1 exponent) then 10 ^ exponent_size (drop 1 exponent) else 1)

  whole_is : whole_digits text ≡ front_digits text
  whole_is = ap front_digits (unsigned decimals text rest)

  behind_is : behind_digits (without_sign text) ≡ 46 ∷ decimals
  behind_is = ap behind_digits (unsigned decimals text rest) ∙ rest

  decimals_are : point_digits (behind_digits (without_sign text)) ≡ decimals
  decimals_are = ap point_digits behind_is ∙ ap (λ n. take n decimals) (all_front decimals digits) ∙ take_all (length decimals) decimals (omega arith)

  nothing_behind : behind_point (behind_digits (without_sign text)) ≡ []
  nothing_behind = ap behind_point behind_is ∙ ap (λ n. drop n decimals) (all_front decimals digits) ∙ drop_all (length decimals) decimals (omega arith)

  numerator_is : numerator text ≡ signed false (number_of (front_digits text ++ decimals))
  numerator_is =
      let parts : numerator text ≡ num false (front_digits text) decimals [] = λ j. num (no_minus decimals text rest j) (whole_is j) (decimals_are j) (nothing_behind j) in
      let plain : number_of (front_digits text ++ decimals) * 10 ^ 0 ≡ number_of (front_digits text ++ decimals) = omega (arith, pow-zero 10) in
      parts ∙ ap (signed false) plain

  denominator_is : denominator text ≡ 10 ^ length decimals
  denominator_is =
      let parts : denominator text ≡ den decimals [] = λ j. den (decimals_are j) (nothing_behind j) in
      parts ∙ omega arith

  -- its decimal is that of its significant digits
  pub some_of_pointed : (size below : ℕ) → IsSignificand (number_of (front_digits text ++ decimals)) (length decimals) size 0 below → (r : Option Decimal)
      → IfSome r (λ d. IsLeastDecimalOf (signed false size) (10 ^ below) d) → IfSome r (λ d. IsLeastDecimalOf (numerator text) (denominator text) d)
  some_of_pointed size below is r some =
      let number = number_of (front_digits text ++ decimals) in
      let value : number * 10 ^ below ≡ size * 10 ^ (length decimals + 0) = is.value in
      let same : size * 10 ^ length decimals ≡ number * 10 ^ below = ap (λ n. size * 10 ^ n) (omega arith) ∙ sym value in
      rw (numerator_is, denominator_is) (some_of_same false size (10 ^ below) number (10 ^ length decimals) (tens_positive below) (tens_positive (length decimals)) same r some)

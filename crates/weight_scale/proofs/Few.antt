-- A numeral of digits alone is a whole number.
use Rattle.std.proofs.Common.{◌≡◌, ◌≤◌, ◌<◌, ◌+◌, ◌*◌, ◌^◌, ℕ, ℤ, pos, Bool, true, false, List, [], ◌∷◌, ◌++◌, length, take, drop, arith, refl, sym, ap, ◌∙◌, one-add}
use Rattle.std.specs.List.{list_all, prefix_len}
use Rattle.std.specs.Prelude.{◌==◌, if◌then◌else◌}
use Rattle.std.proofs.Math.Nat.{pow-zero, pow-le-pow_right}
use Rattle.std.proofs.lemmas.Bool.{and_parts}
use Rattle.std.proofs.lemmas.Bool.Decides.{nat_tests}
use Rattle.std.proofs.lemmas.List.{append-nil, take_all, drop_all}
use Rattle.net_lexer.specs.Bytes.{is_digit, is_sign}
use Rattle.net_lexer.specs.Numerals.{without_sign}
use Rattle.weight_scale.specs.Numeral.{signed, numerator, denominator, number_of, is_minus, front_digits, behind_digits, whole_digits, point_digits, behind_point, exponent_size, IsLeastDecimalOf}
use Rattle.weight_scale.specs.declared.decimal.Decimal.{Decimal}
use Rattle.weight_scale.proofs.Signs.{fraction_from_sizes}

pub all_front : (bytes : List ℕ) → list_all is_digit bytes ≡ true → prefix_len is_digit bytes ≡ length bytes
all_front [] all = refl
all_front (b ∷ bytes) all =
    let parts = and_parts (is_digit b) _ all in
    rw (parts.0, all_front bytes parts.1, one-add) refl

no_sign : (bytes : List ℕ) → list_all is_digit bytes ≡ true → without_sign bytes ≡ bytes
no_sign [] all = refl
no_sign (b ∷ bytes) all =
    let digit = (and_parts (is_digit b) _ all).0 in
    let plain : is_sign b ≡ false = grind (arith, nat_tests) in
    rw plain refl

no_minus : (bytes : List ℕ) → list_all is_digit bytes ≡ true → is_minus bytes ≡ false
no_minus [] all = refl
no_minus (b ∷ bytes) all =
    let digit = (and_parts (is_digit b) _ all).0 in
    let plain : (b == 45) ≡ false = grind (arith, nat_tests) in
    plain

module _ (text : List ℕ) (all : list_all is_digit text ≡ true) where
  whole_is : whole_digits text ≡ text
  whole_is = ap front_digits (no_sign text all) ∙ ap (λ n. take n text) (all_front text all) ∙ take_all (length text) text (omega arith)

  rest_is : behind_digits (without_sign text) ≡ []
  rest_is = ap behind_digits (no_sign text all) ∙ ap (λ n. drop n text) (all_front text all) ∙ drop_all (length text) text (omega arith)

  abbrev num : Bool → List ℕ → List ℕ → ℤ
  num minus whole rest = signed minus (number_of (whole ++ point_digits rest) * (if is_minus (drop 1 (behind_point rest)) then 1 else 10 ^ exponent_size (drop 1 (behind_point rest))))

  abbrev den : List ℕ → ℕ
  den rest = 10 ^ length (point_digits rest) * (if is_minus (drop 1 (behind_point rest)) then 10 ^ exponent_size (drop 1 (behind_point rest)) else 1)

  numerator_is : numerator text ≡ pos (number_of text)
  numerator_is =
      let parts : numerator text ≡ num false text [] = λ j. num (no_minus text all j) (whole_is j) (rest_is j) in
      let plain : number_of (text ++ []) * 10 ^ 0 ≡ number_of text = ap (λ t. number_of t * 10 ^ 0) (append-nil text) ∙ omega (arith, pow-zero 10) in
      parts ∙ ap pos plain

  denominator_is : denominator text ≡ 1
  denominator_is = ap den rest_is ∙ omega (arith, pow-zero 10)

  -- the decimal without decimals is the numeral's value
  pub whole_decimal : (n : ℕ) → n ≡ number_of text → (d : Decimal) → d.m ≡ pos n → d.k ≡ 0 → IsLeastDecimalOf (numerator text) (denominator text) d
  whole_decimal n is d m k =
      let none : 10 ^ d.k ≡ 1 = ap (λ t. 10 ^ t) k ∙ pow-zero 10 in
      let across : n * 1 ≡ n * 10 ^ d.k = ap (λ t. n * t) (sym none) in
      record {
        value = rw (numerator_is ∙ ap pos (sym is), denominator_is, m) (fraction_from_sizes false n (10 ^ d.k) n 1 across);
        least = λ other _. omega (arith, k);
      }

-- there is room for one more of so few digits
pub few_fit : (n i count : ℕ) → n < 10 ^ i → i < count → count ≤ 18 → n * 10 + 256 < 2 ^ 64
few_fit n i count small here few = omega (arith, small, pow-le-pow_right {n = 10} (omega arith) {i = i} {j = 17} (omega arith))

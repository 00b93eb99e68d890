-- Decimal digits of up to 128 bits, and back.
use Rattle.std.proofs.Common.{◌≡◌, ◌≢◌, ℕ, zero, suc, ◌<◌, ◌≤◌, ◌^◌, List, [], ◌∷◌, drop, true, Result, Ok, refl, sym, ◌∙◌, ap, subst, arith}
use lib.IntN.{neg_ℤ}
use Rattle.std.specs.Prelude.{ℤ, pos, negsuc, decimal, FitsSigned}
use Rattle.std.specs.Int.{w128}
use Rattle.std.specs.Fmt.{signed_decimal}
use Rattle.std.specs.Str.{IsAscii, IsUtf8}
use Rattle.std.proofs.lemmas.Result.{Ok-from_Ok_iff}
use Rattle.std.proofs.lemmas.Str.{IsUtf8-from_ascii}
use Rattle.std.specs.Str.Parse.{AllDigits, ParsesSigned, ParsesUnsigned, digits_value}
use Rattle.std.proofs.lemmas.Fmt.{decimal_is_IsNumeral_wide, parse-decimal_wide, IsAscii-decimal_wide}
use Rattle.std.proofs.lemmas.Str.Parse.{digit_from_value, numerals_by_value, tells_digits, parse_signed_digits, parse_signed_minus}
use Rattle.report_text.specs.Slots.{lacks}
use Rattle.report_text.proofs.OneCut.{lacks_from}

-- 128 bits have no more than 39 digits
pub fits_wide : (n : ℕ) → n ≤ 2 ^ 128 → n < 10 ^ 64
fits_wide n h = omega arith

-- what numbers of 128 bits keep to
abbrev pub IsWithin : ℤ → Type 0
IsWithin (pos n) = n ≤ 2 ^ 128
IsWithin (negsuc n) = suc n ≤ 2 ^ 128

pub decimal_one : (m n : ℕ) → m ≤ 2 ^ 128 → n ≤ 2 ^ 128 → decimal m ≡ decimal n → m ≡ n
decimal_one m n p q e = sym (decimal_is_IsNumeral_wide m (fits_wide m p)).1 ∙ ap (digits_value 10) e ∙ (decimal_is_IsNumeral_wide n (fits_wide n q)).1

-- a byte that is no digit stands in no number
digits_lack : (byte : ℕ) → (byte < 48) → (ds : List ℕ) → AllDigits 10 ds → lacks byte ds ≡ true
digits_lack byte h [] d = refl
digits_lack byte h (c ∷ cs) d =
    let other : c ≢ byte = λ e. let r = digit_from_value c d.0 in omega arith in
    rw (lacks_from c byte other, digits_lack byte h cs d.1) refl

pub decimal_lacks : (byte n : ℕ) → byte < 48 → n ≤ 2 ^ 128 → lacks byte (decimal n) ≡ true
decimal_lacks byte n small h = digits_lack byte small (decimal n) (decimal_is_IsNumeral_wide n (fits_wide n h)).0.1

-- signed numbers: as std has them of 64 bits
pub signed_within : (z : ℤ) → FitsSigned w128 z → IsWithin z
signed_within (pos n) fits = omega (arith, fits.sfits)
signed_within (negsuc n) fits = omega (arith, fits.sfits)

decimal_no_minus : (n : ℕ) (ds : List ℕ) → n ≤ 2 ^ 128 → decimal n ≡ 45 ∷ ds → ⊥
decimal_no_minus n ds h e = omega (arith, digit_from_value 45 (subst (AllDigits 10) e (decimal_is_IsNumeral_wide n (fits_wide n h)).0.1).0)

pub signed_one : (y z : ℤ) → IsWithin y → IsWithin z → signed_decimal y ≡ signed_decimal z → y ≡ z
signed_one (pos m) (pos n) p q e = ap pos (decimal_one m n p q e)
signed_one (pos m) (negsuc n) p q e = absurd (decimal_no_minus m _ p e)
signed_one (negsuc m) (pos n) p q e = absurd (decimal_no_minus n _ q (sym e))
signed_one (negsuc m) (negsuc n) p q e = ap negsuc (omega (arith, decimal_one (suc m) (suc n) p q (ap (drop 1) e)))

pub signed_lacks : (byte : ℕ) (z : ℤ) → byte < 48 → byte ≢ 45 → IsWithin z → lacks byte (signed_decimal z) ≡ true
signed_lacks byte (pos n) small other h = decimal_lacks byte n small h
signed_lacks byte (negsuc n) small other h = rw (lacks_from 45 byte (λ e. other (sym e))) (decimal_lacks byte (suc n) small h)

-- what is parsed of them
pub parses_signed : {E : Type 0} (z : ℤ) (bs : List ℕ) (r : Result ℤ E) → FitsSigned w128 z → bs ≡ signed_decimal z → ParsesSigned w128 10 bs r → r ≡ Ok z
parses_signed (pos n) bs r fits is h =
    let k = decimal_is_IsNumeral_wide n (fits_wide n (signed_within (pos n) fits)) in
    let read = parse_signed_digits (numerals_by_value _ tells_digits) w128 (decimal n) r (subst (λ l. ParsesSigned w128 10 l r) is h) k.0.1 in
    Ok-from_Ok_iff r _ _ read (k.0.0, omega (arith, k.1, fits.sfits)) ∙ ap (λ m. Ok (pos m)) k.1
parses_signed (negsuc n) bs r fits is h =
    let k = decimal_is_IsNumeral_wide (suc n) (fits_wide (suc n) (signed_within (negsuc n) fits)) in
    let read = parse_signed_minus (numerals_by_value _ tells_digits) w128 (45 ∷ decimal (suc n)) r (subst (λ l. ParsesSigned w128 10 l r) is h) refl in
    Ok-from_Ok_iff r _ _ read (k.0.1, k.0.0, omega (arith, k.1, fits.sfits)) ∙ ap (λ m. Ok (neg_ℤ (pos m))) k.1

pub parses_whole : {E : Type 0} (n : ℕ) (bs : List ℕ) (r : Result ℕ E) → n < 2 ^ 128 → bs ≡ decimal n → ParsesUnsigned 128 10 bs r → r ≡ Ok n
parses_whole n bs r h is p = parse-decimal_wide 128 n bs r h (fits_wide n (omega arith)) is p

-- and they are text
pub whole_is_text : (n : ℕ) (bs : List ℕ) → n ≤ 2 ^ 128 → bs ≡ decimal n → IsUtf8 bs
whole_is_text n bs h e = subst IsUtf8 (sym e) (IsUtf8-from_ascii (decimal n) (IsAscii-decimal_wide n (fits_wide n h)))

signed_ascii : (z : ℤ) → IsWithin z → IsAscii (signed_decimal z)
signed_ascii (pos n) h i = IsAscii-decimal_wide n (fits_wide n h) i
signed_ascii (negsuc n) h zero = omega arith
signed_ascii (negsuc n) h (suc i) = IsAscii-decimal_wide (suc n) (fits_wide (suc n) h) i

pub signed_is_text : (z : ℤ) (bs : List ℕ) → FitsSigned w128 z → bs ≡ signed_decimal z → IsUtf8 bs
signed_is_text z bs fits e = subst IsUtf8 (sym e) (IsUtf8-from_ascii (signed_decimal z) (signed_ascii z (signed_within z fits)))

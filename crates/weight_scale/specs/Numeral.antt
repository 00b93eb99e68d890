-- The value of a numeral: a sign or none, digits with at most one point, and an exponent or none.
use Rattle.std.specs.Prelude.{◌≡◌, ◌<◌, ◌≤◌, ℕ, ◌+◌, ◌-◌, ◌*◌, ◌^◌, ℤ, pos, neg_ℤ, Bool, true, false, List, [], ◌∷◌, ◌++◌, length, take, drop, fold, ◌==◌, if◌then◌else◌}
use Rattle.std.specs.List.{prefix_len, list_all}
use Rattle.net_lexer.specs.Bytes.{is_digit}
use Rattle.net_lexer.specs.Numerals.{without_sign}
use Rattle.net_lexer.specs.Pieces.{begins}
use Rattle.whole_num.specs.Fractions.{IsSameFraction}
use Rattle.weight_scale.specs.declared.decimal.Decimal.{Decimal}
use Rattle.weight_scale.specs.declared.digits.TheConstants.{FEW, HALF_FEW, HALF_FEW_END}

-- the digits at the front
abbrev pub front_digits : List ℕ → List ℕ
front_digits bytes = take (prefix_len is_digit bytes) bytes

-- what stands behind them
abbrev pub behind_digits : List ℕ → List ℕ
behind_digits bytes = drop (prefix_len is_digit bytes) bytes

-- the digits behind a point at the front; none where no point stands there
abbrev pub point_digits : List ℕ → List ℕ
point_digits [] = []
point_digits (b ∷ bytes) = if b == 46 then front_digits bytes else []

-- what stands behind such a point and its digits
abbrev pub behind_point : List ℕ → List ℕ
behind_point [] = []
behind_point (b ∷ bytes) = if b == 46 then behind_digits bytes else b ∷ bytes

-- the digits of a numeral before its point
abbrev pub whole_digits : List ℕ → List ℕ
whole_digits text = front_digits (without_sign text)

-- the digits of a numeral behind its point
abbrev pub decimal_digits : List ℕ → List ℕ
decimal_digits text = point_digits (behind_digits (without_sign text))

-- the exponent of a numeral, without the e or E: a sign or none, and digits
abbrev pub exponent_of : List ℕ → List ℕ
exponent_of text = drop 1 (behind_point (behind_digits (without_sign text)))

-- a minus stands at the front
abbrev pub is_minus : List ℕ → Bool
is_minus bytes = begins (λ b. b == 45) bytes

-- the number that digits write behind another number
abbrev pub number_behind : ℕ → List ℕ → ℕ
number_behind number digits = fold (λ n b. n * 10 + (b - 48)) number digits

-- the number that digits write
abbrev pub number_of : List ℕ → ℕ
number_of digits = number_behind 0 digits

-- digits alone, and so few that 64 bits surely have room for their number
abbrev pub AreFewDigits : List ℕ → Type 0
AreFewDigits bytes = (length bytes ≤ FEW) × (list_all is_digit bytes ≡ true)

-- the number and the digits behind it are so few that 64 bits surely have room for both together
abbrev pub AreFewBehind : ℕ → List ℕ → Type 0
AreFewBehind number digits = (number < HALF_FEW_END) × (length digits ≤ HALF_FEW)

-- what stands there is no point with digits alone behind it
abbrev pub IsNoPointAndDigits : List ℕ → Type 0
IsNoPointAndDigits bytes =
    (decimals : List ℕ) → bytes ≡ 46 ∷ decimals → list_all is_digit decimals ≡ true → ⊥

-- the size of an exponent
abbrev pub exponent_size : List ℕ → ℕ
exponent_size exponent = number_of (front_digits (without_sign exponent))

-- the size below nought, or the size
abbrev pub signed : Bool → ℕ → ℤ
signed true size = neg_ℤ (pos size)
signed false size = pos size

-- The value is the numerator over the denominator. Above stands the number that all digits write,
-- with the numeral's sign, and the tens of an exponent.
abbrev pub numerator : List ℕ → ℤ
numerator text =
    let exponent = exponent_of text in
    signed (is_minus text) (number_of (whole_digits text ++ decimal_digits text)
    * (if is_minus exponent then 1 else 10 ^ exponent_size exponent))

-- Below stands a ten for each digit behind the point, and the tens of an exponent below nought.
abbrev pub denominator : List ℕ → ℕ
denominator text =
    let exponent = exponent_of text in
    10 ^ length (decimal_digits text)
    * (if is_minus exponent then 10 ^ exponent_size exponent else 1)

-- the decimal is the fraction
abbrev pub IsDecimalOf : ℤ → ℕ → Decimal → Type 0
IsDecimalOf num den d = IsSameFraction d.m (10 ^ d.k) num den

-- no decimal is the fraction
abbrev pub HasNoDecimal : ℤ → ℕ → Type 0
HasNoDecimal num den = (d : Decimal) → IsDecimalOf num den d → ⊥

-- the decimal is the fraction, and none that is has fewer decimals
pub record IsLeastDecimalOf (num : ℤ) (den : ℕ) (d : Decimal) : Type 0 where
  pub value : IsDecimalOf num den d
  pub least : (other : Decimal) → IsDecimalOf num den other → d.k ≤ other.k

-- that decimal of a numeral's value
abbrev pub IsDecimalOfNumeral : List ℕ → Decimal → Type 0
IsDecimalOfNumeral text d = IsLeastDecimalOf (numerator text) (denominator text) d

-- it is the whole number
abbrev pub IsWholeNumeral : List ℕ → ℤ → Type 0
IsWholeNumeral text number =
    (d : Decimal) × IsDecimalOfNumeral text d × (d.m ≡ number) × (d.k ≡ 0)

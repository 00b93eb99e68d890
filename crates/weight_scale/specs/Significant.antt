-- Significant digits, and the tens of their place. The parts of `numeral` speak of them; what it
-- promises doesn't.
use Rattle.std.specs.Prelude.{◌≡◌, ◌≢◌, ◌<◌, ◌≤◌, ◌+◌, ◌-◌, ◌*◌, ◌%◌, ◌^◌, ℕ, ℤ, Bool, List, ◌∷◌, ◌++◌, true, length, replicate, slice_index}
use Rattle.std.specs.List.{list_all}
use Rattle.net_lexer.specs.Bytes.{is_digit}
use Rattle.weight_scale.specs.Numeral.{front_digits, behind_digits, number_of, signed, HasNoDecimal, IsLeastDecimalOf}
use Rattle.weight_scale.specs.declared.decimal.Decimal.{Decimal}
use Rattle.weight_scale.specs.declared.digits.TheConstants.{HALF_FEW}
use Rattle.weight_scale.specs.declared.numerals.Scientific.{Scientific}

-- size * 10^above / 10^below is the number over 10^decimals, and the size doesn't end in nought but
-- where it is nought
pub record IsSignificand (number decimals size above below : ℕ) : Type 0 where
  pub value : number * 10 ^ below ≡ size * 10 ^ (decimals + above)
  pub last : 0 < size → 0 < size % 10

-- the same of the digits before and behind a point
abbrev pub IsSignificandOf : List ℕ → List ℕ → ℕ → ℕ → ℕ → Type 0
IsSignificandOf whole decimals size above below =
    IsSignificand (number_of (whole ++ decimals)) (length decimals) size above below

-- the number over 10^decimals has too many digits, not counting noughts at the end
abbrev pub HasTooManyDigits : ℕ → ℕ → Type 0
HasTooManyDigits number decimals =
    (size above below : ℕ) × IsSignificand number decimals size above below × (2 ^ 126 ≤ size)

-- few digits, a point, and digits of which those before the noughts at the end are kept: few, and
-- at least one
pub record HasFewDecimals (text kept : List ℕ) : Type 0 where
  pub noughts : ℕ
  pub behind : behind_digits text ≡ 46 ∷ (kept ++ replicate noughts 48)
  pub are_digits : list_all is_digit kept ≡ true
  pub some : 0 < length kept
  pub last : slice_index kept (length kept - 1) ≢ 48
  pub few : length kept ≤ HALF_FEW
  pub few_before : length (front_digits text) ≤ HALF_FEW

-- the same of the digits before and behind a point
abbrev pub HaveTooManyDigits : List ℕ → List ℕ → Type 0
HaveTooManyDigits whole decimals = HasTooManyDigits (number_of (whole ++ decimals)) (length decimals)

-- the number that is found is that of the digits before and behind a point
abbrev pub TellsSignificand : List ℕ → List ℕ → Scientific → Type 0
TellsSignificand whole decimals s = IsSignificandOf whole decimals s.size s.above s.below

-- its size is within the range, and its tens fit in 64 bits
abbrev pub HasSmallParts : Scientific → Type 0
HasSmallParts s = (s.size < 2 ^ 126) × (s.above < 2 ^ 64) × (s.below < 2 ^ 64)

-- its numerator, below nought or above it; the denominator is 10^below
abbrev pub signed_numerator : Bool → Scientific → ℤ
signed_numerator minus s = signed minus (s.size * 10 ^ s.above)

-- the decimal is that number, and none that is has fewer decimals
abbrev pub IsLeastDecimalOfParts : Bool → Scientific → Decimal → Type 0
IsLeastDecimalOfParts minus s d = IsLeastDecimalOf (signed_numerator minus s) (10 ^ s.below) d

-- no decimal is
abbrev pub HaveNoDecimal : Bool → Scientific → Type 0
HaveNoDecimal minus s = HasNoDecimal (signed_numerator minus s) (10 ^ s.below)

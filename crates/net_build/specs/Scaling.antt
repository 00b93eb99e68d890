-- Numbers to scale: the decimals that are written in the text, and values times a power of ten. The
-- rows of chance tables are scaled by `weight_scale`, whose own definitions say how.
use Rattle.std.specs.Prelude.{◌≡◌, ◌<◌, ◌^◌, ℕ, ℤ, pos, ◌*ℤ◌, List, [], length, slice_index_or, map}
use Rattle.weight_scale.specs.Numeral.{numerator, denominator, IsDecimalOfNumeral}
use Rattle.weight_scale.specs.declared.decimal.Decimal.{Decimal}
use Rattle.whole_num.specs.Fractions.{IsSameFraction}
use Rattle.net_build.specs.Zero.{nought}
use Rattle.net_lexer.specs.Token.{token_bytes}
use Rattle.net_lexer.specs.declared.tokens.Token.{Token}

-- the decimal number i, and nought where there is none
abbrev pub decimal_at : List Decimal → ℕ → Decimal
decimal_at decimals i = slice_index_or decimals i nought

-- the decimals of these numerals, one for each
pub record AreDecimals (numerals : List (List ℕ)) (decimals : List Decimal) : Type 0 where
  pub len : length decimals ≡ length numerals
  pub each : (i : ℕ) → i < length numerals
      → let numeral = slice_index_or numerals i [] in
      IsDecimalOfNumeral numeral (decimal_at decimals i)

-- the decimals of these tokens of the text
abbrev pub TellDecimals : List ℕ → List Token → List Decimal → Type 0
TellDecimals text tokens decimals = AreDecimals (map (token_bytes text) tokens) decimals

-- the whole number is the numeral's value times 10^k
abbrev pub IsScaledBy : ℕ → List ℕ → ℤ → Type 0
IsScaledBy k numeral x =
    IsSameFraction x 1 (numerator numeral *ℤ pos (10 ^ k)) (denominator numeral)

-- the numeral's value times 10^k is whole
abbrev pub IsWholeBy : ℕ → List ℕ → Type 0
IsWholeBy k numeral = (x : ℤ) × IsScaledBy k numeral x

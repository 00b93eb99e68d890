-- Numerals.
use Rattle.std.specs.Prelude.{ℕ, ◌+◌, Bool, ◌&&◌, ◌||◌, List, [], ◌∷◌, Option, None, Some, take, drop, nat_le, if◌then◌else◌, count_by, codes}
use Rattle.std.specs.List.{list_all, list_any, position}
use Rattle.net_lexer.specs.Bytes.{is_one_of, is_digit, is_sign}

-- what stands behind the sign, if there is one
abbrev pub without_sign : List ℕ → List ℕ
without_sign [] = []
without_sign (b ∷ bytes) = if is_sign b then bytes else b ∷ bytes

-- a decimal point
abbrev pub is_point : ℕ → Bool
is_point b = is_one_of (codes ".") b

-- digits, at least one, with at most one point among, before or behind them
abbrev pub is_decimal : List ℕ → Bool
is_decimal bytes = list_all (λ b. is_digit b || is_point b) bytes && list_any is_digit bytes
    && nat_le (count_by is_point bytes) 1

-- digits, at least one
abbrev pub are_digits : List ℕ → Bool
are_digits bytes = list_all is_digit bytes && list_any is_digit bytes

-- an exponent begins with an e or E
abbrev pub is_exponent_mark : ℕ → Bool
is_exponent_mark b = is_one_of (codes "eE") b

-- a decimal; or one up to the first e or E, and behind that a sign or none and digits
abbrev pub is_scaled : List ℕ → Bool
is_scaled bytes = by_mark (position is_exponent_mark bytes) where
  by_mark : Option ℕ → Bool
  by_mark None = is_decimal bytes
  by_mark (Some mark) =
      is_decimal (take mark bytes) && are_digits (without_sign (drop (mark + 1) bytes))

-- A numeral: a sign or none, a decimal, and then nothing, or an e or E, a sign or none and digits.
abbrev pub is_numeral : List ℕ → Bool
is_numeral bytes = is_scaled (without_sign bytes)

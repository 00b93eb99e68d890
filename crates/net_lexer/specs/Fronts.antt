-- What stands at the front of some bytes.
use Rattle.std.specs.Prelude.{◌≡◌, ℕ, Bool, false, not, ◌&&◌, ◌||◌, ◌==◌, List, [], ◌∷◌, drop, Option, MatchOption}
use Rattle.std.specs.Borrow.{Bor}
use Rattle.std.specs.List.{prefix_len}
use Rattle.net_lexer.specs.Bytes.{is_digit, is_run_byte}
use Rattle.net_lexer.specs.Numerals.{is_point}
use Rattle.net_lexer.specs.Pieces.{IsPieceOf, begins}
use Rattle.net_lexer.specs.Strings.{unescaped}
use Rattle.net_lexer.specs.declared.pieces.PieceKind.{PieceKind}

-- a piece of that kind and length stands at the front of the text
abbrev pub BeginsWithPiece : List ℕ → PieceKind → ℕ → Type 0
BeginsWithPiece text kind len = IsPieceOf text (record { kind = kind; start = 0; end = len })

-- the first byte that the bytes mean, and what stands behind it or its escape; none where there are
-- no bytes
abbrev pub IsFirstMeant : List ℕ → Option (ℕ × Bor (List ℕ)) → Type 0
IsFirstMeant bytes first =
    MatchOption first (bytes ≡ []) (λ p. unescaped bytes ≡ p.0 ∷ unescaped p.1.now)

-- what stands behind a point at the front; none where no point stands there
abbrev pub IsBehindPoint : List ℕ → Option (Bor (List ℕ)) → Type 0
IsBehindPoint bytes behind =
    MatchOption behind (begins is_point bytes ≡ false) (λ rest. bytes ≡ 46 ∷ rest.now)

-- no run goes on behind the digits at the front
abbrev pub ends_in_digits : List ℕ → Bool
ends_in_digits bytes = not (begins is_run_byte (drop (prefix_len is_digit bytes) bytes))

-- no run goes on here, or a point stands here and none goes on behind its digits
abbrev pub ends_as_numeral : List ℕ → Bool
ends_as_numeral bytes =
    not (begins is_run_byte bytes) || (begins is_point bytes && ends_in_digits (drop 1 bytes))

-- the run at the front is written as most numerals are: digits, and perhaps a point and digits
-- behind them
abbrev pub is_plain_run : List ℕ → Bool
is_plain_run bytes = not (prefix_len is_digit bytes == 0)
    && ends_as_numeral (drop (prefix_len is_digit bytes) bytes)

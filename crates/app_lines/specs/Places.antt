-- Where a place of a text stands, in bytes.
use Rattle.std.specs.Prelude.{ℕ, ◌+◌, Bool, ◌==◌, not, List, take, length, count_by, reverse}
use Rattle.std.specs.List.{take_while}

-- a line end
abbrev pub is_line_end : ℕ → Bool
is_line_end b = b == 10

-- the line: 1 and the number of line ends before the place
abbrev pub line_at : List ℕ → ℕ → ℕ
line_at text at = 1 + count_by is_line_end (take at text)

-- the column: 1 and the number of bytes between the last line end before the place, or the text's
-- start, and the place
abbrev pub column_at : List ℕ → ℕ → ℕ
column_at text at = 1 + length (take_while (λ b. not (is_line_end b)) (reverse (take at text)))

-- Lists of vectors as lists of lists.
use Rattle.std.specs.Prelude.{ℕ, ℤ, List, map}
use Rattle.std.specs.Global.{Vec}

-- the numbers in each of these vectors
abbrev pub numbers_of_lists : List (Vec ℕ) → List (List ℕ)
numbers_of_lists lists = map (λ v. v.items) lists

-- the cells in each of these vectors
abbrev pub cells_of_lists : List (Vec ℤ) → List (List ℤ)
cells_of_lists tables = map (λ v. v.items) tables

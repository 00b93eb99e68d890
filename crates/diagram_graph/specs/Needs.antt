-- Items that need one another, as one list for each item.
use Rattle.std.specs.Prelude.{◌≡◌, ◌↔◌, ℕ, Bool, true, false, List, [], Contains, slice_index_or}

-- what an item needs; nothing where there is no such item
abbrev pub needs_of : List (List ℕ) → ℕ → List ℕ
needs_of lists v = slice_index_or lists v []

-- v needs e
abbrev pub NeedsItem : List (List ℕ) → ℕ → ℕ → Type 0
NeedsItem lists v e = Contains (needs_of lists v) e

-- the item is in the set that the list stands for
abbrev pub IsMarkedIn : List Bool → ℕ → Type 0
IsMarkedIn set v = slice_index_or set v false ≡ true

-- the set holds what is listed
abbrev pub MarksListed : List Bool → List ℕ → Type 0
MarksListed set list = (v : ℕ) → IsMarkedIn set v ↔ Contains list v

-- Values in order of first sight.
use Rattle.std.specs.Prelude.{ℕ, not, List, [], ◌∷◌, ◌++◌, filter, bytes_eq, if◌then◌else◌}
use Rattle.std.specs.List.{list_any}

-- each value where it stands first
abbrev pub first_sights : List (List ℕ) → List (List ℕ)
first_sights [] = []
first_sights (x ∷ xs) = x ∷ filter (λ y. not (bytes_eq x y)) (first_sights xs)

-- the values and one more, where it is new
abbrev pub with_sight : List (List ℕ) → List ℕ → List (List ℕ)
with_sight values x = if list_any (λ a. bytes_eq a x) values then values else values ++ x ∷ []

-- the values and each of these that is new
abbrev pub with_sights : List (List ℕ) → List (List ℕ) → List (List ℕ)
with_sights values [] = values
with_sights values (x ∷ xs) = with_sights (with_sight values x) xs

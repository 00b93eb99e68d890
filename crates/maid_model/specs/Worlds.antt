-- The list of all worlds, and sums over a list.
use Rattle.std.specs.Prelude.{◌≡◌, ℕ, ◌+◌, ◌-◌, ◌<◌, List, [], ◌∷◌, ◌++◌, map, length, slice_index, ℤ, pos, ◌+ℤ◌}
use Rattle.std.specs.Prelude.{replicate}
use Rattle.std.specs.List.{range_with_len, flat_map}
use Rattle.finite_sums.specs.Sums.{World}

-- the sum of f over a list
abbrev pub sum_list : {X : Type 0} → (X → ℤ) → List X → ℤ
sum_list f [] = pos 0
sum_list f (x ∷ xs) = f x +ℤ sum_list f xs

-- all worlds of nodes with these numbers of states, one state a node, the last node fastest
abbrev pub worlds : List ℕ → List (List ℕ)
worlds [] = [] ∷ []
worlds (c ∷ cs) = flat_map (λ s. map (λ xs. s ∷ xs) (worlds cs)) (range_with_len 0 c)

-- the world that a list of states stands for
abbrev pub world_of : List ℕ → World
world_of xs v = slice_index xs v

-- the list has one state of each node
pub record IsWorld (counts xs : List ℕ) : Type 0 where
  pub len : length xs ≡ length counts
  pub each : (v : ℕ) → v < length xs → slice_index xs v < slice_index counts v

-- the worlds from xs on, in the order of the list of all worlds
abbrev pub worlds_from : List ℕ → List ℕ → List (List ℕ)
worlds_from [] xs = [] ∷ []
worlds_from (c ∷ cs) [] = []
worlds_from (c ∷ cs) (x ∷ xs) = map (λ ys. x ∷ ys) (worlds_from cs xs)
    ++ flat_map (λ s. map (λ ys. s ∷ ys) (worlds cs)) (range_with_len (x + 1) (c - (x + 1)))

-- the world ys comes next behind xs in that list
abbrev pub IsNextWorld : List ℕ → List ℕ → List ℕ → Type 0
IsNextWorld counts xs ys = worlds_from counts xs ≡ xs ∷ worlds_from counts ys

-- xs is the last in that list
abbrev pub IsLastWorld : List ℕ → List ℕ → Type 0
IsLastWorld counts xs = worlds_from counts xs ≡ xs ∷ []

-- the first world of n nodes
abbrev pub first_world : ℕ → List ℕ
first_world n = replicate n 0

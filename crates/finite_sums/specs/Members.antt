-- Members of lists by cases, as laws by induction want them, and lists in another order.
use Rattle.std.specs.Prelude.{◌≡◌, ◌≢◌, ◌⊎◌, ℕ, List, [], ◌∷◌, ◌++◌}

-- x is in the list: by cases, as laws by induction want it; `Contains` says the same
abbrev pub Among : ℕ → List ℕ → Type 0
Among x [] = ⊥
Among x (y ∷ ys) = (x ≡ y) ⊎ Among x ys

-- the lists have the same members, each as often
pub data Shuffled : List ℕ → List ℕ → Type 0 where
  none : Shuffled [] []
  put : {x : ℕ} {xs : List ℕ} (front back : List ℕ) → Shuffled xs (front ++ back)
      → Shuffled (x ∷ xs) (front ++ x ∷ back)

-- u is not in the list
abbrev pub Avoids : ℕ → List ℕ → Type 0
Avoids u [] = Unit {0}
Avoids u (x ∷ xs) = (x ≢ u) × Avoids u xs

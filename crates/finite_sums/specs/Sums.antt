-- Finite sums and products of whole numbers, and sums over worlds.
use Rattle.std.specs.Prelude.{ℕ, zero, suc, ◌+◌, ◌*◌, ◌<◌, List, [], ◌∷◌, ℤ, pos, ◌+ℤ◌, ◌*ℤ◌, ◌==◌, if◌then◌else◌}

-- a world gives each node a state
abbrev pub World : Type 0
World = ℕ → ℕ

-- each node's state is one that it has
pub record InRange (count : ℕ → ℕ) (w : World) : Type 0 where
  pub state : (v : ℕ) → w v < count v

-- the world with another state at one node
abbrev pub with_state : World → ℕ → ℕ → World
with_state w v s u = if u == v then s else w u

-- f 0 + f 1 + .. + f (n - 1)
abbrev pub sum_below : ℕ → (ℕ → ℤ) → ℤ
sum_below zero f = pos 0
sum_below (suc n) f = sum_below n f +ℤ f n

-- the sum of f over all ways to give a state to each node of the list; the other nodes keep theirs
abbrev pub sum_over : (ℕ → ℕ) → List ℕ → (World → ℤ) → World → ℤ
sum_over count [] f w = f w
sum_over count (v ∷ vs) f w = sum_below (count v) (λ s. sum_over count vs f (with_state w v s))

-- f of each member of the list added up
abbrev pub sum_each : (ℕ → ℤ) → List ℕ → ℤ
sum_each f [] = pos 0
sum_each f (v ∷ vs) = f v +ℤ sum_each f vs

-- the product of f over a list
abbrev pub product_over : (ℕ → ℤ) → List ℕ → ℤ
product_over f [] = pos 1
product_over f (v ∷ vs) = f v *ℤ product_over f vs

-- the same of numbers from nought
abbrev pub nat_product_over : (ℕ → ℕ) → List ℕ → ℕ
nat_product_over f [] = 1
nat_product_over f (v ∷ vs) = f v * nat_product_over f vs

-- f of each member of the list added up, of numbers from nought
abbrev pub nat_sum_over : (ℕ → ℕ) → List ℕ → ℕ
nat_sum_over f [] = 0
nat_sum_over f (v ∷ vs) = f v + nat_sum_over f vs

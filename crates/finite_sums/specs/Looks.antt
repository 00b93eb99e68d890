-- At which states a function of worlds looks, and the totals of tables.
use Rattle.std.specs.Prelude.{◌≡◌, ℕ, ◌<◌, List, [], ◌∷◌, ℤ}
use Rattle.finite_sums.specs.Sums.{World, InRange, with_state, sum_below}

-- f does not look at the state of v
pub record Ignores (count : ℕ → ℕ) (f : World → ℤ) (v : ℕ) : Type 0 where
  pub same : (w : World) → InRange count w → (s : ℕ) → s < count v → f (with_state w v s) ≡ f w

-- f does not look at the states of these nodes
abbrev pub IgnoresAll : (ℕ → ℕ) → (World → ℤ) → List ℕ → Type 0
IgnoresAll count f [] = Unit {0}
IgnoresAll count f (v ∷ vs) = Ignores count f v × IgnoresAll count f vs

-- no table looks at a later node of the list
abbrev pub IgnoresLater : (ℕ → ℕ) → (ℕ → World → ℤ) → List ℕ → Type 0
IgnoresLater count table [] = Unit {0}
IgnoresLater count table (v ∷ vs) = IgnoresAll count (table v) vs × IgnoresLater count table vs

-- whatever the other nodes' states, v's table sums to the total
pub record HasTotal (count : ℕ → ℕ) (table : ℕ → World → ℤ) (total : ℕ → ℤ) (v : ℕ) : Type 0 where
  pub sums : (w : World) → InRange count w
      → sum_below (count v) (λ s. table v (with_state w v s)) ≡ total v

-- so does the table of each node of the list
abbrev pub HaveTotals : (ℕ → ℕ) → (ℕ → World → ℤ) → (ℕ → ℤ) → List ℕ → Type 0
HaveTotals count table total [] = Unit {0}
HaveTotals count table total (v ∷ vs) =
    HasTotal count table total v × HaveTotals count table total vs

-- the tables of vs look at none of us
abbrev pub EachIgnoresAll : (ℕ → ℕ) → (ℕ → World → ℤ) → List ℕ → List ℕ → Type 0
EachIgnoresAll count table [] us = Unit {0}
EachIgnoresAll count table (v ∷ vs) us =
    IgnoresAll count (table v) us × EachIgnoresAll count table vs us

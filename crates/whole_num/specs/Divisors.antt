-- Greatest common divisor and least common multiple, by divisibility.
use Rattle.std.specs.Prelude.{ℕ}
use Rattle.std.specs.Int.{◌∣◌}
-- `IsGcd a b g` is std's word: g divides a and b, and every number that divides both divides g.
pub use Rattle.std.specs.Int.{IsGcd}

-- a and b divide l, and l divides every number that both divide
abbrev pub IsLcm : ℕ → ℕ → ℕ → Type 0
IsLcm a b l = (a ∣ l) × (b ∣ l) × ((m : ℕ) → a ∣ m → b ∣ m → l ∣ m)

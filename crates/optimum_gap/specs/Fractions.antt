-- Fractions of one denominator, whose difference fits.
use Rattle.std.specs.Prelude.{ℕ, ◌<◌, ◌≤◌, ◌/◌, ℤ, pos, ◌*ℤ◌, nat_abs}
use Rattle.std.specs.Int.{◌∣◌}
use Rattle.maid_model.specs.declared.answers.Ratio.{Ratio}
use Rattle.maid_model.specs.Answers.{IsFraction}
use Rattle.maid_model.specs.Diagrams.{greatest_number}

-- the fraction is one of this denominator too, with a numerator in range
pub record IsOver (r : Ratio) (den : ℕ) : Type 0 where
  pub num : ℤ
  pub is : IsFraction r num den
  pub small : nat_abs num ≤ greatest_number

-- two fractions have a common denominator in range, and their numerators there are in range too
pub record ShareDenominator (a b : Ratio) : Type 0 where
  pub den : ℕ
  pub some : 0 < den
  pub few : den ≤ greatest_number
  pub first : IsOver a den
  pub second : IsOver b den

-- the fraction can be written with this multiple of its denominator
pub record CanWiden (r : Ratio) (den : ℕ) : Type 0 where
  pub positive : 0 < r.den
  pub multiple : r.den ∣ den
  pub few : den ≤ greatest_number
  pub small : nat_abs (r.num *ℤ pos (den / r.den)) ≤ greatest_number

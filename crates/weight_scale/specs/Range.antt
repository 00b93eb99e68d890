-- Numbers that are given where they are not too great.
use Rattle.std.specs.Prelude.{ℕ, ◌<◌, ◌≤◌, Option}
use Rattle.std.specs.Option.{SomeIff}
use Rattle.maid_model.specs.Diagrams.{greatest_number}

-- the number, where it is within the range
abbrev pub IsWithinRange : Option ℕ → ℕ → Type 0
IsWithinRange result number = SomeIff result (number ≤ greatest_number) number

-- the number, where it is below the bound
abbrev pub IsBelowBound : ℕ → Option ℕ → ℕ → Type 0
IsBelowBound bound result number = SomeIff result (number < bound) number

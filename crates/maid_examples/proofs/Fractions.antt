-- Whole numbers as reduced fractions, and what a row's worth is.
use Rattle.std.proofs.Common.{refl, arith, [], ℤ, pos, ◌≤ℤ◌, Option, Some, None}
use Rattle.std.specs.Prelude.{All}
use Rattle.std.proofs.lemmas.Int.{ints}
use Rattle.std.proofs.lemmas.Nat.Gcd.{IsGcd-from_zero, IsGcd-from_mod}
use Rattle.maid_model.specs.declared.answers.Ratio.{Ratio}
use Rattle.maid_model.specs.Answers.{IsReduced}
use Rattle.maid_examples.specs.Samples.{whole}

pub reduced_0 : IsReduced (whole (pos 0))
reduced_0 = record { positive = omega arith; coprime = IsGcd-from_mod 0 1 1 (IsGcd-from_zero 1 0 refl) }

pub reduced_1 : IsReduced (whole (pos 1))
reduced_1 = record { positive = omega arith; coprime = IsGcd-from_mod 1 1 1 (IsGcd-from_zero 1 0 refl) }

pub reduced_3 : IsReduced (whole (pos 3))
reduced_3 = record { positive = omega arith; coprime = IsGcd-from_mod 3 1 1 (IsGcd-from_zero 1 0 refl) }

pub reduced_4 : IsReduced (whole (pos 4))
reduced_4 = record { positive = omega arith; coprime = IsGcd-from_mod 4 1 1 (IsGcd-from_zero 1 0 refl) }

pub reduced_5 : IsReduced (whole (pos 5))
reduced_5 = record { positive = omega arith; coprime = IsGcd-from_mod 5 1 1 (IsGcd-from_zero 1 0 refl) }

pub reduced_7 : IsReduced (whole (pos 7))
reduced_7 = record { positive = omega arith; coprime = IsGcd-from_mod 7 1 1 (IsGcd-from_zero 1 0 refl) }

pub reduced_13_2 : IsReduced (record { num = pos 13; den = 2 })
reduced_13_2 = record { positive = omega arith; coprime = IsGcd-from_mod 13 2 1 (IsGcd-from_mod 2 1 1 (IsGcd-from_zero 1 0 refl)) }

pub reduced_1_2 : IsReduced (record { num = pos 1; den = 2 })
reduced_1_2 = record { positive = omega arith; coprime = IsGcd-from_mod 1 2 1 (IsGcd-from_mod 2 1 1 (IsGcd-from_zero 1 0 refl)) }

-- the worth that a row shows, if it shows one
abbrev pub worth_or : Ratio → Option Ratio → Ratio
worth_or other (Some worth) = worth
worth_or other None = other

pub itself : (x : ℤ) → x ≤ℤ x
itself x = omega (arith, ints)

-- nothing has no members
pub none : {X : Type 0} (P : X → Type 0) → All P []
none P k d l = absurd (omega arith)

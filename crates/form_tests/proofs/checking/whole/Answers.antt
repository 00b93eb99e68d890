use Rattle.std.proofs.Common.{◌≡◌, ◌%◌, ℕ, arith}
use Rattle.std.proofs.lemmas.Nat.Gcd.{IsGcd-from_mod, IsGcd-from_zero}
use Rattle.std.specs.Int.{IsGcd}
use Rattle.form_tests.proofs.checking.whole.Goals as goal

-- one divides all
by_one : (n : ℕ) → IsGcd n 1 1
by_one n = IsGcd-from_mod n 1 1 (IsGcd-from_zero 1 (n % 1) (none n))
  where
    none : (n : ℕ) → n % 1 ≡ 0
    none n = omega arith

pub returns : goal.returns
returns c = record { positive = omega arith; coprime = by_one _ }

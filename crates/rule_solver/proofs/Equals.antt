-- Tests of equality that come out.
use Rattle.std.proofs.Common.{◌≡◌, ℕ, false, eqb, arith}
use Rattle.std.proofs.lemmas.Bool.Decides.{nat_tests}

pub no_at : (a b : ℕ) → (a ≡ b → ⊥) → eqb a b ≡ false
no_at a b n = grind (arith, nat_tests)

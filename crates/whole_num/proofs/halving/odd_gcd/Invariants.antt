use Rattle.std.proofs.Common.{◌≡◌, ℕ, ◌+◌, ◌%◌}
use Rattle.std.specs.Int.{IsGcd}
use Rattle.whole_num.proofs.halving.odd_gcd.Given as goal

-- the numbers at hand have the greatest common divisor of the first ones
abbrev pub invariant-loop-b : goal.invariant-loop-b
invariant-loop-b l = record {
  odd : l.a % 2 ≡ 1;
  same : (g : ℕ) → IsGcd l.a l.b g → IsGcd l.fn.odd l.fn.other g;
}

abbrev pub decreases-loop-b : goal.decreases-loop-b
decreases-loop-b l = l.a + l.b

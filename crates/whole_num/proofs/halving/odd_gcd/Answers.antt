use Rattle.std.proofs.Common.{rules, arith, ◌≡◌, ◌<◌, ◌+◌, ◌-◌, ◌^◌, ◌/◌, ◌%◌, sym, subst}
use Rattle.std.specs.Int.{IsGcd, trailing_zeros, w64}
use Rattle.std.proofs.lemmas.Nat.Bits.{bit_at-trailing_zeros}
use Rattle.std.proofs.lemmas.Nat.Gcd.{IsGcd-from_zero}
use Rattle.whole_num.proofs.Halves.{min_odd, shift_gcd, step_gcd}
use Rattle.whole_num.proofs.halving.odd_gcd.Goals as goal

pub loop-b-preserved : goal.loop-b-preserved
loop-b-preserved c =
    let a = c.loop-b.a in
    let b = c.loop-b.b in
    let some : 0 < b = omega (arith, c.loop-b-test.true) in
    let small : b < 2 ^ 64 = search rules in
    let low = bit_at-trailing_zeros w64 b some small in
    let odd = c.loop-b.invariant.odd in
    let h = b / 2 ^ trailing_zeros w64 b in
    record {
      odd = subst (λ m. m % 2 ≡ 1) (sym c.min-a.ensures) (min_odd a h odd low.1);
      same = λ g is.
          c.loop-b.invariant.same g
          (shift_gcd (trailing_zeros w64 b) a b g odd low.2
          (step_gcd a h g (subst (λ m. IsGcd m (a - h + (h - a)) g) c.min-a.ensures (subst (λ d. IsGcd c.min-a.result d g) c.abs_diff-b.ensures is))));
    }

pub returns : goal.returns
returns c = c.loop-b.invariant.same _ (IsGcd-from_zero c.loop-b.a c.loop-b.b c.loop-b-test.false)

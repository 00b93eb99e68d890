use Rattle.std.proofs.Common.{◌≡◌, ◌*◌, ◌%◌, ◌^◌, arith, subst, sym}
use Rattle.std.specs.Int.{IsGcd}
use Rattle.std.proofs.Math.Nat.{le_of_dvd, pos_of_ne-zero}
use Rattle.whole_num.proofs.Multiples.{gcd_of_multiples}
use Rattle.whole_num.proofs.halving.gcd_small.Goals as goal

-- the product divides a number of 64 bits, and no bit of it is lost
pub returns : goal.returns
returns c =
    let a = c.args.a in
    let whole = c.common_divisor.result * 2 ^ c.common_twos-twos.result in
    let is : IsGcd a c.args.b whole = gcd_of_multiples a c.args.b (2 ^ c.common_twos-twos.result) c.common_divisor.result c.common_twos-twos.ensures.in_a c.common_twos-twos.ensures.in_b c.common_divisor.ensures in
    let kept : whole % 2 ^ 64 ≡ whole = omega (arith, le_of_dvd (pos_of_ne-zero c.if-a-eq0.false) is.0, c.ranges.a.fits) in
    subst (λ g. IsGcd a c.args.b g) (sym kept) is

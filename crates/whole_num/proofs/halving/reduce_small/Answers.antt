use Rattle.std.proofs.Common.{◌<◌, ◌/◌, subst, arith}
use Rattle.std.specs.Int.{IsGcd}
use Rattle.whole_num.proofs.Halves.{across}
use Rattle.whole_num.proofs.Multiples.{coprime, cross, gcd_positive, quotient_positive}
use Rattle.whole_num.proofs.halving.reduce_small.Goals as goal

pub returns-then-divisor-eq1-clause-coprime : goal.returns-then-divisor-eq1-clause-coprime
returns-then-divisor-eq1-clause-coprime c = subst (λ g. IsGcd c.without_twos-num.result.0 c.without_twos-num.result.1 g) c.if-divisor-eq1.true c.common_divisor-divisor.ensures

pub nonzero_div-result : goal.nonzero_div-result
nonzero_div-result c = gcd_positive c.without_twos-num.result.0 c.without_twos-num.result.1 c.common_divisor-divisor.result c.common_divisor-divisor.ensures (omega (arith, c.without_twos-num.ensures.positive))

pub nonzero_div-result-2 : goal.nonzero_div-result-2
nonzero_div-result-2 c = gcd_positive c.without_twos-num.result.0 c.without_twos-num.result.1 c.common_divisor-divisor.result c.common_divisor-divisor.ensures (omega (arith, c.without_twos-num.ensures.positive))

pub returns-clause-same : goal.returns-clause-same
returns-clause-same c =
    let num = c.without_twos-num.result.0 in
    let den = c.without_twos-num.result.1 in
    let g = c.common_divisor-divisor.result in
    let is = c.common_divisor-divisor.ensures in
    across c.args.num c.args.den num den (num / g) (den / g) c.without_twos-num.ensures.same (cross num den g is.0 is.1) c.without_twos-num.ensures.positive

pub returns-clause-positive : goal.returns-clause-positive
returns-clause-positive c = quotient_positive c.without_twos-num.result.1 c.common_divisor-divisor.result c.without_twos-num.ensures.positive c.common_divisor-divisor.ensures.1

pub returns-clause-coprime : goal.returns-clause-coprime
returns-clause-coprime c =
    let num = c.without_twos-num.result.0 in
    let den = c.without_twos-num.result.1 in
    let g = c.common_divisor-divisor.result in
    let positive : 0 < g = gcd_positive num den g c.common_divisor-divisor.ensures (omega (arith, c.without_twos-num.ensures.positive)) in
    coprime num den g positive c.common_divisor-divisor.ensures

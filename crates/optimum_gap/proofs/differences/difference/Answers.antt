use Rattle.std.proofs.Common.{rules, arith, FitsSigned}
use Rattle.std.specs.Int.{w128}
use Rattle.optimum_gap.proofs.Denominators.{lcm_fits, minus_above, minus_fits, reduced_is, widens_first, widens_second}
use Rattle.optimum_gap.proofs.differences.difference.Goals as goal

pub widened-requires : goal.widened-requires
widened-requires c = widens_first c.args.more c.args.less c.in-Some.den c.requires c.in-Some.ensures.some.0

pub widened-requires-in-Some : goal.widened-requires-in-Some
widened-requires-in-Some c = widens_second c.args.more c.args.less c.in-Some.den c.requires c.in-Some.ensures.some.0

-- the least common multiple keeps the range
pub unreachable-requires : goal.unreachable-requires
unreachable-requires c = let h = c.in-None.ensures.none in omega (arith, lcm_fits c.args.more c.args.less h.0 c.requires h.1, h.2)

pub returns : goal.returns
returns c =
    let f : FitsSigned w128 c.reduce-num.result.0 = search rules in
    let a = c.widened.ensures in
    let b = c.widened-in-Some.ensures in
    let r = c.reduce-num.ensures in
    reduced_is c.args.more c.args.less c.widened.result c.widened-in-Some.result c.reduce-num.result.0 c.reduce-num.result.1 c.in-Some.den c.in-Some.ensures.some.1 a.small b.small a.is b.is f
    (record { positive = r.reduced.0; coprime = r.reduced.1 }) r.same

pub lcm_within-requires-clause-a_positive : goal.lcm_within-requires-clause-a_positive
lcm_within-requires-clause-a_positive c = c.requires.first.is.reduced.positive

pub lcm_within-requires-clause-b_positive : goal.lcm_within-requires-clause-b_positive
lcm_within-requires-clause-b_positive c = c.requires.second.is.reduced.positive

pub overflow_sub-widened : goal.overflow_sub-widened
overflow_sub-widened c = minus_fits c.widened.result c.widened-in-Some.result c.widened.ensures.small c.widened-in-Some.ensures.small

pub reduce-num-requires-clause-positive : goal.reduce-num-requires-clause-positive
reduce-num-requires-clause-positive c = c.in-Some.ensures.some.1

pub reduce-num-requires-clause-not_least : goal.reduce-num-requires-clause-not_least
reduce-num-requires-clause-not_least c = minus_above c.widened.result c.widened-in-Some.result c.widened.ensures.small c.widened-in-Some.ensures.small

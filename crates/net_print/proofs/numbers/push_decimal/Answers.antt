use Rattle.std.proofs.Common.{arith}
use Rattle.std.proofs.Math.Nat.{pow-le-pow_right}
use Rattle.net_print.proofs.numbers.push_decimal.Goals as goal

pub pow-unit-requires : goal.pow-unit-requires
pow-unit-requires c = omega (arith, pow-le-pow_right {n = 10} (omega arith) {i = c.args.decimals} {j = 30} c.requires.few)

pub nonzero_div-size : goal.nonzero_div-size
nonzero_div-size c = omega (arith, pow-le-pow_right {n = 10} (omega arith) {i = 0} {j = c.args.decimals} (omega arith))

pub nonzero_rem-size : goal.nonzero_rem-size
nonzero_rem-size c = omega (arith, pow-le-pow_right {n = 10} (omega arith) {i = 0} {j = c.args.decimals} (omega arith))

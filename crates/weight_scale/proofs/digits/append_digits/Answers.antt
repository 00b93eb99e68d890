use Rattle.std.proofs.Common.{arith}
use Rattle.weight_scale.proofs.Written.{front_within}
use Rattle.weight_scale.proofs.digits.append_digits.Goals as goal

pub returns-in_err-longer : goal.returns-in_err-longer
returns-in_err-longer c = rw c.from_residual.ensures (λ small. c.in_err-longer.ensures (omega (arith, front_within c.loop-digit.longer c.loop-digit.digit-index _ c.args.digits.now (omega arith) c.loop-digit.invariant.whole)))

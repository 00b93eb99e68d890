use Rattle.std.proofs.Common.{arith}
use Rattle.weight_scale.proofs.Few.{few_fit}
use Rattle.weight_scale.proofs.digits.few_digits.Goals as goal

pub overflow_mul-number : goal.overflow_mul-number
overflow_mul-number c = omega (arith, few_fit c.loop-byte.number c.loop-byte.byte-index _ c.loop-byte.invariant.small c.loop-byte-test.true (omega arith))

pub overflow_add-number : goal.overflow_add-number
overflow_add-number c = omega (arith, c.from.ensures, c.if-not-is_ascii_digit.ensures.bound, few_fit c.loop-byte.number c.loop-byte.byte-index _ c.loop-byte.invariant.small c.loop-byte-test.true (omega arith))

use Rattle.std.proofs.Common.{arith}
use Rattle.weight_scale.proofs.Tens.{tens_fit, tens_wide, not_wide}
use Rattle.weight_scale.proofs.numerals.with_tens.Goals as goal

pub returns-then-tens-gt-MOST_TENS-clause-none : goal.returns-then-tens-gt-MOST_TENS-clause-none
returns-then-tens-gt-MOST_TENS-clause-none c = λ d. not_wide c.args.minus _ d (tens_wide c.args.size c.args.tens c.requires c.if-tens-gt-MOST_TENS.true)

pub pow-requires : goal.pow-requires
pow-requires c = tens_fit c.args.tens c.if-tens-gt-MOST_TENS.false

pub returns-in_err-size-clause-none : goal.returns-in_err-size-clause-none
returns-in_err-size-clause-none c = rw c.from_residual.ensures (λ d. not_wide c.args.minus _ d (omega (arith, rw c.pow.ensures at c.in_err-size.ensures)))

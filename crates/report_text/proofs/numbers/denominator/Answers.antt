use Rattle.report_text.proofs.Fractions.{one_unwritten}
use Rattle.report_text.proofs.numbers.denominator.Goals as goal

pub returns-in_default-whole-clause-none : goal.returns-in_default-whole-clause-none
returns-in_default-whole-clause-none c den h e = one_unwritten c.args.bytes.now den c.in-Some.den c.in-47.len_at_least c.if-den-ne1.false c.in-Some.ensures.some h e

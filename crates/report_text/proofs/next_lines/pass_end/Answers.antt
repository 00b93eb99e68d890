use Rattle.report_text.proofs.Fractions.{not_true}
use Rattle.report_text.proofs.Stops.{stuck_more}
use Rattle.report_text.proofs.next_lines.pass_end.Goals as goal

pub returns-else-is_at_end-clause-err : goal.returns-else-is_at_end-clause-err
returns-else-is_at_end-clause-err c nodes names =
    rw c.next_fault.ensures (stuck_more nodes names c.args.lines.now (λ e. not_true c.is_at_end.result c.if-is_at_end.false (c.is_at_end.ensures.1 e)))

use Rattle.std.proofs.lemmas.Result.{err_from_is_err_and}
use Rattle.report_text.proofs.Stops.{orderless_cut, orderless_line}
use Rattle.report_text.proofs.next_lines.next_order.Goals as goal

pub returns-in_err-line-clause-err : goal.returns-in_err-line-clause-err
returns-in_err-line-clause-err c =
    let p = err_from_is_err_and c.from_residual.result c.from_residual.ensures.1 in
    rw (p.1, p.2, c.in_err-line.ensures.fault) (orderless_cut c.args.diagram.now.nodes c.args.names.now c.args.lines.now c.in_err-line.ensures.none)

pub returns-in-None-clause-err : goal.returns-in-None-clause-err
returns-in-None-clause-err c =
    let taken = c.in_ok-line.ensures.ok in
    let none = rw c.in-None.is at c.in_ok-order.ensures in
    rw (c.fault.ensures, taken.read) (orderless_line c.args.diagram.now.nodes c.args.names.now c.in_ok-line.line.now c.args.lines.now c.take_line.new.self taken none)

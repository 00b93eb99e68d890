use Rattle.std.proofs.Common.{◌∙◌}
use Rattle.std.proofs.lemmas.Result.{err_from_is_err_and}
use Rattle.report_text.specs.Slots.{OfRow, row_words}
use Rattle.report_text.proofs.Stops.{stuck_cut, stuck_line}
use Rattle.report_text.proofs.Tails.{same_front}
use Rattle.report_text.proofs.Unended.{row_ends, row_line_is}
use Rattle.report_text.proofs.next_lines.next_row.Goals as goal

pub returns-in_err-line-clause-err : goal.returns-in_err-line-clause-err
returns-in_err-line-clause-err c =
    let p = err_from_is_err_and c.from_residual.result c.from_residual.ensures.1 in
    rw (p.1, p.2, c.in_err-line.ensures.fault)
    (stuck_cut c.args.diagram.now.nodes c.args.names.now (OfRow c.args.decision c.args.number) c.args.lines.now c.in_err-line.ensures.none (row_ends c.args.diagram.now.nodes c.args.names.now c.args.decision c.args.number))

pub returns-in-None-clause-err : goal.returns-in-None-clause-err
returns-in-None-clause-err c =
    let taken = c.in_ok-line.ensures.ok in
    let none = rw c.in-None.is at c.in_ok-row.ensures in
    rw (c.fault.ensures, taken.read)
    (stuck_line c.args.diagram.now.nodes c.args.names.now (OfRow c.args.decision c.args.number) c.in_ok-line.line.now c.args.lines.now c.take_line.new.self taken
    (λ (row, is, e). none row is (same_front c.in_ok-line.line.now (row_words c.args.diagram.now.nodes c.args.names.now c.args.decision c.args.number row) (e ∙ row_line_is c.args.diagram.now.nodes c.args.names.now c.args.decision c.args.number row))))

use Rattle.std.proofs.Common.{◌∷◌, [], codes, subst}
use Rattle.std.proofs.lemmas.Result.{err_from_is_err_and, MatchResult-weaker}
use Rattle.report_text.specs.Laws.{IsToldApart}
use Rattle.report_text.specs.Slots.{IsStuck, IsTaken, LinesView, Told}
use Rattle.report_text.proofs.BadLines.{unfinished, unordered, untitled}
use Rattle.report_text.proofs.ReportLines.{title}
use Rattle.report_text.proofs.WholeText.{read_as}
use Rattle.report_text.proofs.reading.read_report.Goals as goal

pub returns-in_err-pass_words-clause-err : goal.returns-in_err-pass_words-clause-err
returns-in_err-pass_words-clause-err c =
    let p = err_from_is_err_and c.from_residual.result c.from_residual.ensures.1 in
    let told : IsToldApart c.args.diagram.now c.args.names.now = record { diagram = c.agents-agents.ensures.diagram; fit = c.requires.fit; told = c.requires.told } in
    let stuck = subst (λ (l : LinesView). IsStuck c.args.diagram.now.nodes c.args.names.now (Told title ∷ []) l c.in_err-pass_words.field-0.0) c.new-lines.ensures (c.in_err-pass_words.ensures.err c.args.diagram.now.nodes c.args.names.now) in
    rw (p.1, p.2) (untitled c.args.diagram.now c.args.names.now told c.args.text.now c.in_err-pass_words.field-0.0 stuck)

pub returns-in_err-order-clause-err : goal.returns-in_err-order-clause-err
returns-in_err-order-clause-err c =
    let p = err_from_is_err_and c.from_residual-in_err-order.result c.from_residual-in_err-order.ensures.1 in
    let told : IsToldApart c.args.diagram.now c.args.names.now = record { diagram = c.agents-agents.ensures.diagram; fit = c.requires.fit; told = c.requires.told } in
    let taken = subst (λ (l : LinesView). IsTaken (codes "maidsolve report 1") l c.pass_words.new.lines) c.new-lines.ensures c.in_ok-pass_words.ensures.ok in
    rw (p.1, p.2) (unordered c.args.diagram.now c.args.names.now told c.args.text.now c.pass_words.new.lines c.in_err-order.field-0.0 taken c.in_err-order.ensures.err)

pub returns-clause-err : goal.returns-clause-err
returns-clause-err c =
    let told : IsToldApart c.args.diagram.now c.args.names.now = record { diagram = c.agents-agents.ensures.diagram; fit = c.requires.fit; told = c.requires.told } in
    let taken = subst (λ (l : LinesView). IsTaken (codes "maidsolve report 1") l c.pass_words.new.lines) c.new-lines.ensures c.in_ok-pass_words.ensures.ok in
    MatchResult-weaker c.read_behind.result c.read_behind.ensures.err (λ solved h. h)
    (λ fault stuck. unfinished c.args.diagram.now c.args.names.now told c.args.text.now c.in_ok-order.order.items c.pass_words.new.lines c.next_order.new.lines fault c.in_ok-order.ensures.order taken c.in_ok-order.ensures.taken stuck)

pub returns-clause-ok : goal.returns-clause-ok
returns-clause-ok c =
    let taken = subst (λ (l : LinesView). IsTaken (codes "maidsolve report 1") l c.pass_words.new.lines) c.new-lines.ensures c.in_ok-pass_words.ensures.ok in
    read_as c.args.diagram.now c.args.names.now c.in_ok-order.order.items (record { rest = c.args.text.now; read = 0 }) c.pass_words.new.lines c.next_order.new.lines taken c.in_ok-order.ensures.taken c.read_behind.result c.read_behind.ensures.value c.read_behind.ensures.order c.read_behind.ensures.bytes

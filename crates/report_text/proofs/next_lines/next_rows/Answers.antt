use Rattle.std.proofs.Common.{◌≡◌, ◌<◌, subst, arith}
use Rattle.std.proofs.lemmas.Result.{err_from_is_err_and}
use Rattle.maid_model.specs.Nodes.{rows_of}
use Rattle.report_text.specs.Slots.{ReadsRows}
use Rattle.report_text.proofs.Turns.{rows_step, rows_stuck}
use Rattle.report_text.proofs.next_lines.next_rows.Goals as goal

pub returns-in_err-row-clause-err : goal.returns-in_err-row-clause-err
returns-in_err-row-clause-err c =
    let p = err_from_is_err_and c.from_residual.result c.from_residual.ensures.1 in
    let h = subst (λ n. c.loop-number.number < n) c.rows-count.ensures c.loop-number-test.true in
    rw (p.1, p.2)
    (rows_stuck c.args.diagram.now.nodes c.args.names.now c.args.decision c.loop-number.number (rows_of c.args.diagram.now.nodes c.args.decision) c.loop-number.rows.items c.args.lines.now c.loop-number.lines c.in_err-row.field-0.0 h c.loop-number.invariant c.in_err-row.ensures.err)

pub loop-number-preserved : goal.loop-number-preserved
loop-number-preserved c =
    rw c.in_ok-push.ensures.items
    (rows_step c.args.diagram.now.nodes c.args.names.now c.args.decision c.loop-number.number c.loop-number.rows.items c.in_ok-row.row c.args.lines.now c.loop-number.lines c.next_row.new.lines c.loop-number.invariant c.in_ok-row.ensures.ok.0 c.in_ok-row.ensures.ok.1)

pub next_row-requires-clause-fit : goal.next_row-requires-clause-fit
next_row-requires-clause-fit c = c.requires.fit

pub next_row-requires-clause-decision : goal.next_row-requires-clause-decision
next_row-requires-clause-decision c = c.requires.decision

pub next_row-requires-clause-rows : goal.next_row-requires-clause-rows
next_row-requires-clause-rows c = c.rows-count.ensures

pub next_row-requires-clause-number : goal.next_row-requires-clause-number
next_row-requires-clause-number c = c.loop-number-test.true

pub returns-in_err-row-clause-ok : goal.returns-in_err-row-clause-ok
returns-in_err-row-clause-ok c = rw (err_from_is_err_and c.from_residual.result c.from_residual.ensures.1).1 tt

pub returns-in_err-push-clause-ok : goal.returns-in_err-push-clause-ok
returns-in_err-push-clause-ok c = rw (err_from_is_err_and c.from_residual-in_err-push.result c.from_residual-in_err-push.ensures.1).1 tt

pub returns-in_err-push-clause-err : goal.returns-in_err-push-clause-err
returns-in_err-push-clause-err c =
    let p = err_from_is_err_and c.from_residual-in_err-push.result c.from_residual-in_err-push.ensures.1 in
    rw (p.1, p.2) tt

pub loop-number-smaller : goal.loop-number-smaller
loop-number-smaller c = omega (arith, c.loop-number-test.true)

pub returns-clause-ok : goal.returns-clause-ok
returns-clause-ok c =
    let done : c.loop-number.number ≡ rows_of c.args.diagram.now.nodes c.args.decision = omega (arith, c.loop-number-test.false, c.rows-count.ensures) in
    subst (λ n. ReadsRows c.args.diagram.now.nodes c.args.names.now c.args.decision n c.loop-number.rows.items c.args.lines.now c.loop-number.lines) done c.loop-number.invariant

pub returns-clause-err : goal.returns-clause-err
returns-clause-err c = tt

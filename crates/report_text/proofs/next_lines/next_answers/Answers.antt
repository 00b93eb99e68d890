use Rattle.std.proofs.Common.{◌+◌, take, drop, get_or, sym, subst, arith}
use Rattle.std.proofs.lemmas.List.{take_more, take_all}
use Rattle.std.proofs.lemmas.Result.{err_from_is_err_and}
use Rattle.std.specs.List.{flat_map}
use Rattle.report_text.specs.Slots.{IsStuck, ReadsAnswers, answer_slots}
use Rattle.report_text.proofs.Turns.{answers_step, answers_stuck, parted}
use Rattle.report_text.proofs.next_lines.next_answers.Goals as goal

pub returns-in_err-answer-clause-err : goal.returns-in_err-answer-clause-err
returns-in_err-answer-clause-err c =
    let p = err_from_is_err_and c.from_residual.result c.from_residual.ensures.1 in
    let i = c.loop-decision.decision-index in
    let stuck = answers_stuck c.args.diagram.now.nodes c.args.names.now (take i c.args.order.now) (get_or c.args.order.now i 0) (drop (i + 1) c.args.order.now) c.loop-decision.answers.items c.args.lines.now c.loop-decision.lines c.in_err-answer.field-0.0 c.loop-decision.invariant c.in_err-answer.ensures.err in
    rw (p.1, p.2)
    (subst (λ xs. IsStuck c.args.diagram.now.nodes c.args.names.now (flat_map (answer_slots c.args.diagram.now.nodes c.args.names.now) xs) c.args.lines.now c.in_err-answer.field-0.0) (sym (parted c.args.order.now i c.loop-decision-test.true)) stuck)

pub loop-decision-preserved : goal.loop-decision-preserved
loop-decision-preserved c =
    let i = c.loop-decision.decision-index in
    let items = c.in_ok-push.ensures.items in
    let more = take_more c.args.order.now i 0 c.loop-decision-test.true in
    let step = answers_step c.args.diagram.now.nodes c.args.names.now (take i c.args.order.now) (get_or c.args.order.now i 0) c.loop-decision.answers.items c.in_ok-answer.answer c.args.lines.now c.loop-decision.lines c.next_answer.new.lines c.loop-decision.invariant c.in_ok-answer.ensures.ok in
    rw (more, items) step

pub next_answer-requires-clause-fit : goal.next_answer-requires-clause-fit
next_answer-requires-clause-fit c = c.requires.fit

pub next_answer-requires-clause-decision : goal.next_answer-requires-clause-decision
next_answer-requires-clause-decision c = c.requires.order c.loop-decision.decision-index 0 c.loop-decision-test.true

pub returns-in_err-answer-clause-ok : goal.returns-in_err-answer-clause-ok
returns-in_err-answer-clause-ok c = rw (err_from_is_err_and c.from_residual.result c.from_residual.ensures.1).1 tt

pub returns-in_err-push-clause-ok : goal.returns-in_err-push-clause-ok
returns-in_err-push-clause-ok c = rw (err_from_is_err_and c.from_residual-in_err-push.result c.from_residual-in_err-push.ensures.1).1 tt

pub returns-in_err-push-clause-err : goal.returns-in_err-push-clause-err
returns-in_err-push-clause-err c =
    let p = err_from_is_err_and c.from_residual-in_err-push.result c.from_residual-in_err-push.ensures.1 in
    rw (p.1, p.2) tt

pub loop-decision-smaller : goal.loop-decision-smaller
loop-decision-smaller c = omega (arith, c.loop-decision-test.true)

pub returns-clause-ok : goal.returns-clause-ok
returns-clause-ok c =
    subst (λ xs. ReadsAnswers c.args.diagram.now.nodes c.args.names.now xs c.loop-decision.answers.items c.args.lines.now c.loop-decision.lines) (take_all c.loop-decision.decision-index c.args.order.now c.loop-decision-test.false) c.loop-decision.invariant

pub returns-clause-err : goal.returns-clause-err
returns-clause-err c = tt

use Rattle.std.proofs.lemmas.Result.{err_from_is_err_and}
use Rattle.std.proofs.Common.{◌≡◌, ◌∙◌, ◌+◌, ◌<◌, ◌≤◌, length, Some, None, ap, sym, subst, arith, All}
use Rattle.maid_model.specs.Answers.{answered, pure_profile, IsReduced}
use Rattle.maid_model.specs.Profiles.{IsProfile}
use Rattle.maid_model.specs.Views.{AnswerView, SolvedView}
use Rattle.maid_laws.proofs.AnswerLaws.{profile}
use Rattle.tree_checker.proofs.FirstLines.{CheckedSoFar, IsLookedAt, all_right, checked_next, checked_start, gain_first, gains_like, judged_like, line_room, looked_at, passed_all, row_first, rows_room, answer_fits}
use Rattle.part_laws.specs.ScopeLaws.{HasUnitRules}
use Rattle.tree_checker.proofs.checking.check_answers.Goals as goal

pub loop-answer-init : goal.loop-answer-init
loop-answer-init c = checked_start c.args.diagram.now c.args.solved.now

pub answer_fault-requires-clause-chosen : goal.answer_fault-requires-clause-chosen
answer_fault-requires-clause-chosen c = subst (IsProfile c.args.diagram.now.nodes) (sym (c.in_ok-chosen.ensures.rules ∙ ap (pure_profile c.args.diagram.now.nodes) (c.deref.ensures.value ∙ ap (λ (x : SolvedView). x.answers) c.solved.view_is))) (profile c.args.diagram.now c.args.solved.now c.count-count.ensures.diagram.graph c.count-count.ensures.diagram.tables c.requires.fits)

pub overflow_add-result : goal.overflow_add-result
overflow_add-result c =
    let here : IsLookedAt c.args.solved.now c.loop-answer.answer-index c.answer-item.result = (looked_at c.args.diagram.now c.args.solved.now c.requires.fits c.deref-answer-items.result.now c.loop-answer.answer-index c.answer-item.result (c.deref-answer-items.ensures.value ∙ ap (λ (x : SolvedView). x.answers) c.solved.view_is) c.loop-answer-test.true c.answer-item.is) in
    let line : c.loop-answer.line ≤ 16777475 = (line_room c.args.diagram.now c.args.solved.now c.requires.fits c.count-count.ensures.diagram c.loop-answer.answer-index c.loop-answer.line c.loop-answer.invariant (let l = here.within in omega (arith, l))) in
    omega (arith, line)

pub overflow_add-result-in-Some : goal.overflow_add-result-in-Some
overflow_add-result-in-Some c =
    let here : IsLookedAt c.args.solved.now c.loop-answer.answer-index c.answer-item.result = (looked_at c.args.diagram.now c.args.solved.now c.requires.fits c.deref-answer-items.result.now c.loop-answer.answer-index c.answer-item.result (c.deref-answer-items.ensures.value ∙ ap (λ (x : SolvedView). x.answers) c.solved.view_is) c.loop-answer-test.true c.answer-item.is) in
    let line : c.loop-answer.line ≤ 16777475 = (line_room c.args.diagram.now c.args.solved.now c.requires.fits c.count-count.ensures.diagram c.loop-answer.answer-index c.loop-answer.line c.loop-answer.invariant (let l = here.within in omega (arith, l))) in
    let row : c.in-Some.fault.row < length c.answer-item.result.rows = (judged_like c.args.diagram.now c.in_ok-chosen.chosen (answered c.args.diagram.now c.args.solved.now) c.answer.inside.decision c.answer-item.result.decision c.as_slice-rows.result.now c.answer-item.result.rows c.in_ok-fault.field-0 (Some c.in-Some.fault) (c.in_ok-chosen.ensures.rules ∙ ap (pure_profile c.args.diagram.now.nodes) (c.deref.ensures.value ∙ ap (λ (x : SolvedView). x.answers) c.solved.view_is)) (ap (λ (x : AnswerView). x.decision) c.answer.view_is) (c.as_slice-rows.ensures.value ∙ ap (λ (x : AnswerView). x.rows) c.answer.view_is) c.in-Some.is c.in_ok-fault.ensures).judged.within in
    let rows : length c.answer-item.result.rows ≤ 65536 = (rows_room c.args.diagram.now c.args.solved.now c.requires.fits c.count-count.ensures.diagram c.loop-answer.answer-index c.answer-item.result here) in
    omega (arith, line, row, rows)

pub returns-in-Some : goal.returns-in-Some
returns-in-Some c =
    let here : IsLookedAt c.args.solved.now c.loop-answer.answer-index c.answer-item.result = (looked_at c.args.diagram.now c.args.solved.now c.requires.fits c.deref-answer-items.result.now c.loop-answer.answer-index c.answer-item.result (c.deref-answer-items.ensures.value ∙ ap (λ (x : SolvedView). x.answers) c.solved.view_is) c.loop-answer-test.true c.answer-item.is) in
    row_first c.args.diagram.now c.args.solved.now c.requires.fits c.requires.order c.loop-answer.answer-index c.loop-answer.line c.loop-answer.invariant here.within c.answer-item.result here.here c.in-Some.fault
    (judged_like c.args.diagram.now c.in_ok-chosen.chosen (answered c.args.diagram.now c.args.solved.now) c.answer.inside.decision c.answer-item.result.decision c.as_slice-rows.result.now c.answer-item.result.rows c.in_ok-fault.field-0 (Some c.in-Some.fault) (c.in_ok-chosen.ensures.rules ∙ ap (pure_profile c.args.diagram.now.nodes) (c.deref.ensures.value ∙ ap (λ (x : SolvedView). x.answers) c.solved.view_is)) (ap (λ (x : AnswerView). x.decision) c.answer.view_is) (c.as_slice-rows.ensures.value ∙ ap (λ (x : AnswerView). x.rows) c.answer.view_is) c.in-Some.is c.in_ok-fault.ensures)

pub overflow_add-line-in-loop-answer : goal.overflow_add-line-in-loop-answer
overflow_add-line-in-loop-answer c =
    let here : IsLookedAt c.args.solved.now c.loop-answer.answer-index c.answer-item.result = (looked_at c.args.diagram.now c.args.solved.now c.requires.fits c.deref-answer-items.result.now c.loop-answer.answer-index c.answer-item.result (c.deref-answer-items.ensures.value ∙ ap (λ (x : SolvedView). x.answers) c.solved.view_is) c.loop-answer-test.true c.answer-item.is) in
    let line : c.loop-answer.line ≤ 16777475 = (line_room c.args.diagram.now c.args.solved.now c.requires.fits c.count-count.ensures.diagram c.loop-answer.answer-index c.loop-answer.line c.loop-answer.invariant (let l = here.within in omega (arith, l))) in
    let rows : length c.answer-item.result.rows ≤ 65536 = (rows_room c.args.diagram.now c.args.solved.now c.requires.fits c.count-count.ensures.diagram c.loop-answer.answer-index c.answer-item.result here) in
    let same : length c.as_slice-rows.result.now ≡ length c.answer-item.result.rows = ap length (c.as_slice-rows.ensures.value ∙ ap (λ (x : AnswerView). x.rows) c.answer.view_is) in
    omega (arith, line, rows, same)

pub loop-answer-preserved : goal.loop-answer-preserved
loop-answer-preserved c =
    let here : IsLookedAt c.args.solved.now c.loop-answer.answer-index c.answer-item.result = (looked_at c.args.diagram.now c.args.solved.now c.requires.fits c.deref-answer-items.result.now c.loop-answer.answer-index c.answer-item.result (c.deref-answer-items.ensures.value ∙ ap (λ (x : SolvedView). x.answers) c.solved.view_is) c.loop-answer-test.true c.answer-item.is) in
    subst (λ n. CheckedSoFar c.args.diagram.now c.args.solved.now (c.loop-answer.answer-index + 1) (c.loop-answer.line + (1 + n))) (sym (ap length (c.as_slice-rows.ensures.value ∙ ap (λ (x : AnswerView). x.rows) c.answer.view_is)))
    (checked_next c.args.diagram.now c.args.solved.now c.requires.fits c.requires.order c.loop-answer.answer-index c.loop-answer.line c.loop-answer.invariant here.within c.answer-item.result here.here
    (judged_like c.args.diagram.now c.in_ok-chosen.chosen (answered c.args.diagram.now c.args.solved.now) c.answer.inside.decision c.answer-item.result.decision c.as_slice-rows.result.now c.answer-item.result.rows c.in_ok-fault.field-0 None (c.in_ok-chosen.ensures.rules ∙ ap (pure_profile c.args.diagram.now.nodes) (c.deref.ensures.value ∙ ap (λ (x : SolvedView). x.answers) c.solved.view_is)) (ap (λ (x : AnswerView). x.decision) c.answer.view_is) (c.as_slice-rows.ensures.value ∙ ap (λ (x : AnswerView). x.rows) c.answer.view_is) c.in_default.is c.in_ok-fault.ensures))

pub first_wrong_gain-requires-clause-chosen : goal.first_wrong_gain-requires-clause-chosen
first_wrong_gain-requires-clause-chosen c = subst (IsProfile c.args.diagram.now.nodes) (sym (c.in_ok-chosen.ensures.rules ∙ ap (pure_profile c.args.diagram.now.nodes) (c.deref.ensures.value ∙ ap (λ (x : SolvedView). x.answers) c.solved.view_is))) (profile c.args.diagram.now c.args.solved.now c.count-count.ensures.diagram.graph c.count-count.ensures.diagram.tables c.requires.fits)

pub returns-in-None : goal.returns-in-None
returns-in-None c =
    all_right c.args.diagram.now c.args.solved.now c.requires.fits c.requires.order c.loop-answer.answer-index c.loop-answer.line c.loop-answer.invariant
    (passed_all c.args.diagram.now c.args.solved.now c.requires.fits c.deref-answer-items.result.now c.loop-answer.answer-index (c.deref-answer-items.ensures.value ∙ ap (λ (x : SolvedView). x.answers) c.solved.view_is) c.loop-answer-test.false c.loop-answer.auto.answer-index-end)
    (gains_like c.args.diagram.now c.in_ok-chosen.chosen (answered c.args.diagram.now c.args.solved.now) c.deref-2.result.now c.args.solved.now.gains c.in_ok-first_wrong_gain.field-0 None (c.in_ok-chosen.ensures.rules ∙ ap (pure_profile c.args.diagram.now.nodes) (c.deref.ensures.value ∙ ap (λ (x : SolvedView). x.answers) c.solved.view_is)) (c.deref-2.ensures.value ∙ ap (λ (x : SolvedView). x.gains) c.solved.view_is) c.in-None.is c.in_ok-first_wrong_gain.ensures)

pub overflow_add-result-in-Some-2 : goal.overflow_add-result-in-Some-2
overflow_add-result-in-Some-2 c =
    let end : c.loop-answer.answer-index ≡ length c.args.solved.now.order = (passed_all c.args.diagram.now c.args.solved.now c.requires.fits c.deref-answer-items.result.now c.loop-answer.answer-index (c.deref-answer-items.ensures.value ∙ ap (λ (x : SolvedView). x.answers) c.solved.view_is) c.loop-answer-test.false c.loop-answer.auto.answer-index-end) in
    let line : c.loop-answer.line ≤ 16777475 = (line_room c.args.diagram.now c.args.solved.now c.requires.fits c.count-count.ensures.diagram c.loop-answer.answer-index c.loop-answer.line c.loop-answer.invariant (omega (arith, end))) in
    let agent : c.in-Some-2.agent < c.args.diagram.now.agents = (gains_like c.args.diagram.now c.in_ok-chosen.chosen (answered c.args.diagram.now c.args.solved.now) c.deref-2.result.now c.args.solved.now.gains c.in_ok-first_wrong_gain.field-0 (Some c.in-Some-2.agent) (c.in_ok-chosen.ensures.rules ∙ ap (pure_profile c.args.diagram.now.nodes) (c.deref.ensures.value ∙ ap (λ (x : SolvedView). x.answers) c.solved.view_is)) (c.deref-2.ensures.value ∙ ap (λ (x : SolvedView). x.gains) c.solved.view_is) c.in-Some-2.is c.in_ok-first_wrong_gain.ensures).within in
    let few = c.count-count.ensures.diagram.limits.agents in
    omega (arith, line, agent, few)

pub returns : goal.returns
returns c =
    gain_first c.args.diagram.now c.args.solved.now c.requires.fits c.requires.order c.loop-answer.answer-index c.loop-answer.line c.loop-answer.invariant
    (passed_all c.args.diagram.now c.args.solved.now c.requires.fits c.deref-answer-items.result.now c.loop-answer.answer-index (c.deref-answer-items.ensures.value ∙ ap (λ (x : SolvedView). x.answers) c.solved.view_is) c.loop-answer-test.false c.loop-answer.auto.answer-index-end) c.in-Some-2.agent
    (gains_like c.args.diagram.now c.in_ok-chosen.chosen (answered c.args.diagram.now c.args.solved.now) c.deref-2.result.now c.args.solved.now.gains c.in_ok-first_wrong_gain.field-0 (Some c.in-Some-2.agent) (c.in_ok-chosen.ensures.rules ∙ ap (pure_profile c.args.diagram.now.nodes) (c.deref.ensures.value ∙ ap (λ (x : SolvedView). x.answers) c.solved.view_is)) (c.deref-2.ensures.value ∙ ap (λ (x : SolvedView). x.gains) c.solved.view_is) c.in-Some-2.is c.in_ok-first_wrong_gain.ensures)

pub returns-in_err-chosen : goal.returns-in_err-chosen
returns-in_err-chosen c = rw (err_from_is_err_and c.from_residual.result c.from_residual.ensures.1).1 tt

pub answer_fault-requires-clause-relevance : goal.answer_fault-requires-clause-relevance
answer_fault-requires-clause-relevance c = c.requires.relevance

pub answer_fault-requires-clause-bound : goal.answer_fault-requires-clause-bound
answer_fault-requires-clause-bound c = c.requires.bound

pub answer_fault-requires-clause-decision : goal.answer_fault-requires-clause-decision
answer_fault-requires-clause-decision c = (answer_fits c.args.diagram.now c.args.solved.now c.requires.fits c.loop-answer.answer-index c.answer-item.result c.answer.inside.decision c.as_slice-rows.result.now (looked_at c.args.diagram.now c.args.solved.now c.requires.fits c.deref-answer-items.result.now c.loop-answer.answer-index c.answer-item.result (c.deref-answer-items.ensures.value ∙ ap (λ (x : SolvedView). x.answers) c.solved.view_is) c.loop-answer-test.true c.answer-item.is) (ap (λ (x : AnswerView). x.decision) c.answer.view_is) (c.as_slice-rows.ensures.value ∙ ap (λ (x : AnswerView). x.rows) c.answer.view_is)).decision

pub answer_fault-requires-clause-count : goal.answer_fault-requires-clause-count
answer_fault-requires-clause-count c = (answer_fits c.args.diagram.now c.args.solved.now c.requires.fits c.loop-answer.answer-index c.answer-item.result c.answer.inside.decision c.as_slice-rows.result.now (looked_at c.args.diagram.now c.args.solved.now c.requires.fits c.deref-answer-items.result.now c.loop-answer.answer-index c.answer-item.result (c.deref-answer-items.ensures.value ∙ ap (λ (x : SolvedView). x.answers) c.solved.view_is) c.loop-answer-test.true c.answer-item.is) (ap (λ (x : AnswerView). x.decision) c.answer.view_is) (c.as_slice-rows.ensures.value ∙ ap (λ (x : AnswerView). x.rows) c.answer.view_is)).rows

pub answer_fault-requires-clause-choices : goal.answer_fault-requires-clause-choices
answer_fault-requires-clause-choices c = (answer_fits c.args.diagram.now c.args.solved.now c.requires.fits c.loop-answer.answer-index c.answer-item.result c.answer.inside.decision c.as_slice-rows.result.now (looked_at c.args.diagram.now c.args.solved.now c.requires.fits c.deref-answer-items.result.now c.loop-answer.answer-index c.answer-item.result (c.deref-answer-items.ensures.value ∙ ap (λ (x : SolvedView). x.answers) c.solved.view_is) c.loop-answer-test.true c.answer-item.is) (ap (λ (x : AnswerView). x.decision) c.answer.view_is) (c.as_slice-rows.ensures.value ∙ ap (λ (x : AnswerView). x.rows) c.answer.view_is)).choices

pub answer_fault-requires-clause-reduced : goal.answer_fault-requires-clause-reduced
answer_fault-requires-clause-reduced c = (answer_fits c.args.diagram.now c.args.solved.now c.requires.fits c.loop-answer.answer-index c.answer-item.result c.answer.inside.decision c.as_slice-rows.result.now (looked_at c.args.diagram.now c.args.solved.now c.requires.fits c.deref-answer-items.result.now c.loop-answer.answer-index c.answer-item.result (c.deref-answer-items.ensures.value ∙ ap (λ (x : SolvedView). x.answers) c.solved.view_is) c.loop-answer-test.true c.answer-item.is) (ap (λ (x : AnswerView). x.decision) c.answer.view_is) (c.as_slice-rows.ensures.value ∙ ap (λ (x : AnswerView). x.rows) c.answer.view_is)).worths

pub returns-in_err-fault : goal.returns-in_err-fault
returns-in_err-fault c = rw (err_from_is_err_and c.from_residual-in_err-fault.result c.from_residual-in_err-fault.ensures.1).1 tt

pub loop-answer-smaller : goal.loop-answer-smaller
loop-answer-smaller c = omega (arith, c.loop-answer-test.true)

pub first_wrong_gain-requires-clause-bound : goal.first_wrong_gain-requires-clause-bound
first_wrong_gain-requires-clause-bound c = c.requires.bound

pub returns-in_err-first_wrong_gain : goal.returns-in_err-first_wrong_gain
returns-in_err-first_wrong_gain c = rw (err_from_is_err_and c.from_residual-in_err-first_wrong_gain.result c.from_residual-in_err-first_wrong_gain.ensures.1).1 tt

pub answer_fault-requires-clause-pure : goal.answer_fault-requires-clause-pure
answer_fault-requires-clause-pure c = subst (HasUnitRules c.args.diagram.now.nodes) (sym c.in_ok-chosen.ensures.rules) (c.scoped_sums_fit.ensures.answers c.args.diagram.now.nodes _)

pub first_wrong_gain-requires-clause-pure : goal.first_wrong_gain-requires-clause-pure
first_wrong_gain-requires-clause-pure c = subst (HasUnitRules c.args.diagram.now.nodes) (sym c.in_ok-chosen.ensures.rules) (c.scoped_sums_fit.ensures.answers c.args.diagram.now.nodes _)

pub first_wrong_gain-requires-clause-count : goal.first_wrong_gain-requires-clause-count
first_wrong_gain-requires-clause-count c = ap length (c.deref-2.ensures.value ∙ ap (λ (x : SolvedView). x.gains) c.solved.view_is) ∙ c.requires.fits.gains

pub first_wrong_gain-requires-clause-reduced : goal.first_wrong_gain-requires-clause-reduced
first_wrong_gain-requires-clause-reduced c = subst (All IsReduced) (sym (c.deref-2.ensures.value ∙ ap (λ (x : SolvedView). x.gains) c.solved.view_is)) c.requires.fits.reduced

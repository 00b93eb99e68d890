-- The code's answer is what it is seen as, so its rows are those of the lines.
use Rattle.std.proofs.Common.{◌≡◌, ◌∙◌, ◌++◌, ◌<◌, All, List, None, append_assoc, ap, arith, get_or, length, subst, sym}
use Rattle.std.proofs.lemmas.Result.{IfOk-from_err}
use borrow.Author.Count.{falls}
use Rattle.maid_model.specs.Nodes.{IsDecision, rows_of, states_of}
use Rattle.maid_model.specs.Reports.{decision_head}
use Rattle.maid_model.specs.Views.{AnswerView}
use Rattle.maid_model.specs.declared.answers.Row.{Row}
use Rattle.app_forms.specs.Given.{row_given, rows_given}
use Rattle.app_forms.proofs.GivenRows.{row_more, rows_end}
use Rattle.app_forms.proofs.forms.given.push_decision.Goals as goal

pub push_head-requires-clause-fit : goal.push_head-requires-clause-fit
push_head-requires-clause-fit c = c.requires.fit

pub push_head-requires-clause-decision : goal.push_head-requires-clause-decision
push_head-requires-clause-decision c = subst (IsDecision c.args.diagram.now.nodes) (sym (ap (λ (a : AnswerView). a.decision) c.answer.view_is)) c.requires.answer.decision

pub returns-in_err-push_head : goal.returns-in_err-push_head
returns-in_err-push_head c = IfOk-from_err _ _ c.from_residual.ensures.0

pub loop-number-init : goal.loop-number-init
loop-number-init c =
    let nodes = c.args.diagram.now.nodes in
    let names = c.args.names.now in
    let answer : AnswerView = c.args.answer.now in
    let decided = ap (λ (a : AnswerView). a.decision) c.answer.view_is in
    let rows = rows_given nodes names c.args.place answer.decision 0 answer.rows in
    ap (λ xs. xs ++ rows) (c.in_ok-push_head.ensures ∙ ap (λ d. c.args.out.now.items ++ decision_head nodes names d) decided) ∙ append_assoc c.args.out.now.items (decision_head nodes names answer.decision) rows

pub bounds-row-items-number : goal.bounds-row-items-number
bounds-row-items-number c = c.loop-number-test.true

pub push_row_given-requires-clause-fit : goal.push_row_given-requires-clause-fit
push_row_given-requires-clause-fit c = c.requires.fit

pub push_row_given-requires-clause-decision : goal.push_row_given-requires-clause-decision
push_row_given-requires-clause-decision c = subst (IsDecision c.args.diagram.now.nodes) (sym (ap (λ (a : AnswerView). a.decision) c.answer.view_is)) c.requires.answer.decision

pub push_row_given-requires-clause-number : goal.push_row_given-requires-clause-number
push_row_given-requires-clause-number c =
    let rows : c.deref-row-items.result.now ≡ c.args.answer.now.rows = c.deref-row-items.ensures.value ∙ ap (λ (a : AnswerView). a.rows) c.answer.view_is in
    let count = ap (λ (l : List Row). length l) rows ∙ c.requires.answer.rows ∙ ap (rows_of c.args.diagram.now.nodes) (sym (ap (λ (a : AnswerView). a.decision) c.answer.view_is)) in
    subst (λ n. c.loop-number.number < n) count c.loop-number-test.true

pub push_row_given-requires-clause-choice : goal.push_row_given-requires-clause-choice
push_row_given-requires-clause-choice c =
    let nodes = c.args.diagram.now.nodes in
    let answer : AnswerView = c.args.answer.now in
    let rows : c.deref-row-items.result.now ≡ answer.rows = c.deref-row-items.ensures.value ∙ ap (λ (a : AnswerView). a.rows) c.answer.view_is in
    let choices : All (λ (r : Row). r.choice < states_of nodes c.answer.inside.decision) c.deref-row-items.result.now =
    subst (All (λ (r : Row). r.choice < states_of nodes c.answer.inside.decision)) (sym rows) (subst (λ d. All (λ (r : Row). r.choice < states_of nodes d) answer.rows) (sym (ap (λ (a : AnswerView). a.decision) c.answer.view_is)) c.requires.answer.choices) in
    choices c.loop-number.number _ c.loop-number-test.true

pub returns-in_err-push_row_given : goal.returns-in_err-push_row_given
returns-in_err-push_row_given c = IfOk-from_err _ _ c.from_residual-in_err-push_row_given.ensures.0

pub loop-number-smaller : goal.loop-number-smaller
loop-number-smaller c = falls _ _ c.loop-number-test.true

pub loop-number-preserved : goal.loop-number-preserved
loop-number-preserved c =
    let nodes = c.args.diagram.now.nodes in
    let names = c.args.names.now in
    let place = c.args.place in
    let answer : AnswerView = c.args.answer.now in
    let number = c.loop-number.number in
    let before = c.loop-number.out.items in
    let none : Row = record { choice = 0; worth = None } in
    let rows : c.deref-row-items.result.now ≡ answer.rows = c.deref-row-items.ensures.value ∙ ap (λ (a : AnswerView). a.rows) c.answer.view_is in
    let decided = ap (λ (a : AnswerView). a.decision) c.answer.view_is in
    row_more nodes names place answer.decision answer.rows number none before c.push_row_given.new.out.items _
    (subst (λ (l : List Row). number < length l) rows c.loop-number-test.true)
    (c.in_ok-push_row_given.ensures ∙ ap (λ d. before ++ row_given nodes names place d number (get_or c.deref-row-items.result.now number none)) decided ∙ ap (λ (l : List Row). before ++ row_given nodes names place answer.decision number (get_or l number none)) rows)
    c.loop-number.invariant

pub returns : goal.returns
returns c =
    let answer : AnswerView = c.args.answer.now in
    let rows : c.deref-row-items.result.now ≡ answer.rows = c.deref-row-items.ensures.value ∙ ap (λ (a : AnswerView). a.rows) c.answer.view_is in
    let all = ap (λ (l : List Row). length l) rows in
    rows_end c.args.diagram.now.nodes c.args.names.now c.args.place answer.decision answer.rows c.loop-number.number c.loop-number.out.items _ (omega (arith, all, c.loop-number-test.false)) c.loop-number.invariant

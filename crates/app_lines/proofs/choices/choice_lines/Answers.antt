use Rattle.std.proofs.Common.{◌∙◌, ◌++◌, sym, ap, subst}
use Rattle.maid_model.specs.Views.{AnswerView}
use Rattle.app_lines.specs.Choices.{HasChoices, decision_choices}
use Rattle.app_lines.proofs.Lines.{text_next}
use Rattle.std.proofs.lemmas.Result.{IfOk-from_err}
use Rattle.app_lines.proofs.choices.choice_lines.Goals as goal

pub push_choices-requires-clause-answer : goal.push_choices-requires-clause-answer
push_choices-requires-clause-answer c = subst (HasChoices c.args.diagram.now.nodes) (sym c.answer-item.is) (c.requires.answers c.loop-answer.answer-index c.answer-item.result c.loop-answer-test.true)

pub loop-answer-preserved : goal.loop-answer-preserved
loop-answer-preserved c =
    let lines = decision_choices c.args.diagram.now.nodes c.args.names.now in
    text_next lines c.loop-answer.text.items c.push_choices.new.out.items c.args.answers.now c.loop-answer.answer-index c.answer-item.result c.loop-answer-test.true c.loop-answer.invariant
    (c.in_ok-push_choices.ensures ∙ ap (λ (a : AnswerView). c.loop-answer.text.items ++ lines a) c.answer-item.is)

pub returns-in_err-push_choices : goal.returns-in_err-push_choices
returns-in_err-push_choices c = IfOk-from_err _ _ c.from_residual.ensures.0

use Rattle.std.proofs.Common.{◌++◌, ◌∙◌, flat_map, ap}
use Rattle.std.proofs.lemmas.List.{take_all}
use Rattle.line_pieces.proofs.Appending.{piece_more}
use Rattle.app_forms.specs.Given.{decision_given}
use Rattle.app_forms.proofs.forms.given.push_decisions.Goals as goal

pub loop-answer-preserved : goal.loop-answer-preserved
loop-answer-preserved c =
    let shown = decision_given c.args.diagram.now.nodes c.args.names.now c.args.place in
    piece_more shown c.args.answers.now c.loop-answer.answer-index c.answer-item.result c.args.out.now.items c.loop-answer.out.items c.push_decision.new.out.items c.loop-answer-test.true c.loop-answer.invariant
    (c.in_ok-push_decision.ensures ∙ ap (λ answer. c.loop-answer.out.items ++ shown answer) c.answer-item.is)

pub returns : goal.returns
returns c = c.loop-answer.invariant ∙ ap (λ answers. c.args.out.now.items ++ flat_map (decision_given c.args.diagram.now.nodes c.args.names.now c.args.place) answers) (take_all c.loop-answer.answer-index c.args.answers.now c.loop-answer-test.false)

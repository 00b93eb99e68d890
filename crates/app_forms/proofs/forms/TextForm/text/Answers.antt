use Rattle.std.proofs.Common.{rules, Ok, subst}
use Rattle.app_forms.specs.Answers.{Answers}
use Rattle.app_forms.specs.Form.{task_by, text_request}
use Rattle.app_forms.specs.Outcome.{done_with}
use Rattle.app_forms.specs.Reading.{Finishes, Prints, TellsFor, TellsOf, TellsTextFault}
use Rattle.app_forms.proofs.Refusals.{if_err_then, if_ok_then}
use Rattle.app_forms.proofs.TextForms.{answered_here, text_told, told_here}
use Rattle.app_forms.proofs.forms.TextForm.text.Goals as goal

-- the text has a fault
pub returns-in_err-diagram-clause-err : goal.returns-in_err-diagram-clause-err
returns-in_err-diagram-clause-err c =
    let form = c.args.self in
    let bytes = c.args.bytes.now in
    if_err_then c.from_residual.result (TellsTextFault c.name.result.now bytes) (TellsOf (Answers (text_request form) bytes))
    (λ refusal h. text_told form bytes refusal (subst (λ name. TellsTextFault name bytes refusal) c.name.ensures h))
    (search rules)

-- or what its diagram is answered with is what comes of it
pub returns-clause-ok : goal.returns-clause-ok
returns-clause-ok c =
    let form = c.args.self in
    let bytes = c.args.bytes.now in
    let d = c.in_ok-diagram.diagram in
    let names = c.in_ok-diagram.names in
    if_ok_then c.answer.result (Prints (task_by form) d names) (Finishes (Answers (text_request form) bytes)) (λ text. answered_here form bytes d names c.in_ok-diagram.ensures.ok (Ok (done_with text.items))) c.answer.ensures.ok

pub returns-clause-err : goal.returns-clause-err
returns-clause-err c =
    let form = c.args.self in
    let bytes = c.args.bytes.now in
    let d = c.in_ok-diagram.diagram in
    let names = c.in_ok-diagram.names in
    if_err_then c.answer.result (TellsFor (task_by form) d names) (TellsOf (Answers (text_request form) bytes)) (told_here form bytes d names c.in_ok-diagram.ensures.ok) c.answer.ensures.err

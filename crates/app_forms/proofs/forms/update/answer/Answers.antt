use Rattle.std.proofs.Common.{refl}
use Rattle.app_forms.specs.Diagrams.{NamedDiagram}
use Rattle.app_forms.specs.Update.{HasUpdate, update_stages, updating}
use Rattle.app_forms.proofs.Refusals.{stages_give, stages_refuse}
use Rattle.app_forms.proofs.forms.update.answer.Goals as goal

-- no stage refuses the diagram, and the text is that of what is found
pub returns-in_ok-update_text-in-Ok-clause-ok : goal.returns-in_ok-update_text-in-Ok-clause-ok
returns-in_ok-update_text-in-Ok-clause-ok c =
    let d = c.args.diagram.now in
    let names = c.args.names.now in
    let x : NamedDiagram = record { d = d; names = names } in
    let found = c.in-Ok.ensures in
    stages_give d names update_stages HasUpdate c.in_ok-update_text-in-Ok.field-0.items (λ name bytes is. ((x, is, found.rows.0), ((x, is, found.rows.1.0), ((x, is, found.rows.1.1.0), ((x, is, λ all. found.rows.1.1.1 all.0 all.1), tt)))))
    (record { updated = c.in-Ok.updated; is_update = found.ok; local = found.local; rises = found.rises found.rows.0; is = c.in_ok-update_text-in-Ok.ensures })

-- a stage refuses it
pub returns-in-Err-clause-err : goal.returns-in-Err-clause-err
returns-in-Err-clause-err c = stages_refuse c.args.diagram.now c.args.names.now updating update_stages c.refusal.result refl c.refusal.ensures

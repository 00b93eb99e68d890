use Rattle.std.proofs.Common.{refl}
use Rattle.app_forms.specs.Diagrams.{NamedDiagram}
use Rattle.app_forms.specs.Pure.{HasPure, search_stages, searching}
use Rattle.app_forms.proofs.Refusals.{stages_give, stages_refuse}
use Rattle.app_forms.proofs.forms.pure.answer.Goals as goal

-- no stage refuses the diagram, and the text is that of what is found
pub returns-in_ok-pure_text-in-Ok-clause-ok : goal.returns-in_ok-pure_text-in-Ok-clause-ok
returns-in_ok-pure_text-in-Ok-clause-ok c =
    let d = c.args.diagram.now in
    let names = c.args.names.now in
    let x : NamedDiagram = record { d = d; names = names } in
    let found = c.in-Ok.ensures in
    stages_give d names search_stages HasPure c.in_ok-pure_text-in-Ok.field-0.items (λ name bytes is. ((x, is, found.rows.0), ((x, is, found.rows.1.0), ((x, is, found.rows.1.1), tt))))
    (record { found = c.in-Ok.found; is_found = found.ok; stable = found.stable; is = c.in_ok-pure_text-in-Ok.ensures })

-- a stage refuses it
pub returns-in-Err-clause-err : goal.returns-in-Err-clause-err
returns-in-Err-clause-err c = stages_refuse c.args.diagram.now c.args.names.now searching search_stages c.refusal.result refl c.refusal.ensures

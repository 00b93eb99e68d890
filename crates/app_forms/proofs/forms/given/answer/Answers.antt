use Rattle.std.proofs.Common.{rules, refl, ◌++◌, ◌∙◌, ap, subst, sym}
use Rattle.maid_model.specs.Names.{NamesFit}
use Rattle.app_forms.specs.Diagrams.{NamedDiagram}
use Rattle.app_forms.specs.Given.{HasGiven, conditioning, evidence_stages, given_text}
use Rattle.app_forms.specs.Reading.{TellsFor, TellsFound}
use Rattle.app_forms.specs.Stages.{name_stages}
use Rattle.app_forms.proofs.Refusals.{if_err_then, before, behind, stages_give, stages_refuse}
use Rattle.app_forms.proofs.Sights.{fit_seeing}
use Rattle.app_forms.proofs.forms.given.answer.Goals as goal

-- the node or the state is unknown
pub returns-in_err-place-clause-err : goal.returns-in_err-place-clause-err
returns-in_err-place-clause-err c =
    let node = c.args.node.now in
    let state = c.args.state.now in
    let d = c.args.diagram.now in
    let names = c.args.names.now in
    let task = conditioning node state in
    let early = name_stages node state in
    let late = evidence_stages node state in
    if_err_then c.from_residual.result (TellsFound d names early) (TellsFor task d names) (λ refusal h. stages_refuse d names task (early ++ late) refusal refl (before d names early late refusal h)) (search rules)

-- where every decision sees the node, the names fit as before
pub given_text-requires-clause-fit : goal.given_text-requires-clause-fit
given_text-requires-clause-fit c = subst (λ e. NamesFit e c.args.names.now) (sym c.in-Ok.ensures.diagram) (fit_seeing c.args.diagram.now c.args.names.now c.in_ok-place.place.node c.requires)

-- no stage refuses the diagram, and the text is that of its answer
pub returns-in_ok-given_text-in-Ok-clause-ok : goal.returns-in_ok-given_text-in-Ok-clause-ok
returns-in_ok-given_text-in-Ok-clause-ok c =
    let node = c.args.node.now in
    let state = c.args.state.now in
    let d = c.args.diagram.now in
    let names = c.args.names.now in
    let x : NamedDiagram = record { d = d; names = names } in
    let place = c.in_ok-place.place in
    let at = c.in_ok-place.ensures.ok in
    let made = c.in-Ok.conditioned in
    let found = c.in-Ok.ensures in
    let rows = found.rows in
    stages_give d names (name_stages node state ++ evidence_stages node state) (HasGiven node state) c.in_ok-given_text-in-Ok.field-0.items
    (λ name bytes is. (
      (x, is, (place.node, at.node)),
      (
        (x, is, (place, at)),
        (
          (x, is, (place, at, rows.0.0)),
          (
            (x, is, (place, at, rows.0.1)),
            (
              (x, is, (place, at, rows.1.0.0)),
              ((x, is, (place, at, record { scopes = rows.1.0.1.0; further = rows.1.0.1.1.0 })), ((x, is, (place, at, rows.1.0.1.1.1)), ((x, is, (place, at, rows.1.1)), tt))),
            ),
          ),
        ),
      ),
    ))
    (record {
      place = place;
      is_place = at;
      solved = made.solved;
      is_answer = found.ok;
      gains = made.gains.items;
      worth = found.gains;
      subgame_perfect = found.subgame_perfect;
      best = found.best;
      is = c.in_ok-given_text-in-Ok.ensures ∙ ap (λ e. given_text e names place made.solved made.gains.items) found.diagram;
    })

-- a stage refuses it
pub returns-in-Err-clause-err : goal.returns-in-Err-clause-err
returns-in-Err-clause-err c =
    let node = c.args.node.now in
    let state = c.args.state.now in
    let d = c.args.diagram.now in
    let names = c.args.names.now in
    let x : NamedDiagram = record { d = d; names = names } in
    let place = c.in_ok-place.place in
    let at = c.in_ok-place.ensures.ok in
    let early = name_stages node state in
    let late = evidence_stages node state in
    stages_refuse d names (conditioning node state) (early ++ late) c.refusal.result refl
    (behind d names early late c.refusal.result (λ name bytes is. ((x, is, (place.node, at.node)), ((x, is, (place, at)), tt))) c.refusal.ensures)

use Rattle.app_forms.proofs.Moving.{moved_given, moved_refuses, names_refuse, row_refuses, solver_refuses}
use Rattle.app_forms.proofs.Places.{state_within}
use Rattle.app_forms.proofs.Refusals.{err_handed}
use Rattle.app_forms.proofs.forms.moved.answer.Goals as goal

-- no node or no state has the name
pub returns-in_err-place-clause-err : goal.returns-in_err-place-clause-err
returns-in_err-place-clause-err c =
    let refusal = c.in_err-place.field-0.0 in
    err_handed c.from_residual.result refusal _ c.from_residual.ensures (names_refuse c.args.diagram.now c.args.names.now c.args.node.now c.args.row c.args.state.now refusal c.in_err-place.ensures.err)

-- the row is unknown, or has no other state with weight
pub returns-in_err-keep_row-clause-err : goal.returns-in_err-keep_row-clause-err
returns-in_err-keep_row-clause-err c =
    let refusal = c.in_err-keep_row.field-0.0 in
    err_handed c.from_residual-in_err-keep_row.result refusal _ c.from_residual-in_err-keep_row.ensures
    (row_refuses c.args.diagram.now c.args.names.now c.args.node.now c.args.row c.args.state.now c.in_ok-place.place c.in_ok-place.ensures.ok refusal c.in_err-keep_row.ensures.err)

-- the solver refuses the diagram
pub returns-in_err-solved-clause-err : goal.returns-in_err-solved-clause-err
returns-in_err-solved-clause-err c =
    let refusal = c.in_err-solved.field-0.0 in
    err_handed c.from_residual-in_err-solved.result refusal _ c.from_residual-in_err-solved.ensures
    (solver_refuses c.args.diagram.now c.args.names.now c.args.node.now c.args.row c.args.state.now c.in_ok-place.place c.in_ok-place.ensures.ok refusal c.in_ok-keep_row.ensures.ok c.in_err-solved.ensures.err)

-- the changed diagrams pass the weight bound
pub returns-in_err-interval-clause-err : goal.returns-in_err-interval-clause-err
returns-in_err-interval-clause-err c =
    let refusal = c.in_err-interval.field-0.0 in
    err_handed c.from_residual-in_err-interval.result refusal _ c.from_residual-in_err-interval.ensures
    (moved_refuses c.args.diagram.now c.args.names.now c.args.node.now c.args.row c.args.state.now c.in_ok-place.place c.in_ok-place.ensures.ok refusal c.in_ok-keep_row.ensures.ok c.in_ok-solved.ensures.solvable c.in_err-interval.ensures.err)

-- or nothing does, and the text tells the interval
pub returns-clause-ok : goal.returns-clause-ok
returns-clause-ok c =
    let found = c.in_ok-interval.ensures in
    moved_given c.args.diagram.now c.args.names.now c.args.node.now c.args.row c.args.state.now c.in_ok-place.place c.in_ok-place.ensures.ok c.in_ok-threshold_text.field-0.items
    c.in_ok-keep_row.ensures.ok c.in_ok-solved.ensures.solvable found.bound
    (record {
      place = c.in_ok-place.place;
      is_place = c.in_ok-place.ensures.ok;
      solved = c.in_ok-solved.solved;
      solution = c.in_ok-solved.ensures.ok;
      interval = c.in_ok-interval.interval;
      now = found.now;
      span = found.span;
      only = found.only;
      subgame_perfect = found.perfect;
      is = c.in_ok-threshold_text.ensures;
    })

pub find_interval-requires-clause-fit : goal.find_interval-requires-clause-fit
find_interval-requires-clause-fit c = c.requires

pub find_interval-requires-clause-solvable : goal.find_interval-requires-clause-solvable
find_interval-requires-clause-solvable c = c.in_ok-solved.ensures.solvable

pub find_interval-requires-clause-answer : goal.find_interval-requires-clause-answer
find_interval-requires-clause-answer c = c.in_ok-solved.ensures.ok.is_answer

pub find_interval-requires-clause-place : goal.find_interval-requires-clause-place
find_interval-requires-clause-place c =
    let at = c.in_ok-place.ensures.ok in
    let row = c.in_ok-keep_row.ensures.ok in
    record { kind = at.node.kind; state = state_within c.args.diagram.now c.args.names.now c.args.node.now c.args.state.now c.in_ok-place.place c.requires at; has_row = row.0; others = row.1 }

use Rattle.std.proofs.lemmas.Result.{err_from_is_err_and, IfOk-from_err}
use Rattle.threshold.proofs.SameTotals.{refused_there, passed_there, ends_there}
use Rattle.threshold.specs.Ends.{place_pass}
use Rattle.first_fault.proofs.HandedOn.{hands_on}
use Rattle.threshold.specs.Faults.{span_fault}
use Rattle.threshold.specs.declared.faults.SpanFault.TheVariants.{NoMemory}
use Rattle.threshold.proofs.ends.find_ends.Goals as goal

pub returns-in_err-keep_bound-clause-rows : goal.returns-in_err-keep_bound-clause-rows
returns-in_err-keep_bound-clause-rows c =
    let p = err_from_is_err_and c.from_residual-in_err-keep_bound.result c.from_residual-in_err-keep_bound.ensures.1 in
    rw (p.1, p.2) (refused_there c.args.diagram.now c.args.place c.count-count.ensures.diagram c.requires c.in_ok-totals.totals c.in_ok-totals.ensures.totals c.in_ok-nought.nought c.in_ok-nought.ensures _ c.in_err-keep_bound.ensures.rows)

pub returns-clause-rows : goal.returns-clause-rows
returns-clause-rows c = passed_there c.args.diagram.now c.args.place c.count-count.ensures.diagram c.requires c.in_ok-totals.totals c.in_ok-totals.ensures.totals c.in_ok-nought.nought c.in_ok-nought.ensures c.in_ok-keep_bound.ensures.rows

pub returns-clause-ends : goal.returns-clause-ends
returns-clause-ends c = ends_there c.args.diagram.now c.args.place c.count-count.ensures.diagram c.requires c.in_ok-totals.totals c.in_ok-totals.ensures.totals c.in_ok-nought.nought c.in_ok-nought.ensures c.in_ok-one.one c.in_ok-one.ensures c.in_ok-keep_bound.ensures.rows

pub find_totals-requires : goal.find_totals-requires
find_totals-requires c = c.requires

pub at_nought-requires-clause-cell : goal.at_nought-requires-clause-cell
at_nought-requires-clause-cell c = c.requires

pub at_nought-requires-clause-totals : goal.at_nought-requires-clause-totals
at_nought-requires-clause-totals c = c.in_ok-totals.ensures.totals

pub at_one-requires-clause-cell : goal.at_one-requires-clause-cell
at_one-requires-clause-cell c = c.requires

pub at_one-requires-clause-totals : goal.at_one-requires-clause-totals
at_one-requires-clause-totals c = c.in_ok-totals.ensures.totals

pub returns-in_err-totals-clause-rows : goal.returns-in_err-totals-clause-rows
returns-in_err-totals-clause-rows c = hands_on span_fault (place_pass c.args.diagram.now c.args.place) _ c.in_err-totals.field-0.0 c.from_residual.ensures c.in_err-totals.ensures.refused

pub returns-in_err-nought-clause-rows : goal.returns-in_err-nought-clause-rows
returns-in_err-nought-clause-rows c = hands_on span_fault (place_pass c.args.diagram.now c.args.place) _ NoMemory c.from_residual-in_err-nought.ensures tt

pub returns-in_err-one-clause-rows : goal.returns-in_err-one-clause-rows
returns-in_err-one-clause-rows c = hands_on span_fault (place_pass c.args.diagram.now c.args.place) _ NoMemory c.from_residual-in_err-one.ensures tt

pub returns-in_err-totals-clause-ends : goal.returns-in_err-totals-clause-ends
returns-in_err-totals-clause-ends c = IfOk-from_err _ _ c.from_residual.ensures.0

pub returns-in_err-totals-clause-diagram : goal.returns-in_err-totals-clause-diagram
returns-in_err-totals-clause-diagram c = IfOk-from_err _ _ c.from_residual.ensures.0

pub returns-in_err-nought-clause-ends : goal.returns-in_err-nought-clause-ends
returns-in_err-nought-clause-ends c = IfOk-from_err _ _ c.from_residual-in_err-nought.ensures.0

pub returns-in_err-nought-clause-diagram : goal.returns-in_err-nought-clause-diagram
returns-in_err-nought-clause-diagram c = IfOk-from_err _ _ c.from_residual-in_err-nought.ensures.0

pub returns-in_err-keep_bound-clause-ends : goal.returns-in_err-keep_bound-clause-ends
returns-in_err-keep_bound-clause-ends c = IfOk-from_err _ _ c.from_residual-in_err-keep_bound.ensures.0

pub returns-in_err-keep_bound-clause-diagram : goal.returns-in_err-keep_bound-clause-diagram
returns-in_err-keep_bound-clause-diagram c = IfOk-from_err _ _ c.from_residual-in_err-keep_bound.ensures.0

pub returns-in_err-one-clause-ends : goal.returns-in_err-one-clause-ends
returns-in_err-one-clause-ends c = IfOk-from_err _ _ c.from_residual-in_err-one.ensures.0

pub returns-in_err-one-clause-diagram : goal.returns-in_err-one-clause-diagram
returns-in_err-one-clause-diagram c = IfOk-from_err _ _ c.from_residual-in_err-one.ensures.0

pub returns-clause-diagram : goal.returns-clause-diagram
returns-clause-diagram c = c.count-count.ensures.diagram

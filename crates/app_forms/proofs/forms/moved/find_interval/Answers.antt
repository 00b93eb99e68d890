use Rattle.std.proofs.Common.{◌-◌, subst}
use Rattle.first_fault.specs.Answers.{IsFaultOrNoMemory}
use Rattle.maid_model.proofs.Cells.{is_node}
use Rattle.threshold.specs.Faults.{span_fault, span_pass}
use Rattle.app_forms.specs.Lines.{bound_line}
use Rattle.app_forms.specs.Threshold.{moved_pass}
use Rattle.app_forms.specs.declared.status.Status.TheVariants.{WeightBound}
use Rattle.app_forms.proofs.Moving.{bound_named, bound_told}
use Rattle.app_forms.proofs.Refusals.{told_gives}
use Rattle.app_forms.proofs.forms.moved.find_interval.Goals as goal

-- the place at which the weight bound is passed is a node, which has a name
pub weight_bound-requires : goal.weight_bound-requires
weight_bound-requires c =
    let d = c.args.diagram.now in
    let place = c.args.place in
    let found = subst (IsFaultOrNoMemory span_fault (span_pass d place.node place.state (c.args.row - 1))) c.in-Err-WeightBound.field-0-is c.in-Err-WeightBound.ensures.rows in
    bound_named d c.args.names.now place.node place.state (c.args.row - 1) c.in-Err-WeightBound.node c.requires.fit (is_node d.nodes place.node c.requires.place.kind) found

-- the line tells it
pub returns-in-Err-WeightBound-clause-err : goal.returns-in-Err-WeightBound-clause-err
returns-in-Err-WeightBound-clause-err c =
    let d = c.args.diagram.now in
    let names = c.args.names.now in
    let place = c.args.place in
    let found = subst (IsFaultOrNoMemory span_fault (span_pass d place.node place.state (c.args.row - 1))) c.in-Err-WeightBound.field-0-is c.in-Err-WeightBound.ensures.rows in
    told_gives (moved_pass d names place c.args.row) WeightBound (bound_line names c.in-Err-WeightBound.node) c.weight_bound.result c.told.result
    (λ told e. bound_told d names place c.args.row c.in-Err-WeightBound.node told found e)
    c.weight_bound.ensures
    c.told.ensures

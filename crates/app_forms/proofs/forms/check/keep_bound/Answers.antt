use Rattle.std.proofs.Common.{◌<◌, ℕ, None, Some, subst, sym}
use Rattle.first_fault.specs.Outcomes.{refusals as refusals_of}
use Rattle.app_forms.specs.Check.{examining}
use Rattle.app_forms.specs.Lines.{bound_line}
use Rattle.app_forms.specs.Reading.{comes_for}
use Rattle.app_forms.specs.Stages.{AtNode, AtUtilities}
use Rattle.app_forms.specs.declared.status.Status.TheVariants.{WeightBound}
use Rattle.app_forms.proofs.Checks.{bound_examined}
use Rattle.app_forms.proofs.Refusals.{told_gives}
use Rattle.app_forms.proofs.SolveRefusals.{place_within}
use Rattle.app_forms.proofs.forms.check.keep_bound.Goals as goal

-- the place at which the weight bound is passed is a node, which has a name
pub weight_bound-requires : goal.weight_bound-requires
weight_bound-requires c = subst (λ (n : ℕ). c.in-Node.v < n) (sym c.requires.nodes) (place_within c.args.diagram.now c.in-Node.v c.in-Node.ensures.place)

-- the line tells it
pub returns-in-Node-clause-err : goal.returns-in-Node-clause-err
returns-in-Node-clause-err c =
    let d = c.args.diagram.now in
    let names = c.args.names.now in
    told_gives (refusals_of (comes_for examining d names)) WeightBound (bound_line names (Some c.in-Node.v)) c.weight_bound.result c.told.result
    (λ told e. bound_examined d names told (AtNode c.in-Node.v c.in-Node.ensures.place e))
    c.weight_bound.ensures
    c.told.ensures

-- or that the utilities pass it
pub returns-in-Utilities-clause-err : goal.returns-in-Utilities-clause-err
returns-in-Utilities-clause-err c =
    let d = c.args.diagram.now in
    let names = c.args.names.now in
    told_gives (refusals_of (comes_for examining d names)) WeightBound (bound_line names None) c.weight_bound-in-Utilities.result c.told-in-Utilities.result
    (λ told e. bound_examined d names told (AtUtilities c.in-Utilities.ensures.place e))
    c.weight_bound-in-Utilities.ensures
    c.told-in-Utilities.ensures

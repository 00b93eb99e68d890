use Rattle.std.proofs.Common.{◌∙◌, sym}
use Rattle.size_precheck.specs.Sizes.{IsPlanned}
use Rattle.size_precheck.proofs.Near.{kept_beside, ok_alike}
use Rattle.size_precheck.proofs.keeping.worth_beside.Goals as goal

pub returns-else-holds : goal.returns-else-holds
returns-else-holds c =
    ok_alike c.copy.result (IsPlanned c.args.diagram.now.nodes c.args.before.now.plan) c.args.before.now
    (kept_beside c.args.diagram.now.nodes c.args.planner.now c.args.changed c.args.before.now c.index.result.now c.in-Some.utility c.descent_is_tested.ensures c.requires.planner c.requires.before (sym c.utility.ensures ∙ c.in-Some.is) c.index.ensures c.if-holds.ensures)
    c.copy.ensures

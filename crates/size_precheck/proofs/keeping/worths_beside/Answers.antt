use Rattle.std.proofs.Common.{◌+◌, List, map, sym, subst, take}
use Rattle.std.specs.List.{AllZip}
use Rattle.size_precheck.specs.Sizes.{SizedPlan, IsPlanned}
use Rattle.size_precheck.proofs.Kept.{take_whole, zip_next}
use Rattle.size_precheck.proofs.Near.{worth_at, worths_beside}
use Rattle.size_precheck.proofs.keeping.worths_beside.Goals as goal

pub worth_beside-requires-clause-before : goal.worth_beside-requires-clause-before
worth_beside-requires-clause-before c = worth_at c.args.diagram.now.nodes c.args.changed c.args.before.now c.loop-plan.plan-index c.plan-item.result c.requires.before c.loop-plan-test.true c.plan-item.is

pub loop-plan-preserved : goal.loop-plan-preserved
loop-plan-preserved c =
    let nodes = c.args.diagram.now.nodes in
    let k = c.loop-plan.plan-index in
    subst (AllZip (IsPlanned nodes) (map (λ (p : SizedPlan). p.plan) (take (k + 1) c.args.before.now))) (sym c.in_ok-push.ensures.items)
    (zip_next (IsPlanned nodes) (λ (p : SizedPlan). p.plan) c.args.before.now c.loop-plan.plans.items k c.plan-item.result c.in_ok-worth.worth c.loop-plan-test.true c.loop-plan.invariant
    (subst (λ (p : SizedPlan). IsPlanned nodes p.plan c.in_ok-worth.worth) c.plan-item.is c.in_ok-worth.ensures))

pub returns : goal.returns
returns c =
    let nodes = c.args.diagram.now.nodes in
    worths_beside nodes c.args.changed c.args.before.now c.loop-plan.plans.items c.requires.before
    (subst (λ (l : List SizedPlan). AllZip (IsPlanned nodes) (map (λ (p : SizedPlan). p.plan) l) c.loop-plan.plans.items) (take_whole c.args.before.now c.loop-plan.plan-index c.loop-plan-test.false) c.loop-plan.invariant)

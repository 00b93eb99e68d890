use Rattle.std.proofs.Common.{◌≤◌, ◌^◌, ap, arith, subst, sym}
use Rattle.size_precheck.specs.declared.sizes.Size.{Size}
use Rattle.size_precheck.specs.Runs.{Includes}
use Rattle.size_precheck.specs.Sizes.{IsPlanned}
use Rattle.size_precheck.proofs.Counting.{stopped_few}
use Rattle.size_precheck.proofs.Kept.{include_plan, take_whole, zip_long}
use Rattle.size_precheck.proofs.runs.include_plans.Goals as goal

pub loop-plan-preserved : goal.loop-plan-preserved
loop-plan-preserved c = (
  subst (λ n. n ≤ 10 ^ 18) (sym (ap (λ (size : Size). size.work) c.join_sizes-sum.ensures)) (stopped_few _),
  λ nodes asked z. include_plan nodes asked c.args.plans.now c.loop-plan.plan-index c.plan-item.result c.args.size c.loop-plan.sum c.size.result c.join_sizes-sum.result z c.loop-plan-test.true c.plan-item.is c.size.ensures c.join_sizes-sum.ensures
      (c.loop-plan.invariant.1 nodes asked z),
)

pub returns-clause-counted : goal.returns-clause-counted
returns-clause-counted c nodes asked z =
    let out = c.loop-plan-test.false in
    let long = zip_long (IsPlanned nodes) asked c.args.plans.now z in
    subst (λ l. Includes nodes l c.args.size c.loop-plan.sum) (take_whole asked c.loop-plan.plan-index (omega (arith, out, long))) (c.loop-plan.invariant.1 nodes asked z)

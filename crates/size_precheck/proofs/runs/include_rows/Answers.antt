use Rattle.std.proofs.Common.{◌≤◌, ◌^◌, ap, arith, map, subst, sym}
use Rattle.plan_sums.specs.Plans.{row_plan}
use Rattle.size_precheck.specs.declared.sizes.Size.{Size}
use Rattle.size_precheck.specs.Decisions.{AreDecisionPlans}
use Rattle.size_precheck.specs.Runs.{Includes}
use Rattle.size_precheck.proofs.Counting.{stopped_few}
use Rattle.size_precheck.proofs.Kept.{include_rows_of, take_whole, zip_long}
use Rattle.size_precheck.proofs.runs.include_rows.Goals as goal

pub loop-decision-preserved : goal.loop-decision-preserved
loop-decision-preserved c = (
  subst (λ n. n ≤ 10 ^ 18) (sym (ap (λ (size : Size). size.work) c.join_sizes-sum.ensures)) (stopped_few _),
  λ nodes order z. include_rows_of nodes order c.args.plans.now c.loop-decision.decision-index c.decision-item.result c.args.size c.loop-decision.sum c.size.result c.join_sizes-sum.result z c.loop-decision-test.true c.decision-item.is c.size.ensures c.join_sizes-sum.ensures
      (c.loop-decision.invariant.1 nodes order z),
)

pub returns-clause-counted : goal.returns-clause-counted
returns-clause-counted c nodes order z =
    let out = c.loop-decision-test.false in
    let long = zip_long (AreDecisionPlans nodes) order c.args.plans.now z in
    subst (λ l. Includes nodes (map (λ d. row_plan nodes d) l) c.args.size c.loop-decision.sum) (take_whole order c.loop-decision.decision-index (omega (arith, out, long))) (c.loop-decision.invariant.1 nodes order z)

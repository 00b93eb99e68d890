use Rattle.std.proofs.Common.{arith, map, subst, sym}
use Rattle.std.specs.List.{AllZip}
use Rattle.std.specs.Prelude.{flat_map}
use Rattle.plan_sums.specs.Plans.{gain_plan}
use Rattle.size_precheck.specs.Decisions.{AreDecisionPlans}
use Rattle.size_precheck.specs.Runs.{Includes}
use Rattle.size_precheck.specs.Sizes.{IsPlanned, goal_list}
use Rattle.size_precheck.proofs.Kept.{include_goals_of, take_whole, zip_long}
use Rattle.size_precheck.proofs.runs.include_all_goals.Goals as goal

pub loop-decision-preserved : goal.loop-decision-preserved
loop-decision-preserved c = (
  c.include_plans-sum.ensures.few,
  λ nodes order z. include_goals_of nodes order c.args.plans.now c.loop-decision.decision-index c.decision-item.result c.args.size c.loop-decision.sum c.include_plans-sum.result z c.loop-decision-test.true c.decision-item.is
      (λ asked kept. c.include_plans-sum.ensures.counted nodes asked (subst (λ l. AllZip (IsPlanned nodes) asked l) (sym c.deref.ensures.value) kept)) (c.loop-decision.invariant.1 nodes order z),
)

pub returns-clause-counted : goal.returns-clause-counted
returns-clause-counted c nodes order z =
    let out = c.loop-decision-test.false in
    let long = zip_long (AreDecisionPlans nodes) order c.args.plans.now z in
    subst (λ l. Includes nodes (flat_map (λ d. map (λ u. gain_plan nodes d u) (goal_list nodes d)) l) c.args.size c.loop-decision.sum) (take_whole order c.loop-decision.decision-index (omega (arith, out, long))) (c.loop-decision.invariant.1 nodes order z)

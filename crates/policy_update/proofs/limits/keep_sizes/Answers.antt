use Rattle.std.proofs.Common.{sym, subst}
use Rattle.rule_solver.specs.Faults.{KeepsPlanLimits}
use Rattle.size_precheck.specs.Decisions.{ArePlans}
use Rattle.size_precheck.specs.Sizes.{IsSizeOfRun, ListsDecisions}
use Rattle.policy_update.proofs.TextOrder.{lists_decisions, small_enough}
use Rattle.policy_update.proofs.limits.keep_sizes.Goals as goal

pub plan_run-requires : goal.plan_run-requires
plan_run-requires c = subst (ListsDecisions c.args.diagram.now.nodes) (sym c.requires) (lists_decisions c.args.diagram.now.nodes)

pub returns-clause-rows : goal.returns-clause-rows
returns-clause-rows c = small_enough c.args.diagram.now c.in_ok-plans.plans.size c.sizes_of_plans.ensures.one (subst (λ order. IsSizeOfRun c.args.diagram.now.nodes order c.in_ok-plans.plans.size) c.requires c.in_ok-plans.ensures.size) (c.keeps_plan_limits.ensures.0 c.if-not-keeps_plan_limits.false)

pub returns-clause-run : goal.returns-clause-run
returns-clause-run c =
    let nodes = c.args.diagram.now.nodes in
    let small : KeepsPlanLimits c.in_ok-plans.plans.size = c.keeps_plan_limits.ensures.0 c.if-not-keeps_plan_limits.false in
    record {
      plans = subst (λ order. ArePlans nodes order c.in_ok-plans.plans.decisions.items) c.requires c.in_ok-plans.ensures.plans;
      worths = c.in_ok-plans.ensures.worths;
      room = c.counted_plans_have_room.ensures.run nodes c.args.decisions.now c.in_ok-plans.plans.size (subst (ListsDecisions nodes) (sym c.requires) (lists_decisions nodes)) c.in_ok-plans.ensures.size;
      limit = small.cells;
    }

use Rattle.std.proofs.Common.{Vec, Global, subst, sym}
use Rattle.size_precheck.specs.declared.decisions.DecisionPlans.{DecisionPlans}
use Rattle.size_precheck.specs.declared.plans.Plan.{Plan}
use Rattle.size_precheck.specs.Decisions.{ArePlans}
use Rattle.size_precheck.specs.Sizes.{ArePlansOfWorths}
use Rattle.size_precheck.proofs.runs.plan_run_by.Goals as goal

pub plan_decisions-requires-clause-order : goal.plan_decisions-requires-clause-order
plan_decisions-requires-clause-order c = c.requires.order

pub plan_decisions-requires-clause-planner : goal.plan_decisions-requires-clause-planner
plan_decisions-requires-clause-planner c = c.requires.planner

pub returns-clause-plans : goal.returns-clause-plans
returns-clause-plans c = subst (λ (plans : Vec DecisionPlans Global). ArePlans c.args.diagram.now.nodes c.args.order.now plans.items) (sym c.with_size.ensures.decisions) c.in_ok-decisions.ensures

pub returns-clause-worths : goal.returns-clause-worths
returns-clause-worths c = subst (λ (plans : Vec Plan Global). ArePlansOfWorths c.args.diagram.now.nodes plans.items) (sym c.with_size.ensures.worths) c.in_ok-worths.ensures

pub returns-clause-size : goal.returns-clause-size
returns-clause-size c = c.with_size.ensures.size c.args.diagram.now.nodes c.args.order.now c.in_ok-decisions.ensures c.in_ok-worths.ensures

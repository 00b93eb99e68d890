use Rattle.evidence.specs.Faults.{given_size_pass}
use Rattle.rule_solver.specs.Faults.{KeepsPlanLimits}
use Rattle.evidence.proofs.HandedOn.{solver_out_of_memory}
use Rattle.std.proofs.lemmas.Result.{IfOk-from_err}
use Rattle.evidence.specs.Sizes.{further_plans}
use Rattle.evidence.proofs.Measured.{room_given, small_given}
use Rattle.evidence.proofs.limits.keep_sizes.Goals as goal

pub returns-clause-rows : goal.returns-clause-rows
returns-clause-rows c = small_given c.args.diagram.now c.args.order.now c.args.node c.in_ok-plans.plans.size c.sizes_of_plans.ensures.one c.requires.order c.in_ok-plans.ensures.size (c.keeps_plan_limits.ensures.0 c.if-not-keeps_plan_limits.false)

pub returns-clause-plans : goal.returns-clause-plans
returns-clause-plans c =
    let nodes = c.args.diagram.now.nodes in
    let order = c.args.order.now in
    let size = c.in_ok-plans.plans.size in
    let small : KeepsPlanLimits size = c.keeps_plan_limits.ensures.0 c.if-not-keeps_plan_limits.false in
    let room = c.counted_plans_have_room.ensures.further nodes order (further_plans nodes c.args.node) size (c.orders_list_decisions.ensures nodes order c.requires.order) c.in_ok-plans.ensures.size in
    record {
      run = c.in_ok-plans.ensures.plans;
      further = c.in_ok-plans.ensures.further;
      room = record { run = room.0; given = room_given nodes c.args.node size.cells room.1 };
      limit = small.cells;
    }

pub plan_all-requires-clause-order : goal.plan_all-requires-clause-order
plan_all-requires-clause-order c = c.requires.order

pub plan_all-requires-clause-within : goal.plan_all-requires-clause-within
plan_all-requires-clause-within c = c.requires.within

pub plan_all-requires-clause-kind : goal.plan_all-requires-clause-kind
plan_all-requires-clause-kind c = c.requires.kind

pub returns-in_err-plans-clause-rows : goal.returns-in_err-plans-clause-rows
returns-in_err-plans-clause-rows c = solver_out_of_memory (given_size_pass c.args.diagram.now c.args.node) _ c.from_residual.ensures

pub returns-in_err-plans-clause-plans : goal.returns-in_err-plans-clause-plans
returns-in_err-plans-clause-plans c = IfOk-from_err _ _ c.from_residual.ensures.0

pub returns-then-not-keeps_plan_limits-clause-rows : goal.returns-then-not-keeps_plan_limits-clause-rows
returns-then-not-keeps_plan_limits-clause-rows c = (
  record { order = c.args.order.now; is_order = c.requires.order; is_size = c.in_ok-plans.ensures.size },
  λ keeps. let small = c.keeps_plan_limits.ensures.1 keeps in cc,
)

pub returns-then-not-keeps_plan_limits-clause-plans : goal.returns-then-not-keeps_plan_limits-clause-plans
returns-then-not-keeps_plan_limits-clause-plans c = tt

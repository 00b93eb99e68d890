use Rattle.rule_solver.specs.Faults.{KeepsPlanLimits}
use Rattle.rule_solver.proofs.Rooms.{lists_decisions, small_enough}
use Rattle.rule_solver.proofs.limits.keep_sizes.Goals as goal

pub plan_by-requires-clause-order : goal.plan_by-requires-clause-order
plan_by-requires-clause-order c = lists_decisions c.args.diagram.now.nodes c.args.order.now c.requires.order

pub returns-then-not-keeps_plan_limits-clause-rows : goal.returns-then-not-keeps_plan_limits-clause-rows
returns-then-not-keeps_plan_limits-clause-rows c = (
  record { order = c.args.order.now; is_order = c.requires.order; is_size = c.in_ok-plans.ensures.size },
  λ keeps. let small = c.keeps_plan_limits.ensures.1 keeps in cc,
)

pub returns-clause-rows : goal.returns-clause-rows
returns-clause-rows c = small_enough c.args.diagram.now c.args.order.now c.in_ok-plans.plans.size c.sizes_of_plans.ensures.one c.requires.order c.in_ok-plans.ensures.size (c.keeps_plan_limits.ensures.0 c.if-not-keeps_plan_limits.false)

pub returns-clause-room : goal.returns-clause-room
returns-clause-room c =
    let nodes = c.args.diagram.now.nodes in
    c.counted_plans_have_room.ensures.run nodes c.args.order.now c.in_ok-plans.plans.size (lists_decisions nodes c.args.order.now c.requires.order) c.in_ok-plans.ensures.size

pub returns-clause-limit : goal.returns-clause-limit
returns-clause-limit c = let small : KeepsPlanLimits c.in_ok-plans.plans.size = c.keeps_plan_limits.ensures.0 c.if-not-keeps_plan_limits.false in small.cells

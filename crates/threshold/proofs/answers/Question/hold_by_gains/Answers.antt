use Rattle.threshold.proofs.PlanCells.{small_has_room}
use Rattle.threshold.proofs.answers.Question.hold_by_gains.Goals as goal

-- the order of solving is the answer's
pub narrow_all-requires-clause-room : goal.narrow_all-requires-clause-room
narrow_all-requires-clause-room c =
    let q = c.args.self.now in
    (small_has_room q.diagram.now q.solved.now.order c.greedy_orders.ensures.some c.greedy_orders.ensures.orders c.measured_plans_have_room.ensures c.requires.setting.answer.order c.requires.setting.small).decisions

pub narrow_all-requires-clause-setting : goal.narrow_all-requires-clause-setting
narrow_all-requires-clause-setting c = c.requires

pub narrow_all-requires-clause-planner : goal.narrow_all-requires-clause-planner
narrow_all-requires-clause-planner c = c.in_ok-planner.ensures.planner

pub returns-clause-range : goal.returns-clause-range
returns-clause-range c = c.narrow_all.ensures.range

pub returns-clause-held : goal.returns-clause-held
returns-clause-held c = c.narrow_all.ensures.held

use Rattle.maid_model.specs.declared.limits.TheConstants.{MOST_PLAN_CELLS}
use Rattle.rule_solver.proofs.MadeRooms.{more_rooms}
use Rattle.rule_solver.proofs.laws.measured_plans_have_room.Goals as goal

pub returns : goal.returns
returns c nodes order size is sized small =
    more_rooms nodes size.cells MOST_PLAN_CELLS small (c.counted_plans_have_room.ensures.run nodes order size (c.orders_list_decisions.ensures nodes order is) sized)

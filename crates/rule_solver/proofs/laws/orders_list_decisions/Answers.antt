use Rattle.rule_solver.proofs.Rooms.{lists_decisions}
use Rattle.rule_solver.proofs.laws.orders_list_decisions.Goals as goal

pub returns : goal.returns
returns c = lists_decisions

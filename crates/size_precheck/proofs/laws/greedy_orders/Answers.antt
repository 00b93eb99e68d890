use Rattle.plan_sums.specs.Plans.{eliminated_nodes}
use Rattle.std.specs.Prelude.{Contains}
use Rattle.size_precheck.specs.Greedy.{first_scopes}
use Rattle.size_precheck.proofs.Orders.{greedy_order, one_order, order_of_greedy}
use Rattle.size_precheck.proofs.laws.greedy_orders.Goals as goal

pub returns-clause-some : goal.returns-clause-some
returns-clause-some c nodes plan = greedy_order nodes (eliminated_nodes nodes plan) (first_scopes nodes plan)

pub returns-clause-one : goal.returns-clause-one
returns-clause-one c nodes plan a b h k = one_order nodes (Contains (eliminated_nodes nodes plan)) (first_scopes nodes plan) a b h k

pub returns-clause-orders : goal.returns-clause-orders
returns-clause-orders c nodes plan steps h = order_of_greedy nodes plan steps h

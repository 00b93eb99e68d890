use Rattle.std.proofs.Common.{length}
use Rattle.report_text.proofs.InOrder.{OrderSoFar}
use Rattle.report_text.proofs.orders.read_order.Given as goal

-- the words so far name the front of each order that the line may show
abbrev pub invariant-words : goal.invariant-words
invariant-words l = OrderSoFar l.diagram.nodes l.names l.line l.order.items l.rest

abbrev pub decreases-words : goal.decreases-words
decreases-words l = length l.rest

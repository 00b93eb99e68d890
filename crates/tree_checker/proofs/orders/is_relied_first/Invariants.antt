use Rattle.tree_checker.proofs.OrderSteps.{PlacedSoFar}
use Rattle.tree_checker.proofs.orders.is_relied_first.Given as goal

abbrev pub invariant-loop-v : goal.invariant-loop-v
invariant-loop-v l = PlacedSoFar l.diagram.nodes l.order l.v-index l.placed

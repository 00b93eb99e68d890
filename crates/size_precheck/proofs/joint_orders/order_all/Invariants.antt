use Rattle.node_sets.specs.Sets.{IsIn}
use Rattle.size_precheck.specs.Joints.{HasPlaces}
use Rattle.size_precheck.proofs.Ordering.{IsOrderTo}
use Rattle.size_precheck.proofs.joint_orders.order_all.Given as goal

-- what waits has places, and what does not wait any more is in the order
abbrev pub invariant-loop : goal.invariant-loop
invariant-loop l = record {
  places : HasPlaces (IsIn l.rest) l.known;
  ordered : IsOrderTo l.fn.waiting l.rest l.order.items;
}

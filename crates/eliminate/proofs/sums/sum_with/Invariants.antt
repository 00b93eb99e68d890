use Rattle.std.proofs.Common.{◌≡◌, ◌≤◌, drop, length}
use Rattle.factor_core.specs.Operations.{cells_by}
use Rattle.eliminate.specs.Places.{live_slots, IsBoard}
use Rattle.eliminate.proofs.Filing.{AllLater}
use Rattle.eliminate.proofs.Within.{Underway}
use Rattle.eliminate.proofs.sums.sum_with.Given as goal

-- the sum is under way, the slots made are filed, no live one holds a node of a step that is over,
-- and no list has changed its length
abbrev pub invariant-loop-node : goal.invariant-loop-node
invariant-loop-node g l = record {
  sum : Underway (cells_by g.C.Cell.ring g.C.Cell.of_weight g.C.Cell.of_value) l.diagram.nodes l.profile l.nodes l.steps l.fn.limits
      l.fn.work l.work (live_slots l.places.live l.places.made l.slots) (drop l.node-index l.steps) l.left;
  board : IsBoard l.order l.at l.slots l.places;
  later : AllLater l.order.ranks.now l.order.count l.node-index (live_slots l.places.live l.places.made l.slots);
  made : l.places.made ≤ length l.slots;
  slots : length l.slots ≡ length l.fn.slots;
  at : length l.at ≡ length l.fn.at;
  joined : length l.joined ≡ length l.fn.joined;
}

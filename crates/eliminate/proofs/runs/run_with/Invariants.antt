use Rattle.std.proofs.Common.{◌≡◌, ◌≤◌, drop, length}
use Rattle.factor_core.specs.Operations.{cells_by}
use Rattle.plan_sums.specs.Plans.{first_tables}
use Rattle.eliminate.specs.Places.{live_slots, IsBoard}
use Rattle.eliminate.specs.Steps.{Between}
use Rattle.eliminate.proofs.Filing.{AllLater}
use Rattle.eliminate.proofs.Whole.{so_many, CanRun}
use Rattle.eliminate.proofs.runs.run_with.Given as goal

-- the plan can be run, the steps to come lead on, the slots made are filed, no live one holds a
-- node of a step that is over, and no list has changed its length
abbrev pub invariant-loop-node : goal.invariant-loop-node
invariant-loop-node g l = record {
  run : CanRun (cells_by g.C.Cell.ring g.C.Cell.of_weight g.C.Cell.of_value) l.diagram.nodes l.profile l.plan;
  between : Between g.C.Cell.ring l.diagram.nodes l.fn.work l.work (live_slots l.places.live l.places.made l.slots) (drop l.node-index l.plan.steps) l.plan.steps
      (first_tables (cells_by g.C.Cell.ring g.C.Cell.of_weight g.C.Cell.of_value) l.diagram.nodes l.profile l.plan.plan) (so_many l.diagram.nodes l.plan);
  board : IsBoard l.order l.at l.slots l.places;
  later : AllLater l.order.ranks.now l.order.count l.node-index (live_slots l.places.live l.places.made l.slots);
  made : l.places.made ≤ length l.slots;
  slots : length l.slots ≡ length l.fn.slots;
  at : length l.at ≡ length l.fn.at;
  joined : length l.joined ≡ length l.fn.joined;
}

use Rattle.std.proofs.Common.{◌≡◌, drop, take, length}
use Rattle.factor_core.specs.Operations.{cells_by}
use Rattle.eliminate.specs.Limits.{ListsWithin}
use Rattle.eliminate.proofs.sums.list_tables.Given as goal

-- the first tables of the nodes so far were taken from the limits, and each has its place
abbrev pub invariant-loop-node : goal.invariant-loop-node
invariant-loop-node g l = record {
  lists : ListsWithin (cells_by g.C.Cell.ring g.C.Cell.of_weight g.C.Cell.of_value) l.play.diagram.now.nodes l.play.profile.now l.fn.work l.work (take l.count l.live) (drop l.node-index l.nodes) l.nodes l.fn.limits l.left;
  count : l.count ≡ l.node-index;
  live : length l.live ≡ length l.fn.live;
}

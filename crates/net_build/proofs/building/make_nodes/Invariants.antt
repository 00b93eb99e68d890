use Rattle.std.proofs.Common.{◌≡◌, map, drop}
use Rattle.std.specs.List.{range_with_len}
use Rattle.net_build.specs.Lists.{numbers_of_lists, cells_of_lists}
use Rattle.net_build.specs.Stages.{made_at}
use Rattle.net_build.proofs.building.make_nodes.Given as goal

-- the nodes made so far, and the tables that are still there
abbrev pub invariant-loop-v : goal.invariant-loop-v
invariant-loop-v l = record {
  made : l.nodes.items ≡ map (made_at l.heads (numbers_of_lists l.more) (numbers_of_lists l.parents) (cells_of_lists l.initial.tables)) (range_with_len 0 l.v);
  left : drop l.v l.tables ≡ drop l.v l.initial.tables;
}

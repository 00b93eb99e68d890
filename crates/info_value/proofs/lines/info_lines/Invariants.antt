use Rattle.std.proofs.Common.{◌≡◌, All, flat_map, filter, map}
use Rattle.std.specs.List.{range_with_len}
use Rattle.info_value.specs.Alone.{IsInfoLineAlone}
use Rattle.info_value.specs.Lines.{arc_of, arcs_into, decides}
use Rattle.info_value.specs.Shared.{IsShared}
use Rattle.info_value.proofs.lines.info_lines.Given as goal

-- the lines of the arcs into the decisions so far
abbrev pub invariant-loop-v : goal.invariant-loop-v
invariant-loop-v l = record {
  arcs : map arc_of l.lines.items ≡ flat_map (arcs_into l.diagram.nodes) (filter (decides l.diagram.nodes l.baseline.agent) (range_with_len 0 l.v));
  lines : All (IsInfoLineAlone l.baseline.diagram.now l.baseline.agent) l.lines.items;
  shared : IsShared l.baseline.diagram.now l.shared;
}

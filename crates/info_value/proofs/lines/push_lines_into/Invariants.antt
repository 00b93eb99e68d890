use Rattle.std.proofs.Common.{◌≡◌, ◌++◌, All, map, filter}
use Rattle.std.specs.List.{range_with_len}
use Rattle.info_value.specs.Alone.{IsInfoLineAlone}
use Rattle.info_value.specs.Lines.{arc_of, may_see}
use Rattle.info_value.specs.Shared.{IsShared}
use Rattle.info_value.proofs.lines.push_lines_into.Given as goal

-- the lines of the arcs from the nodes so far
abbrev pub invariant-loop-v : goal.invariant-loop-v
invariant-loop-v l = record {
  arcs : map arc_of l.lines.items ≡ map arc_of l.fn.lines.items ++ map (λ x. (x, l.decision)) (filter (may_see l.diagram.nodes l.decision) (range_with_len 0 l.v));
  lines : All (IsInfoLineAlone l.baseline.diagram.now l.baseline.agent) l.fn.lines.items → All (IsInfoLineAlone l.baseline.diagram.now l.baseline.agent) l.lines.items;
  shared : IsShared l.baseline.diagram.now l.shared;
}

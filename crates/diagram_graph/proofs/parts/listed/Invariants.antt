use Rattle.std.proofs.Common.{◌≡◌, filter}
use Rattle.std.specs.List.{range_with_len}
use Rattle.node_sets.specs.Sets.{holds}
use Rattle.diagram_graph.proofs.parts.listed.Given as goal

abbrev pub invariant-loop-v : goal.invariant-loop-v
invariant-loop-v l = l.list.items ≡ filter (holds l.set) (range_with_len 0 l.v)

use Rattle.std.proofs.Common.{◌≡◌, ◌++◌, flat_map}
use Rattle.std.specs.List.{range_with_len}
use Rattle.app_forms.specs.GraphLines.{relies_line_of}
use Rattle.app_forms.proofs.forms.graph.push_decisions.Given as goal

-- the lines so far
abbrev pub invariant-loop-v : goal.invariant-loop-v
invariant-loop-v l = l.out.items ≡ l.fn.out.items ++ flat_map (relies_line_of l.diagram.nodes l.names l.relevance) (range_with_len 0 l.v)

use Rattle.std.proofs.Common.{◌≡◌, ◌++◌}
use Rattle.std.specs.List.{flat_map, range_with_len}
use Rattle.net_print.specs.Printed.{node_line}
use Rattle.net_print.proofs.blocks.push_blocks.Given as goal

-- the lines so far
abbrev pub invariant-loop-node : goal.invariant-loop-node
invariant-loop-node l = l.out.items ≡ l.fn.out.items ++ flat_map (node_line l.diagram.nodes l.names) (range_with_len 0 l.node)

use Rattle.std.proofs.Common.{◌≡◌, ◌++◌}
use Rattle.std.specs.List.{flat_map, range_with_len}
use Rattle.net_print.specs.Printed.{potential_line}
use Rattle.net_print.proofs.potentials.push_potentials.Given as goal

-- the lines so far
abbrev pub invariant-loop-node : goal.invariant-loop-node
invariant-loop-node l = l.out.items ≡ l.fn.out.items ++ flat_map (potential_line l.diagram l.names) (range_with_len 0 l.node)

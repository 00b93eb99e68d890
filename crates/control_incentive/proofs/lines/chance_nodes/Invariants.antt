use Rattle.std.proofs.Common.{◌≡◌, filter}
use Rattle.std.specs.List.{range_with_len}
use Rattle.maid_model.specs.Nodes.{is_chance, node_at}
use Rattle.control_incentive.proofs.lines.chance_nodes.Given as goal

-- the chance nodes so far
abbrev pub invariant-loop-v : goal.invariant-loop-v
invariant-loop-v l = l.nodes.items ≡ filter (λ u. is_chance (node_at l.diagram.nodes u).kind) (range_with_len 0 l.v)

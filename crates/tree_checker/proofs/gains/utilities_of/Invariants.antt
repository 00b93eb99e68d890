use Rattle.std.proofs.Common.{◌≡◌, filter}
use Rattle.std.specs.List.{range_with_len}
use Rattle.maid_model.specs.Nodes.{is_utility_of}
use Rattle.tree_checker.proofs.gains.utilities_of.Given as goal

-- the utilities so far
abbrev pub invariant-loop-v : goal.invariant-loop-v
invariant-loop-v l = l.list.items ≡ filter (is_utility_of l.diagram.nodes l.agent) (range_with_len 0 l.v)

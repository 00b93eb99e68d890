use Rattle.std.proofs.Common.{◌≡◌, [], replicate}
use Rattle.net_build.specs.Lists.{numbers_of_lists}
use Rattle.net_build.proofs.potentials.no_parents.Given as goal

-- an empty list for each node so far
abbrev pub invariant-loop-node : goal.invariant-loop-node
invariant-loop-node l = numbers_of_lists l.lists.items ≡ replicate l._node []

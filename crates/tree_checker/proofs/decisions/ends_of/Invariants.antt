use Rattle.std.proofs.Common.{◌≡◌, ◌∷◌, filter}
use Rattle.std.specs.List.{range_with_len}
use Rattle.node_sets.specs.Sets.{holds}
use Rattle.tree_checker.proofs.decisions.ends_of.Given as goal

-- the decision and the goals so far
abbrev pub invariant-loop-v : goal.invariant-loop-v
invariant-loop-v l = l.ends.items ≡ l.decision ∷ filter (holds l.goals) (range_with_len 0 l.v)

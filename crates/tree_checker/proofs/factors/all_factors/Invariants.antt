use Rattle.std.proofs.Common.{◌≡◌, ◌<◌, ℕ, [], length, slice_index_or}
use Rattle.diagram_graph.specs.Cycles.{lists_in}
use Rattle.tree_checker.specs.Walks.{ListsFactors}
use Rattle.tree_checker.proofs.factors.all_factors.Given as goal

-- the nodes so far have their factors
abbrev pub invariant-loop-v : goal.invariant-loop-v
invariant-loop-v l = record { count : length l.all.items ≡ l.v; lists_each : (v : ℕ) → v < l.v → ListsFactors l.diagram.nodes l.profile l.left_out v (slice_index_or (lists_in l.all.items) v []) }

use Rattle.std.proofs.Common.{ℕ, ◌<◌}
use Rattle.diagram_graph.specs.Free.{IsFree}
use Rattle.diagram_graph.proofs.placing.first_free.Given as goal

abbrev pub invariant-loop-v : goal.invariant-loop-v
invariant-loop-v l = (w : ℕ) → w < l.v → IsFree l.items l.placed w → ⊥

use Rattle.std.proofs.Common.{ℕ, ◌<◌}
use Rattle.diagram_graph.specs.Free.{IsReady}
use Rattle.diagram_graph.proofs.placing.first_ready.Given as goal

abbrev pub invariant-loop-v : goal.invariant-loop-v
invariant-loop-v g l = (w : ℕ) → w < l.v → IsReady (g.N.Needs.lists l.needs) l.items l.placed w → ⊥

use Rattle.std.proofs.Common.{ℕ, ◌<◌, get_or}
use Rattle.diagram_graph.specs.Needs.{IsMarkedIn}
use Rattle.diagram_graph.proofs.placing.all_placed.Given as goal

abbrev pub invariant-loop-e : goal.invariant-loop-e
invariant-loop-e l = (k : ℕ) → k < l.e-index → IsMarkedIn l.placed (get_or l.list k 0)

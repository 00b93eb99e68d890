use Rattle.std.proofs.Common.{ℕ, ◌<◌, get_or}
use Rattle.diagram_graph.specs.Free.{IsFree}
use Rattle.diagram_graph.proofs.rounds.first_in.Given as goal

abbrev pub invariant-loop-e : goal.invariant-loop-e
invariant-loop-e l = (k : ℕ) → k < l.e-index → IsFree l.items l.placed (get_or l.list k 0) → ⊥

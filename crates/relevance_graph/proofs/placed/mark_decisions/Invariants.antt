use Rattle.std.proofs.Common.{◌≡◌, ℕ, ◌<◌, ◌↔◌, length}
use Rattle.maid_model.specs.Nodes.{IsDecision}
use Rattle.diagram_graph.specs.Needs.{IsMarkedIn}
use Rattle.relevance_graph.proofs.placed.mark_decisions.Given as goal

abbrev pub invariant-loop-v : goal.invariant-loop-v
invariant-loop-v l = record {
  len : length l.marks.items ≡ length l.diagram.nodes;
  told : (x : ℕ) → x < l.v → IsMarkedIn l.marks.items x ↔ IsDecision l.diagram.nodes x;
}

use Rattle.std.proofs.Common.{ℕ, ◌↔◌}
use Rattle.std.specs.Prelude.{Contains, count_by, not}
use Rattle.maid_model.specs.Placing.{IsPlacing}
use Rattle.diagram_graph.specs.Needs.{IsMarkedIn, NeedsItem}
use Rattle.diagram_graph.proofs.placing.place.Given as goal

abbrev pub invariant-placing : goal.invariant-placing
invariant-placing g l = record {
  marks : (v : ℕ) → IsMarkedIn l.placed v ↔ Contains l.order.items v;
  placing : IsPlacing (IsMarkedIn l.items) (NeedsItem (g.N.Needs.lists l.needs)) l.order.items;
}

abbrev pub decreases-placing : goal.decreases-placing
decreases-placing g l = count_by not l.placed

use Rattle.std.proofs.Common.{ℕ, ◌↔◌, ◌≡◌, length}
use Rattle.std.specs.Prelude.{Contains, count_by, not}
use Rattle.diagram_graph.specs.Needs.{IsMarkedIn}
use Rattle.diagram_graph.specs.Free.{IsFree}
use Rattle.diagram_graph.proofs.Trails.{IsWalking}
use Rattle.diagram_graph.proofs.rounds.find_round.Given as goal

abbrev pub invariant-trail : goal.invariant-trail
invariant-trail g l = record {
  len : length l.seen.items ≡ length (g.N.Needs.lists l.needs);
  marks : (v : ℕ) → IsMarkedIn l.seen.items v ↔ Contains l.trail.items v;
  walking : IsWalking (IsFree l.items l.placed) (g.N.Needs.lists l.needs) l.trail.items l.at;
}

abbrev pub decreases-trail : goal.decreases-trail
decreases-trail g l = count_by not l.seen.items

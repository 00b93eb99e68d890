use Rattle.std.proofs.Common.{◌≡◌, ◌↔◌, ℕ, length}
use Rattle.std.specs.Prelude.{IsTrue}
use Rattle.node_sets.specs.Sets.{IsIn}
use Rattle.size_precheck.specs.Above.{AreAboveKnown, FindsMore}
use Rattle.size_precheck.proofs.nodes_above.go_over.Given as goal

-- the known nodes are found, and they are those from before and perhaps some more
abbrev pub invariant-loop-v : goal.invariant-loop-v
invariant-loop-v l = record {
  all : length l.above ≡ length l.initial.above;
  found : AreAboveKnown l.diagram.nodes l.known l.above;
  kept : (x : ℕ) → IsIn l.initial.known x → IsIn l.known x;
  more : IsTrue l.more ↔ FindsMore l.initial.known l.known;
}

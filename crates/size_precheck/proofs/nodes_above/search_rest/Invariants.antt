use Rattle.std.proofs.Common.{◌≡◌, ◌⊎◌, ℕ, ◌<◌, length}
use Rattle.node_sets.specs.Sets.{IsIn}
use Rattle.size_precheck.specs.Above.{IsAbove, set_at}
use Rattle.size_precheck.proofs.nodes_above.search_rest.Given as goal

-- the nodes so far are found, and those that were known
abbrev pub invariant-loop-v : goal.invariant-loop-v
invariant-loop-v l = record {
  all : length l.above ≡ length l.initial.above;
  found : (x : ℕ) → (x < l.v) ⊎ IsIn l.known x → IsAbove l.diagram.nodes x (set_at l.above x);
}

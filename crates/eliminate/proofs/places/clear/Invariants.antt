use Rattle.std.proofs.Common.{◌≡◌, ◌<◌, ℕ, false, length, slice_index_or}
use Rattle.node_sets.specs.declared.sets.NodeSet.{NodeSet}
use Rattle.node_sets.specs.Sets.{holds}
use Rattle.eliminate.proofs.places.clear.Given as goal

abbrev pub invariant-loop-v : goal.invariant-loop-v
invariant-loop-v l = ((u k : ℕ) (none : NodeSet) → u < l.v → holds (slice_index_or l.at u none) k ≡ false) × (length l.at ≡ length l.fn.at)

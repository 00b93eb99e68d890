use Rattle.std.proofs.Common.{◌≡◌, length, take}
use Rattle.maid_model.specs.Nodes.{counts_of}
use Rattle.node_sets.specs.declared.sets.TheConstants.{MOST_NODES}
use Rattle.maid_model.proofs.indexing.state_counts_of.Given as goal

abbrev pub invariant-loop-v : goal.invariant-loop-v
invariant-loop-v l = (length l.counts ≡ MOST_NODES) × (take l.v l.counts ≡ take l.v (counts_of l.nodes))

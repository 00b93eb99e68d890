use Rattle.node_sets.specs.Sets.{IsIn}
use Rattle.maid_model.specs.Relevance.{IsLive}
use Rattle.maid_model.proofs.Indexes.{MembersBelow}
use Rattle.maid_model.proofs.indexing.live_nodes_of.Given as goal

abbrev pub invariant-loop-v : goal.invariant-loop-v
invariant-loop-v l = MembersBelow (IsLive l.nodes) l.v (IsIn l.live)

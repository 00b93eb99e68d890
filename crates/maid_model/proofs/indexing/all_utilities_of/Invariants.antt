use Rattle.node_sets.specs.Sets.{IsIn}
use Rattle.maid_model.specs.Nodes.{IsUtility}
use Rattle.maid_model.proofs.Indexes.{MembersBelow}
use Rattle.maid_model.proofs.indexing.all_utilities_of.Given as goal

abbrev pub invariant-loop-v : goal.invariant-loop-v
invariant-loop-v l = MembersBelow (IsUtility l.nodes) l.v (IsIn l.utilities)

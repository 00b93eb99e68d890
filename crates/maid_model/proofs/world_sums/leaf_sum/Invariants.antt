use Rattle.std.proofs.Common.{length}
use Rattle.maid_model.specs.Nodes.{counts_of}
use Rattle.maid_model.specs.Worlds.{worlds_from}
use Rattle.maid_model.proofs.Leaves.{LeavesSoFar}
use Rattle.maid_model.proofs.world_sums.leaf_sum.Given as goal

abbrev pub invariant-worlds : goal.invariant-worlds
invariant-worlds l = LeavesSoFar l.diagram.nodes l.profile l.agent l.marks l.sum l.world

abbrev pub decreases-worlds : goal.decreases-worlds
decreases-worlds l = length (worlds_from (counts_of l.diagram.nodes) l.world)

use Rattle.maid_model.specs.Worlds.{world_of}
use Rattle.maid_model.proofs.Summing.{SumSoFar, values, greatest_at}
use Rattle.maid_model.proofs.world_sums.marked_utility.Given as goal

abbrev pub invariant-loop-v : goal.invariant-loop-v
invariant-loop-v l = SumSoFar l.diagram.nodes (values l.diagram.nodes l.marks (world_of l.world)) (greatest_at l.diagram.nodes) l.sum l.v

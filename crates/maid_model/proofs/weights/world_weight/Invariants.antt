use Rattle.maid_model.specs.Gains.{base_total}
use Rattle.maid_model.specs.Worlds.{world_of}
use Rattle.maid_model.proofs.Weighing.{ProductSoFar, factors}
use Rattle.maid_model.proofs.weights.world_weight.Given as goal

abbrev pub invariant-loop-v : goal.invariant-loop-v
invariant-loop-v l = ProductSoFar l.diagram.nodes (factors l.diagram.nodes l.profile l.left_out (world_of l.world)) (base_total l.diagram.nodes l.profile l.left_out) l.weight l.v

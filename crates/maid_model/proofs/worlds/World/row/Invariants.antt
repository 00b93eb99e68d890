use Rattle.maid_model.specs.Worlds.{world_of}
use Rattle.maid_model.proofs.Picked.{RowSoFar}
use Rattle.maid_model.proofs.worlds.World.row.Given as goal

abbrev pub invariant-loop-u : goal.invariant-loop-u
invariant-loop-u l = RowSoFar l.diagram.nodes l.v (world_of l.self) l.row l.u-items l.u-index

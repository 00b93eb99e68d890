use Rattle.std.proofs.Common.{arith}
use Rattle.tree_checker.proofs.endings.place.Goals as goal

pub cell-requires-clause-node : goal.cell-requires-clause-node
cell-requires-clause-node c = omega (arith, c.requires.decision, c.if-left_out-count.false, c.count.ensures.count)

pub cell-requires-clause-world : goal.cell-requires-clause-world
cell-requires-clause-world c = c.requires.world

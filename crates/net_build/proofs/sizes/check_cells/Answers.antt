use Rattle.std.proofs.Common.{arith}
use Rattle.net_build.proofs.sizes.check_cells.Goals as goal

pub count_rows-requires : goal.count_rows-requires
count_rows-requires c = c.requires.parents

pub bounds-heads-node : goal.bounds-heads-node
bounds-heads-node c = c.requires.within

pub bounds-heads-node-then-cells : goal.bounds-heads-node-then-cells
bounds-heads-node-then-cells c = c.requires.within

pub returns-then-cells-clause-cells : goal.returns-then-cells-clause-cells
returns-then-cells-clause-cells c = tt

pub returns-then-cells-clause-few : goal.returns-then-cells-clause-few
returns-then-cells-clause-few c = tt

pub returns-clause-few : goal.returns-clause-few
returns-clause-few c = omega (arith, c.if-cells.false)

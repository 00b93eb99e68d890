use Rattle.std.proofs.Common.{arith}
use Rattle.cell_rings.proofs.gains.word_sum.Goals as goal

pub bounds-cells-pair : goal.bounds-cells-pair
bounds-cells-pair c = omega (arith, c.requires.cells.0)

pub bounds-cells-pair-2 : goal.bounds-cells-pair-2
bounds-cells-pair-2 c = omega (arith, c.requires.cells.1)

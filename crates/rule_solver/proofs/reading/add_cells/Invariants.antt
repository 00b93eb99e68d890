use Rattle.std.proofs.Common.{◌*ℤ◌, pos}
use Rattle.cell_rings.specs.Sums.{cell_at}
use Rattle.rule_solver.proofs.OwnOrder.{AddedTo}
use Rattle.rule_solver.proofs.reading.add_cells.Given as goal

abbrev pub invariant-loop-at : goal.invariant-loop-at
invariant-loop-at g l = AddedTo (λ i. g.C.HasNumber.number (cell_at g.C.Cell.ring l.cells i) *ℤ pos l.factor) l.fn.gains l.gains l.at

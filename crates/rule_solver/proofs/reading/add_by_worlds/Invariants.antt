use Rattle.rule_solver.proofs.GainCells.{GainsSoFar}
use Rattle.rule_solver.proofs.reading.add_by_worlds.Given as goal

abbrev pub invariant-loop-cell : goal.invariant-loop-cell
invariant-loop-cell g l = GainsSoFar g.C.Cell.ring g.C.HasNumber.number l.table.diagram.now.nodes l.table.decision l.table.work.now.cells l.table.slot.now l.table.factor l.fn.gains l.gains l.world l.cell-index

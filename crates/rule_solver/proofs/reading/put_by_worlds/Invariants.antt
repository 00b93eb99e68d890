use Rattle.rule_solver.proofs.MassCells.{MassesSoFar}
use Rattle.rule_solver.proofs.reading.put_by_worlds.Given as goal

abbrev pub invariant-loop-cell : goal.invariant-loop-cell
invariant-loop-cell g l = MassesSoFar g.C.Cell.ring g.C.HasNumber.number l.table.diagram.now.nodes l.table.decision l.table.work.now.cells l.table.slot.now l.table.factor l.fn.masses l.masses l.world l.cell-index

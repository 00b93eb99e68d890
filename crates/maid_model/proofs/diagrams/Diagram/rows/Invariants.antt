use Rattle.maid_model.proofs.Cells.{RowsSoFar}
use Rattle.maid_model.proofs.diagrams.Diagram.rows.Given as goal

abbrev pub invariant-loop-u : goal.invariant-loop-u
invariant-loop-u l = RowsSoFar l.self.nodes l.v l.rows l.u-items l.u-index

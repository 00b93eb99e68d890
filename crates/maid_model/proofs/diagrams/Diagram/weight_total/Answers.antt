use Rattle.maid_model.proofs.Cells.{row_within}
use Rattle.maid_model.proofs.diagrams.Diagram.weight_total.Goals as goal

pub first_row_total-requires-clause-within : goal.first_row_total-requires-clause-within
first_row_total-requires-clause-within c = rw c.states.ensures.states (row_within c.args.self.now c.args.v c.cells.result.now c.cells.ensures.diagram c.requires c.cells.ensures.cells)

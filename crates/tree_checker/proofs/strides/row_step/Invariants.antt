use Rattle.maid_model.proofs.Picked.{RowSoFar}
use Rattle.tree_checker.proofs.StepLaws.{one_at}
use Rattle.tree_checker.proofs.strides.row_step.Given as goal

abbrev pub invariant-loop-u : goal.invariant-loop-u
invariant-loop-u l = RowSoFar l.diagram.nodes l.node (one_at l.by) l.step l.u-items l.u-index

use Rattle.std.proofs.Common.{arith}
use Rattle.maid_model.proofs.Cells.{total_fits}
use Rattle.maid_model.proofs.diagrams.first_row_total.Goals as goal

pub overflow_add-total : goal.overflow_add-total
overflow_add-total c = omega (arith, total_fits c.args.cells.now c.args.states c.loop-s.s c.loop-s.total c.requires.not_negative c.requires.fits c.loop-s.invariant c.loop-s-test.true)

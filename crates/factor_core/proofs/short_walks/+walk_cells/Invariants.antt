use Rattle.std.proofs.Common.{length}
use Rattle.factor_core.proofs.Walking.{HasReached}
use Rattle.factor_core.proofs.short_walks.+walk_cells.Given as goal

abbrev pub decreases-walk_cells : goal.decreases-walk_cells
decreases-walk_cells g l = length l.axes.now

abbrev pub invariant-loop : goal.invariant-loop
invariant-loop g l = HasReached g.C.Cell.ring l.cells l.axis l.rest l.strides l.places l.fn.out l.fn.at l.counter l.here l.place l.out

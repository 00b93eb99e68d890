use Rattle.net_build.proofs.RaisedCells.{IsRaisedTo}
use Rattle.net_build.proofs.scales.raise.Given as goal

abbrev pub invariant-loop-cell : goal.invariant-loop-cell
invariant-loop-cell l = IsRaisedTo l.decimals l.cell-index l.fn.cells l.cells

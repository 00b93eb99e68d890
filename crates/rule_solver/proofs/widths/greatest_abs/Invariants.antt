use Rattle.std.proofs.Common.{◌≡◌, max, drop}
use Rattle.maid_model.specs.Gains.{greatest_abs}
use Rattle.rule_solver.proofs.widths.greatest_abs.Given as goal

abbrev pub invariant-loop-cell : goal.invariant-loop-cell
invariant-loop-cell l = max (greatest_abs (drop l.cell-index l.cells)) l.greatest ≡ greatest_abs l.cells

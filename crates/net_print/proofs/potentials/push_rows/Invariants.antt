use Rattle.std.proofs.Common.{◌≡◌, ◌++◌, decimal}
use Rattle.net_build.specs.Plain.{reduced_rows}
use Rattle.net_print.specs.Parts.{parted_behind}
use Rattle.net_print.proofs.potentials.push_rows.Given as goal

-- the rows so far
abbrev pub invariant-loop-row : goal.invariant-loop-row
invariant-loop-row l = l.out.items ≡ l.fn.out.items ++ parted_behind decimal 0 (reduced_rows l.states l.row l.cells)

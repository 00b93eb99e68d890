use Rattle.std.proofs.Common.{◌≡◌, ◌+◌, ◌++◌, drop, map, unsigned_abs, decimal}
use Rattle.net_build.specs.Plain.{reduced_row}
use Rattle.net_print.specs.Parts.{parted_behind}
use Rattle.net_print.proofs.numbers.push_reduced_row.Given as goal

-- the numbers so far and those to come are all
abbrev pub invariant-loop-place : goal.invariant-loop-place
invariant-loop-place l = l.out.items ++ parted_behind decimal (l.before + l.place) (drop l.place (reduced_row (map unsigned_abs l.row))) ≡ l.fn.out.items ++ parted_behind decimal l.before (reduced_row (map unsigned_abs l.row))

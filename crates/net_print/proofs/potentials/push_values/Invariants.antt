use Rattle.std.proofs.Common.{◌≡◌, ◌++◌, drop}
use Rattle.net_print.specs.Printed.{parted, value_text}
use Rattle.net_print.specs.Parts.{parted_behind}
use Rattle.net_print.proofs.potentials.push_values.Given as goal

-- the values so far and those to come are all
abbrev pub invariant-loop-place : goal.invariant-loop-place
invariant-loop-place l = l.out.items ++ parted_behind (value_text l.decimals) l.place (drop l.place l.cells) ≡ l.fn.out.items ++ parted (value_text l.decimals) l.cells

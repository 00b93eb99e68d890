use Rattle.std.proofs.Common.{◌≡◌, length, take}
use Rattle.factor_core.specs.Rows.{sizes_from}
use Rattle.factor_core.proofs.rows.set_ones.Given as goal

abbrev pub invariant-loop-j : goal.invariant-loop-j
invariant-loop-j l = (length l.sizes ≡ length l.fn.sizes) × (take l.j l.sizes ≡ sizes_from l.counts (take l.j l.slots) (length l.counts))

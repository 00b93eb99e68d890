use Rattle.std.proofs.Common.{◌≡◌, ◌<◌, ℕ, length}
use Rattle.cell_rings.specs.Sums.{cell_at}
use Rattle.factor_core.proofs.writes.set_zero.Given as goal

abbrev pub invariant-loop-i : goal.invariant-loop-i
invariant-loop-i g l = let r = g.C.Cell.ring in (length l.cells ≡ length l.fn.cells) × ((p : ℕ) → p < l.i → cell_at r l.cells p ≡ r.nought)

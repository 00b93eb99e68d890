use Rattle.std.proofs.Common.{ℕ, ◌+◌, ◌^◌, ◌<◌, ◌≤◌, nat_abs}
use Rattle.cell_rings.specs.Kinds.{gain_kind}
use Rattle.cell_rings.specs.Sums.{cell_at}
use Rattle.cell_rings.specs.Words.{AreWords}
use Rattle.cell_rings.proofs.gains.are_words.Given as goal

abbrev pub invariant-loop-i : goal.invariant-loop-i
invariant-loop-i l = ((k : ℕ) → k < l.i → nat_abs (cell_at gain_kind l.cells (l.from + k)).0 ≤ l.bits)
    × (AreWords l.cells l.from l.i → l.bits < 2 ^ 63)

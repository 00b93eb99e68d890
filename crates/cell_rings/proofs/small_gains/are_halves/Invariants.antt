use Rattle.std.proofs.Common.{ℕ, ◌+◌, ◌^◌, ◌<◌, ◌≤◌}
use Rattle.std.specs.Int.{w64, cast_unsigned}
use Rattle.cell_rings.specs.Kinds.{small_gain_kind}
use Rattle.cell_rings.specs.Sums.{cell_at}
use Rattle.cell_rings.specs.Words.{AreHalves}
use Rattle.cell_rings.proofs.small_gains.are_halves.Given as goal

abbrev pub invariant-loop-i : goal.invariant-loop-i
invariant-loop-i l = ((k : ℕ) → k < l.i → cast_unsigned w64 (cell_at small_gain_kind l.cells (l.from + k)).0 ≤ l.bits)
    × (AreHalves l.cells l.from l.i → l.bits < 2 ^ 32)

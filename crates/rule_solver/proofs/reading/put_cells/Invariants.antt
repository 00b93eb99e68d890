use Rattle.std.proofs.Common.{◌≡◌, ℕ, ◌*◌, ◌<◌, length, slice_index}
use Rattle.std.specs.Prelude.{nat_abs}
use Rattle.cell_rings.specs.Sums.{cell_at}
use Rattle.rule_solver.proofs.reading.put_cells.Given as goal

-- the masses before the place are those of their cells
abbrev pub invariant-loop-at : goal.invariant-loop-at
invariant-loop-at g l = record {
  len : length l.masses ≡ length l.fn.masses;
  done : (i : ℕ) → i < l.at → slice_index l.masses i ≡ nat_abs (g.C.HasNumber.number (cell_at g.C.Cell.ring l.cells i)) * l.factor;
}

use Rattle.std.proofs.Common.{◌≡◌, ◌*◌, ◌<◌, ℕ, length, slice_index}
use Rattle.tree_checker.proofs.decisions.row_masses.Given as goal

-- the rows so far have their masses
abbrev pub invariant-loop-row : goal.invariant-loop-row
invariant-loop-row l = record { count : length l.masses.items ≡ l.row; taken : (row : ℕ) → row < l.row → slice_index l.masses.items row ≡ slice_index l.cells (row * l.states) }

use Rattle.std.proofs.Common.{ℕ, ◌<◌, ◌≤◌, length, pos, slice_index_or, ◌≤ℤ◌, ◌<ℤ◌}
use Rattle.rule_solver.proofs.rows.first_best.Given as goal

-- so far `best` is the first of the greatest
abbrev pub invariant-loop-state : goal.invariant-loop-state
invariant-loop-state l =
    (l.best < length l.gains)
    × ((s : ℕ) → s < l.state → slice_index_or l.gains s (pos 0) ≤ℤ slice_index_or l.gains l.best (pos 0))
    × ((s : ℕ) → s < l.best → slice_index_or l.gains s (pos 0) <ℤ slice_index_or l.gains l.best (pos 0))
    × (l.best ≤ l.state)

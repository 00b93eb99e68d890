use Rattle.std.proofs.Common.{ℕ, ◌<◌, ◌≤ℤ◌, pos, slice_index_or}
use Rattle.tree_checker.proofs.rows.has_better.Given as goal

-- no state so far is better
abbrev pub invariant-loop-gain : goal.invariant-loop-gain
invariant-loop-gain l = (s : ℕ) → s < l.gain-index → slice_index_or l.gains s (pos 0) ≤ℤ slice_index_or l.gains l.choice (pos 0)

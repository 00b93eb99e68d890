use Rattle.std.proofs.Common.{ℕ, ◌<◌, slice_index_or}
use Rattle.maid_model.specs.Answers.{no_row}
use Rattle.tree_checker.specs.Judged.{PassesListed}
use Rattle.tree_checker.proofs.rows.first_fault.Given as goal

-- the rows so far pass
abbrev pub invariant-loop-place : goal.invariant-loop-place
invariant-loop-place l =
    (row : ℕ) → row < l.place → PassesListed l.sums.gains.items l.sums.masses.items l.states l.scale row (slice_index_or l.rows row no_row)

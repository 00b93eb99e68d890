use Rattle.std.proofs.Common.{◌≡◌, ℕ, ◌<◌, slice_index_or, false}
use Rattle.pure_search.proofs.marks.first_mark.Given as goal

-- no mark so far
abbrev pub invariant-loop-place : goal.invariant-loop-place
invariant-loop-place l = (k : ℕ) → k < l.place → slice_index_or l.marks k false ≡ false

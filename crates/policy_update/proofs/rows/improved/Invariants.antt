use Rattle.std.proofs.Common.{◌<◌, length, pos, slice_index_or}
use Rattle.policy_update.proofs.Choices.{IsBestSoFar}
use Rattle.policy_update.proofs.rows.improved.Given as goal

-- the best state so far
abbrev pub invariant-loop-state : goal.invariant-loop-state
invariant-loop-state l = (l.best < length l.gains) × IsBestSoFar (λ s. slice_index_or l.gains s (pos 0)) l.choice l.best l.state

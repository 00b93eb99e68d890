use Rattle.std.proofs.Common.{ℕ, ◌<◌, ◌≤ℤ◌, pos}
use Rattle.weight_scale.specs.Scaling.{number_at}
use Rattle.weight_scale.proofs.scaling.first_negative.Given as goal

abbrev pub invariant-loop-place : goal.invariant-loop-place
invariant-loop-place l = (k : ℕ) → k < l.place → pos 0 ≤ℤ number_at l.rows k

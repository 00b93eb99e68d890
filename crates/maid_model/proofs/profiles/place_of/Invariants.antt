use Rattle.std.proofs.Common.{◌≢◌, ℕ, ◌<◌, get_or}
use Rattle.maid_model.specs.Profiles.{no_rule}
use Rattle.maid_model.proofs.profiles.place_of.Given as goal

abbrev pub invariant-loop-place : goal.invariant-loop-place
invariant-loop-place l = (k : ℕ) → k < l.place → (get_or l.rules k no_rule).decision ≢ l.decision

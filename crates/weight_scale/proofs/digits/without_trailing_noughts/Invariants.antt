use Rattle.std.proofs.Common.{◌≡◌, ◌≤◌, ◌-◌, ◌++◌, length, replicate}
use Rattle.weight_scale.proofs.digits.without_trailing_noughts.Given as goal

abbrev pub invariant-loop-kept : goal.invariant-loop-kept
invariant-loop-kept l = record {
  within : length l.kept ≤ length l.digits;
  cut : l.digits ≡ l.kept ++ replicate (length l.digits - length l.kept) 48;
}

abbrev pub decreases-loop-kept : goal.decreases-loop-kept
decreases-loop-kept l = length l.kept

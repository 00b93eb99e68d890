use Rattle.std.proofs.Common.{◌≡◌, ◌<◌, ◌≤◌, ℕ, length}
use Rattle.net_build.specs.Scaling.{decimal_at}
use Rattle.net_build.proofs.scales.most_decimals.Given as goal

abbrev pub invariant-loop-decimal : goal.invariant-loop-decimal
invariant-loop-decimal l = record {
  most : (k : ℕ) → k < l.decimal-index → (decimal_at l.decimals k).k ≤ l.most;
  reached : 0 < l.most → (i : ℕ) × (i < length l.decimals) × ((decimal_at l.decimals i).k ≡ l.most);
  few : l.most ≤ 30;
}

use Rattle.std.proofs.Common.{◌≡◌, ◌<◌, ℕ, map, take}
use Rattle.net_build.specs.Scaling.{decimal_at}
use Rattle.net_build.specs.TableParts.{Fits, value_at_scale}
use Rattle.net_build.proofs.scales.cells_within.Given as goal

abbrev pub invariant-loop-decimal : goal.invariant-loop-decimal
invariant-loop-decimal l = record {
  cells : l.cells.items ≡ map (value_at_scale l.scale) (take l.decimal-index l.decimals);
  fit : (k : ℕ) → k < l.decimal-index → Fits l.scale (decimal_at l.decimals k);
}

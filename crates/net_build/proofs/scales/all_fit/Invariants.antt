use Rattle.std.proofs.Common.{◌<◌, ℕ, get_or}
use Rattle.weight_scale.specs.declared.decimal.Decimal.{Decimal}
use Rattle.net_build.specs.TableParts.{Fits}
use Rattle.net_build.proofs.scales.all_fit.Given as goal

abbrev pub invariant-loop-decimal : goal.invariant-loop-decimal
invariant-loop-decimal l = (k : ℕ) (d : Decimal) → k < l.decimal-index → Fits l.scale (get_or l.decimals k d)

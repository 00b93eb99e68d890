use Rattle.std.proofs.Common.{◌<◌, ℕ, pos, get_or}
use Rattle.net_build.specs.TableParts.{FitsRaised}
use Rattle.net_build.proofs.scales.can_raise.Given as goal

abbrev pub invariant-loop-cell : goal.invariant-loop-cell
invariant-loop-cell l = (k : ℕ) → k < l.cell-index → FitsRaised l.decimals (get_or l.cells k (pos 0))

use Rattle.std.proofs.Common.{ℕ, ◌<◌, ◌∷◌, map, drop}
use Rattle.weight_scale.specs.Scaling.{whole_number, IsGreatestDivisor}
use Rattle.weight_scale.proofs.rows.common_divisor.Given as goal

abbrev pub invariant-loop-number : goal.invariant-loop-number
invariant-loop-number l = record {
  positive : 0 < l.divisor;
  whole : (g : ℕ) → IsGreatestDivisor (l.divisor ∷ map (whole_number l.finest.decimals) (drop l.number-index l.row)) g → IsGreatestDivisor (l.finest.size ∷ map (whole_number l.finest.decimals) l.row) g;
}

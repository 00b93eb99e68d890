-- The decimal nought.
use Rattle.std.specs.Prelude.{pos}
use Rattle.std.proofs.Common.{lit≤}
use Rattle.weight_scale.specs.declared.decimal.Decimal.{Decimal}

-- nought, with no digit behind the point
abbrev pub nought : Decimal
nought = record { m = pos 0; k = 0; small = lit≤ tt; few = lit≤ tt }

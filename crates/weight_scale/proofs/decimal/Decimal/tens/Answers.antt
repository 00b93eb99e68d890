use Rattle.std.proofs.Common.{arith, ◌-◌}
use Rattle.weight_scale.proofs.Tens.{tens_fit}
use Rattle.weight_scale.proofs.decimal.Decimal.tens.Goals as goal

pub pow-requires : goal.pow-requires
pow-requires c = tens_fit (c.args.decimals - c.args.self.k) (omega (arith, c.requires))

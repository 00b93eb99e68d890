use Rattle.std.proofs.Common.{arith}
use Rattle.weight_scale.proofs.Tens.{tens_fit}
use Rattle.weight_scale.proofs.scopes.Scope.has_room.Goals as goal

pub pow-scale-requires : goal.pow-scale-requires
pow-scale-requires c = tens_fit c.decimals.result (omega (arith, c.decimals.ensures.decimals, c.decimals.ensures.diagram.limits.decimals))

use Rattle.std.proofs.Common.{arith}
use Rattle.net_build.proofs.ScaleLemmas.{tens_fit}
use Rattle.net_build.proofs.scales.scaled.Goals as goal

pub pow-tens-requires : goal.pow-tens-requires
pow-tens-requires c = tens_fit _ (omega (arith, c.requires.few))

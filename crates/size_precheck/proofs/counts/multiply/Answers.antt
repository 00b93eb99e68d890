use Rattle.std.proofs.Common.{arith}
use Rattle.size_precheck.proofs.counts.multiply.Goals as goal

pub returns : goal.returns
returns c = omega (arith, c.min.ensures, c.saturating_mul.ensures)

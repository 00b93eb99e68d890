use Rattle.std.proofs.Common.{arith}
use Rattle.size_precheck.proofs.starts.utility_table.Goals as goal

pub set_of-requires : goal.set_of-requires
set_of-requires c v m = let a = c.parents-parents.ensures.known v m in let b = c.parents-parents.ensures.diagram.limits.nodes in omega arith

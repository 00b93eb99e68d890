use Rattle.std.proofs.Common.{arith}
use Rattle.size_precheck.proofs.starts.node_table.Goals as goal

pub insert_all-requires : goal.insert_all-requires
insert_all-requires c v m = let a = c.parents-parents.ensures.known v m in let b = c.parents-parents.ensures.diagram.limits.nodes in omega arith

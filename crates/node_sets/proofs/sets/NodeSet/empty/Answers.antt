use Rattle.std.proofs.Common.{refl, arith}
use Rattle.node_sets.specs.Sets.{holds}
use Rattle.node_sets.proofs.Bits.{no_bit, is_set}
use Rattle.node_sets.proofs.sets.NodeSet.empty.Goals as goal

pub returns : goal.returns
unfolding holds
returns c x m = let e = is_set _ m in let f = no_bit _ refl x in absurd (omega arith)

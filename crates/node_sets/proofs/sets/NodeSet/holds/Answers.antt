use Rattle.std.proofs.Common.{◌==◌, ap}
use Rattle.std.proofs.lemmas.Nat.Bits.{shr_and_one}
use Rattle.node_sets.specs.Sets.{holds}
use Rattle.node_sets.proofs.sets.NodeSet.holds.Goals as goal

pub returns : goal.returns
unfolding holds
returns c = ap (λ x. x == 1) (shr_and_one _ _)

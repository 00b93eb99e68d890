use Rattle.std.proofs.Common.{take}
use Rattle.std.specs.Prelude.{Contains}
use Rattle.node_sets.specs.Sets.{Adds}
use Rattle.node_sets.proofs.sets.NodeSet.insert_all.Given as goal

abbrev pub invariant-loop-v : goal.invariant-loop-v
invariant-loop-v l = Adds (Contains (take l.v-index l.list)) l.initial.self l.self l.changed

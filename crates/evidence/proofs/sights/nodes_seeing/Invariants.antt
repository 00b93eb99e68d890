use Rattle.std.proofs.Common.{◌≡◌, map, take}
use Rattle.reach_laws.specs.Evidence.{seeing}
use Rattle.evidence.proofs.sights.nodes_seeing.Given as goal

abbrev pub invariant-loop-v : goal.invariant-loop-v
invariant-loop-v l = l.nodes.items ≡ map (seeing l.node) (take l.v l.diagram.nodes)

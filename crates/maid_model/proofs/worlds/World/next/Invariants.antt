use Rattle.maid_model.specs.Nodes.{counts_of}
use Rattle.maid_model.proofs.Next.{NextSoFar}
use Rattle.maid_model.proofs.worlds.World.next.Given as goal

abbrev pub invariant-loop-v : goal.invariant-loop-v
invariant-loop-v l = NextSoFar (counts_of l.diagram.nodes) l.fn.self l.self-inside.states.items l.v

abbrev pub decreases-loop-v : goal.decreases-loop-v
decreases-loop-v l = l.v

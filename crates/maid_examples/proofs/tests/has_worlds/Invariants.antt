use Rattle.maid_model.specs.Nodes.{counts_of}
use Rattle.maid_model.specs.Worlds.{IsWorld}
use Rattle.maid_examples.proofs.tests.has_worlds.Given as goal

abbrev pub invariant-loop-states : goal.invariant-loop-states
invariant-loop-states l = IsWorld (counts_of l.diagram.nodes) l.world

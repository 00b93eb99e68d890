use Rattle.tree_checker.proofs.counting.leaves.Given as goal
use Rattle.tree_checker.proofs.ProductSteps.{CountedSoFar}

-- the count so far, with the counts of the nodes still to come, stops where the whole does
abbrev pub invariant-loop-v : goal.invariant-loop-v
invariant-loop-v l = CountedSoFar l.diagram.nodes l.count l.v

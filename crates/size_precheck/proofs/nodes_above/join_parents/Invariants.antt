use Rattle.size_precheck.proofs.Above.{IsAboveTo}
use Rattle.size_precheck.proofs.nodes_above.join_parents.Given as goal

-- the node and what leads to its parents so far
abbrev pub invariant-loop-parent : goal.invariant-loop-parent
invariant-loop-parent l = IsAboveTo l.diagram.nodes l.v l.parents l.parent-index l.set

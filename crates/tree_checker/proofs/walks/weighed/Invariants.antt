use Rattle.std.proofs.Common.{◌≤◌, drop, length}
use Rattle.tree_checker.specs.Walks.{AreUtilities}
use Rattle.tree_checker.proofs.walks.weighed.Given as goal

-- the nodes from the end on are utilities
abbrev pub invariant-loop-end : goal.invariant-loop-end
invariant-loop-end l = (l.end ≤ length l.order) × AreUtilities l.diagram.nodes (drop l.end l.order)

abbrev pub decreases-loop-end : goal.decreases-loop-end
decreases-loop-end l = l.end

use Rattle.std.proofs.Common.{◌++◌, length}
use Rattle.tree_checker.specs.Walks.{ending}
use Rattle.tree_checker.proofs.WalkSteps.{WalkSoFar}
use Rattle.tree_checker.proofs.walks.+walk.Given as goal

abbrev pub decreases-walk : goal.decreases-walk
decreases-walk l = length l.order.now

-- the states so far are added
abbrev pub invariant-loop-s : goal.invariant-loop-s
invariant-loop-s l = WalkSoFar l.setting.diagram.now.nodes l.setting.profile.now l.setting.left_out l.setting.marks.now l.v (l.rest ++ ending l.setting.last l.setting.tail.now) l.product l.utility l.before l.fn.world l.fn.gains l.fn.masses l.world l.gains l.masses l.s

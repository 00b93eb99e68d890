use Rattle.std.proofs.Common.{[], ◌∷◌}
use Rattle.tree_checker.proofs.WalkSteps.{WalkSoFar}
use Rattle.tree_checker.proofs.lasts.add_pairs.Given as goal

-- the states so far are added
abbrev pub invariant-loop-s : goal.invariant-loop-s
invariant-loop-s l = WalkSoFar l.setting.diagram.now.nodes l.setting.profile.now l.setting.left_out l.setting.marks.now l.v (l.last.node ∷ l.last.utility ∷ []) l.product l.utility l.state l.fn.world l.fn.gains l.fn.masses l.world l.gains l.masses l.s

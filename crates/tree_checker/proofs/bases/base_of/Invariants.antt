use Rattle.tree_checker.proofs.BaseSteps.{BaseSoFar}
use Rattle.tree_checker.proofs.bases.base_of.Given as goal

abbrev pub invariant-loop-on : goal.invariant-loop-on
invariant-loop-on l = BaseSoFar l.diagram.nodes l.chosen l.on-items l.on-index l.base

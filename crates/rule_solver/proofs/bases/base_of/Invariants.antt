use Rattle.rule_solver.proofs.BaseLemmas.{BaseSoFar}
use Rattle.rule_solver.proofs.bases.base_of.Given as goal

abbrev pub invariant-loop-answer : goal.invariant-loop-answer
invariant-loop-answer l = BaseSoFar l.diagram.nodes l.answers l.decision l.answer-index l.base

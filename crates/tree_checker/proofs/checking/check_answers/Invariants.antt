use Rattle.tree_checker.proofs.FirstLines.{CheckedSoFar}
use Rattle.tree_checker.proofs.checking.check_answers.Given as goal

abbrev pub invariant-loop-answer : goal.invariant-loop-answer
invariant-loop-answer l = CheckedSoFar l.diagram l.solved l.answer-index l.line

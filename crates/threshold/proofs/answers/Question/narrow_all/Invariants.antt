use Rattle.maid_model.specs.Answers.{answered}
use Rattle.rule_solver.specs.Rooms.{AreLeft}
use Rattle.threshold.proofs.Assembling.{HeldSoFar}
use Rattle.threshold.proofs.answers.Question.narrow_all.Given as goal

-- the fractions at which the answers so far hold; the workspaces that are left serve the next
-- decision
abbrev pub invariant-loop-answer : goal.invariant-loop-answer
invariant-loop-answer l = record {
  held : HeldSoFar l.self.diagram.now.nodes (answered l.self.diagram.now l.self.solved.now) l.self.place l.self.solved.now.answers l.answer-index l.held;
  left : AreLeft l.left;
}

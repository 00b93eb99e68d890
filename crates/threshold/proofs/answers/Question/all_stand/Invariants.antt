use Rattle.std.proofs.Common.{ℕ, ◌<◌, get_or}
use Rattle.maid_model.specs.Views.{AnswerView}
use Rattle.threshold.specs.Answers.{AnswerStands}
use Rattle.threshold.proofs.answers.Question.all_stand.Given as goal

-- the answers so far stand
abbrev pub invariant-loop-answer : goal.invariant-loop-answer
invariant-loop-answer l = (k : ℕ) (d : AnswerView) → k < l.answer-index → AnswerStands l.self (get_or l.self.solved.now.answers k d)

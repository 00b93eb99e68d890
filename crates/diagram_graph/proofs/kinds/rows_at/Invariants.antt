use Rattle.std.proofs.Common.{◌≡◌, drop}
use Rattle.maid_model.specs.Answers.{rows_at}
use Rattle.diagram_graph.proofs.kinds.rows_at.Given as goal

-- the answers so far are of other decisions
abbrev pub invariant-loop-answer : goal.invariant-loop-answer
invariant-loop-answer l = rows_at (drop l.answer-index l.answers) l.decision ≡ rows_at l.answers l.decision

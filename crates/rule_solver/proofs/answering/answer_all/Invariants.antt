use Rattle.std.proofs.Common.{◌≡◌, take}
use Rattle.rule_solver.specs.Answered.{AnswersAll}
use Rattle.rule_solver.specs.Bases.{IsTurningBase}
use Rattle.rule_solver.proofs.answering.answer_all.Given as goal

-- the answers so far; the workspaces are as they were; the base has rules of answers, and uniform
-- ones elsewhere
abbrev pub invariant-loop-place : goal.invariant-loop-place
invariant-loop-place l = AnswersAll l.diagram.nodes l.diagram.decimals (take l.place l.order) l.answers.items × (l.spaces ≡ l.fn.spaces) × IsTurningBase l.diagram.nodes l.answers.items l.base

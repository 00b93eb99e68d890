use Rattle.std.proofs.Common.{◌≡◌, take}
use Rattle.app_lines.specs.Choices.{choice_lines}
use Rattle.app_lines.proofs.choices.choice_lines.Given as goal

-- the lines so far
abbrev pub invariant-loop-answer : goal.invariant-loop-answer
invariant-loop-answer l = l.text.items ≡ choice_lines l.diagram.nodes l.names (take l.answer-index l.answers)

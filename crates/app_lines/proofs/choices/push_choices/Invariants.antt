use Rattle.std.proofs.Common.{◌≡◌, ◌++◌, drop}
use Rattle.app_lines.specs.Choices.{choice_rows, decision_choices}
use Rattle.app_lines.proofs.choices.push_choices.Given as goal

-- the lines so far and those still to come are all
abbrev pub invariant-loop-number : goal.invariant-loop-number
invariant-loop-number l = l.out.items ++ choice_rows l.diagram.nodes l.names l.answer.decision l.number (drop l.number l.answer.rows) ≡ l.fn.out.items ++ decision_choices l.diagram.nodes l.names l.answer

use Rattle.std.proofs.Common.{take}
use Rattle.report_text.specs.Slots.{ReadsAnswers}
use Rattle.report_text.proofs.next_lines.next_answers.Given as goal

-- the decisions so far were read
abbrev pub invariant-loop-decision : goal.invariant-loop-decision
invariant-loop-decision l = ReadsAnswers l.diagram.nodes l.names (take l.decision-index l.order) l.answers.items l.fn.lines l.lines

use Rattle.std.proofs.Common.{◌≡◌, ◌++◌, take, flat_map}
use Rattle.maid_model.specs.Reports.{decision_lines}
use Rattle.report_text.proofs.report.push_decisions.Given as goal

-- the lines so far
abbrev pub invariant-loop-answer : goal.invariant-loop-answer
invariant-loop-answer l = l.out.items ≡ l.fn.out.items ++ flat_map (decision_lines l.diagram.nodes l.names) (take l.answer-index l.answers)

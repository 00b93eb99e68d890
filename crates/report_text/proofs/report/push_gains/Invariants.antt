use Rattle.std.proofs.Common.{◌≡◌, ◌++◌, drop}
use Rattle.maid_model.specs.Reports.{gain_lines}
use Rattle.report_text.proofs.report.push_gains.Given as goal

-- the lines so far and those still to come are all
abbrev pub invariant-loop-agent : goal.invariant-loop-agent
invariant-loop-agent l = l.out.items ++ gain_lines l.names l.agent (drop l.agent l.gains) ≡ l.fn.out.items ++ gain_lines l.names 0 l.gains

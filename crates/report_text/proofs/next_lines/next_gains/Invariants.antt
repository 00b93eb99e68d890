use Rattle.std.proofs.Common.{List}
use Rattle.maid_model.specs.Views.{NodeView}
use Rattle.report_text.specs.Slots.{ReadsGains}
use Rattle.report_text.proofs.next_lines.next_gains.Given as goal

-- the gains so far were read
abbrev pub invariant-loop-agent : goal.invariant-loop-agent
invariant-loop-agent l = (nodes : List NodeView) → ReadsGains nodes l.names l.agent l.gains.items l.fn.lines l.lines

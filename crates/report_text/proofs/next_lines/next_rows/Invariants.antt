use Rattle.report_text.specs.Slots.{ReadsRows}
use Rattle.report_text.proofs.next_lines.next_rows.Given as goal

-- the rows so far were read
abbrev pub invariant-loop-number : goal.invariant-loop-number
invariant-loop-number l = ReadsRows l.diagram.nodes l.names l.decision l.number l.rows.items l.fn.lines l.lines

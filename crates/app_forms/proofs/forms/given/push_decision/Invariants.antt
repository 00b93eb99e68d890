use Rattle.std.proofs.Common.{◌≡◌, ◌++◌, drop}
use Rattle.app_forms.specs.Given.{decision_given, rows_given}
use Rattle.app_forms.proofs.forms.given.push_decision.Given as goal

-- the lines so far and those still to come are all
abbrev pub invariant-loop-number : goal.invariant-loop-number
invariant-loop-number l =
    l.out.items ++ rows_given l.diagram.nodes l.names l.place l.answer.decision l.number (drop l.number l.answer.rows)
    ≡ l.fn.out.items ++ decision_given l.diagram.nodes l.names l.place l.answer

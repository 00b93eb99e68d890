use Rattle.std.proofs.Common.{◌≡◌, ◌++◌, flat_map, take}
use Rattle.app_forms.specs.Given.{decision_given}
use Rattle.app_forms.proofs.forms.given.push_decisions.Given as goal

-- the lines so far
abbrev pub invariant-loop-answer : goal.invariant-loop-answer
invariant-loop-answer l = l.out.items ≡ l.fn.out.items ++ flat_map (decision_given l.diagram.nodes l.names l.place) (take l.answer-index l.answers)

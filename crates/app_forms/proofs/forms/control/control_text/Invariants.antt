use Rattle.std.proofs.Common.{◌≡◌, take}
use Rattle.app_forms.specs.Control.{control_text}
use Rattle.app_forms.proofs.forms.control.control_text.Given as goal

-- the lines so far
abbrev pub invariant-loop-line : goal.invariant-loop-line
invariant-loop-line l = l.text.items ≡ control_text l.agent l.names (take l.line-index l.lines)

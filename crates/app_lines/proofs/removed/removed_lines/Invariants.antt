use Rattle.std.proofs.Common.{◌≡◌, take}
use Rattle.app_lines.specs.Removed.{removed_lines}
use Rattle.app_lines.proofs.removed.removed_lines.Given as goal

-- the lines so far
abbrev pub invariant-loop-arc : goal.invariant-loop-arc
invariant-loop-arc l = l.text.items ≡ removed_lines l.names (take l.arc-index l.removed)

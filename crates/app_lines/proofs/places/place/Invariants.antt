use Rattle.std.proofs.Common.{◌≡◌, ◌≤◌, ◌+◌}
use Rattle.app_lines.specs.Places.{line_at, column_at}
use Rattle.app_lines.proofs.places.place.Given as goal

-- the line and the column of the byte that is looked at
abbrev pub invariant-loop-byte : goal.invariant-loop-byte
invariant-loop-byte l = (l.line ≡ line_at l.text l.byte-index) × (l.column ≡ column_at l.text l.byte-index) × (l.line ≤ l.byte-index + 1) × (l.column ≤ l.byte-index + 1)

use Rattle.std.proofs.Common.{◌≡◌, ◌++◌, take}
use Rattle.line_pieces.specs.Pieces.{pieces_text}
use Rattle.line_pieces.proofs.pieces.push_pieces.Given as goal

-- the pieces so far
abbrev pub invariant-loop-piece : goal.invariant-loop-piece
invariant-loop-piece l = l.out.items ≡ l.fn.out.items ++ pieces_text (take l.piece-index l.pieces)

use Rattle.std.proofs.Common.{arith}
use Rattle.net_lexer.proofs.Fronts.{piece_behind}
use Rattle.net_lexer.proofs.pieces.Piece.at.Goals as goal

pub returns-clause-piece : goal.returns-clause-piece
returns-clause-piece c = piece_behind _ _ _ _ (omega arith) (rw c.behind.ensures at c.in_ok-kind.ensures.ok)

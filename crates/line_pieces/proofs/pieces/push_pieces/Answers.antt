use Rattle.line_pieces.specs.Pieces.{piece_text}
use Rattle.line_pieces.proofs.Appending.{piece_more}
use Rattle.line_pieces.proofs.pieces.push_pieces.Goals as goal

pub loop-piece-preserved : goal.loop-piece-preserved
loop-piece-preserved c = piece_more piece_text c.args.pieces.now c.loop-piece.piece-index _ c.args.out.now.items c.loop-piece.out.items c.push_piece.new.out.items c.loop-piece-test.true c.loop-piece.invariant c.in_ok-push_piece.ensures

use Rattle.net_lexer.proofs.Fronts.{comment_piece}
use Rattle.net_lexer.proofs.pieces.comment_len.Goals as goal

pub returns : goal.returns
returns c = comment_piece _ _ c.requires.some c.requires.begins c.line_len.ensures

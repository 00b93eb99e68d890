use Rattle.net_lexer.proofs.Fronts.{name_piece}
use Rattle.net_lexer.proofs.pieces.name_len.Goals as goal

pub returns : goal.returns
returns c = name_piece _ _ c.requires.some c.requires.begins c.word_len.ensures

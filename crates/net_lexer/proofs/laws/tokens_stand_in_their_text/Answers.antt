use Rattle.net_lexer.proofs.Listed.{each_token, in_order}
use Rattle.net_lexer.proofs.laws.tokens_stand_in_their_text.Goals as goal

pub returns : goal.returns
returns c = record { tokens = each_token; in_order = in_order }

use Rattle.net_parser.proofs.Owning.{blocks_own}
use Rattle.net_parser.proofs.laws.blocks_stand_in_their_text.Goals as goal

pub returns : goal.returns
returns c = record { blocks = λ text tokens tree are spells. blocks_own text tokens tree (c.tokens_stand_in_their_text.ensures.tokens text tokens are) spells }

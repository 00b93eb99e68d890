use Rattle.maid_laws.proofs.WalkLaws.{turn_law}
use Rattle.maid_laws.proofs.separation.walks_turn.Goals as goal

pub returns : goal.returns
returns c = record { law = turn_law }

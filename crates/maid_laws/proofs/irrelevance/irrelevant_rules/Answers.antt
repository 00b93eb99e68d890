use Rattle.maid_laws.proofs.RowLaws.{irrelevance_law}
use Rattle.maid_laws.proofs.irrelevance.irrelevant_rules.Goals as goal

pub returns : goal.returns
returns c = record { law = irrelevance_law }

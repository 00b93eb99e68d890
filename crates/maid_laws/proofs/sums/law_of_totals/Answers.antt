use Rattle.maid_laws.proofs.TotalLaws.{totals_law, weights_law}
use Rattle.maid_laws.proofs.sums.law_of_totals.Goals as goal

pub returns : goal.returns
returns c = record { totals = totals_law; weights = weights_law }

use Rattle.maid_laws.proofs.StartLaws.{kept_law, no_reliance_law}
use Rattle.maid_laws.proofs.subgames.later_decisions.Goals as goal

pub returns : goal.returns
returns c = record { sees = kept_law; relies = no_reliance_law }

use Rattle.maid_model.proofs.Members.{has_rules}
use Rattle.maid_model.proofs.laws.profile_has_rules.Goals as goal

pub returns : goal.returns
returns c = has_rules

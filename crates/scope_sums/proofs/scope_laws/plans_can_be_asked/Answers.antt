use Rattle.scope_sums.proofs.Asked.{asked_law, utility_asked_law}
use Rattle.scope_sums.proofs.scope_laws.plans_can_be_asked.Goals as goal

pub returns : goal.returns
returns c = record { decisions = asked_law; utilities = utility_asked_law }

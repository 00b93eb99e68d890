use Rattle.scope_sums.proofs.Agents.{agents_fit_law}
use Rattle.scope_sums.proofs.Kept.{fit_law, positive_missing_law}
use Rattle.scope_sums.proofs.scope_laws.plans_keep_scopes.Goals as goal

pub returns : goal.returns
returns c = record { decisions = fit_law; agents = agents_fit_law; positive = positive_missing_law }

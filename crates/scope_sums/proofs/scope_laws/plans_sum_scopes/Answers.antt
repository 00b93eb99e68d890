use Rattle.scope_sums.proofs.Agents.{agents_sums_law, agents_mass_law}
use Rattle.scope_sums.proofs.Summed.{sums_law}
use Rattle.scope_sums.proofs.scope_laws.plans_sum_scopes.Goals as goal

pub returns : goal.returns
returns c = record { sums = sums_law; agents = agents_sums_law; mass = agents_mass_law }

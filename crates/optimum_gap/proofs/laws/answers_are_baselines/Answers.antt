use Rattle.optimum_gap.proofs.Optima.{baseline_law}
use Rattle.optimum_gap.proofs.laws.answers_are_baselines.Goals as goal

pub returns : goal.returns
returns c = baseline_law

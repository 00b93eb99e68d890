use Rattle.tree_checker.proofs.OneVerdictLaw.{one_law}
use Rattle.tree_checker.proofs.laws.verdicts_are_one.Goals as goal

pub returns : goal.returns
returns c = one_law

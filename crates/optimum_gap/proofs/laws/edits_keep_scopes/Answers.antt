use Rattle.optimum_gap.proofs.Edits.{control_law, with_law, without_law}
use Rattle.optimum_gap.proofs.laws.edits_keep_scopes.Goals as goal

pub returns-clause-without : goal.returns-clause-without
returns-clause-without c = without_law

pub returns-clause-with : goal.returns-clause-with
returns-clause-with c = with_law

pub returns-clause-control : goal.returns-clause-control
returns-clause-control c = control_law

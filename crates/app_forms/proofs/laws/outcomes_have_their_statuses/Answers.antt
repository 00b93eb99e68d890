use Rattle.app_forms.proofs.Statuses.{refused_as_bytes, written_as_text}
use Rattle.app_forms.proofs.laws.outcomes_have_their_statuses.Goals as goal

pub returns-clause-refused : goal.returns-clause-refused
returns-clause-refused c = refused_as_bytes

pub returns-clause-written : goal.returns-clause-written
returns-clause-written c = written_as_text

use Rattle.app_forms.proofs.Clear.{nothing_found}
use Rattle.app_forms.proofs.laws.answered_diagrams_are_clear.Goals as goal

pub returns : goal.returns
returns c = nothing_found

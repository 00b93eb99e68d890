use Rattle.std.proofs.lemmas.List.Elements.{Contains-get_or}
use Rattle.app_forms.proofs.forms.given.push_row_given.Goals as goal

-- parents are nodes
pub shows-requires-clause-parents : goal.shows-requires-clause-parents
shows-requires-clause-parents c = λ k d h. c.parents-parents.ensures.known _ (Contains-get_or c.parents-parents.result.now k d h)

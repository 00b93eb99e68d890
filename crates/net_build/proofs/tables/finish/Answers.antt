use Rattle.std.proofs.lemmas.Result.{IfOk-from_err}
use Rattle.net_build.proofs.tables.finish.Goals as goal

pub returns-in_err-cells : goal.returns-in_err-cells
returns-in_err-cells c = IfOk-from_err _ _ c.from_residual.ensures.0

pub next-requires : goal.next-requires
next-requires c = tt

pub finish_draft-requires-clause-few : goal.finish_draft-requires-clause-few
finish_draft-requires-clause-few c = c.requires.few

pub returns-in_err-finish_draft : goal.returns-in_err-finish_draft
returns-in_err-finish_draft c = IfOk-from_err _ _ c.from_residual-in_err-finish_draft.ensures.0

pub returns-in_err-push : goal.returns-in_err-push
returns-in_err-push c = IfOk-from_err _ _ c.from_residual-in_err-push.ensures.0

use Rattle.std.proofs.lemmas.Result.{IfOk-from_err}
use Rattle.net_build.proofs.labels.label.Goals as goal

pub text_value-requires-clause-token : goal.text_value-requires-clause-token
text_value-requires-clause-token c = c.requires.own

pub text_value-requires-clause-string : goal.text_value-requires-clause-string
text_value-requires-clause-string c = c.requires.string

pub returns-in_err-label-clause-label : goal.returns-in_err-label-clause-label
returns-in_err-label-clause-label c = IfOk-from_err _ _ c.from_residual.ensures.0

pub returns-then-not-is_label-clause-label : goal.returns-then-not-is_label-clause-label
returns-then-not-is_label-clause-label c = tt

pub returns-clause-label : goal.returns-clause-label
returns-clause-label c = c.in_ok-label.ensures

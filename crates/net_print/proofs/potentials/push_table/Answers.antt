use Rattle.std.proofs.lemmas.Result.{err_from_is_err_and}
use Rattle.net_print.proofs.potentials.push_table.Goals as goal

pub returns-in_err-extend_from_slice : goal.returns-in_err-extend_from_slice
returns-in_err-extend_from_slice c = rw (err_from_is_err_and c.from_residual.result c.from_residual.ensures.1).1 tt

pub returns-in_err-push_numbers : goal.returns-in_err-push_numbers
returns-in_err-push_numbers c = rw (err_from_is_err_and c.from_residual-in_err-push_numbers.result c.from_residual-in_err-push_numbers.ensures.1).1 tt

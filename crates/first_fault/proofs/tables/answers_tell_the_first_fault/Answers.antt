use Rattle.first_fault.proofs.Rows.{tells_the_first, answers_without_fault}
use Rattle.first_fault.proofs.tables.answers_tell_the_first_fault.Goals as goal

pub returns-clause-err : goal.returns-clause-err
returns-clause-err c = tells_the_first

pub returns-clause-ok : goal.returns-clause-ok
returns-clause-ok c = answers_without_fault

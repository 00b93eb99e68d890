use Rattle.first_fault.proofs.Rows.{tables_are_covered, tables_are_exclusive, tables_have_one_fault}
use Rattle.first_fault.proofs.tables.a_table_has_one_outcome.Goals as goal

pub returns : goal.returns
returns c = record { covered = tables_are_covered; exclusive = tables_are_exclusive; one_fault = tables_have_one_fault }

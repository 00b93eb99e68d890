use Rattle.first_fault.proofs.Rows.{finds_the_first, counts_where}
use Rattle.first_fault.proofs.tables.a_table_finds_its_first_fault.Goals as goal

pub returns-clause-first : goal.returns-clause-first
returns-clause-first c = finds_the_first

pub returns-clause-only : goal.returns-clause-only
returns-clause-only c = counts_where

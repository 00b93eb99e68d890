use Rattle.net_build.proofs.plain_tables.whole_number.Goals as goal

pub returns-clause-decimal : goal.returns-clause-decimal
returns-clause-decimal c = rw c.bytes.ensures at c.whole_numeral.ensures.decimal

use Rattle.first_fault.proofs.Repeats.{no_repeat, first_repeat}
use Rattle.first_fault.proofs.tables.repeats_are_found_in_turn.Goals as goal

pub returns-clause-none : goal.returns-clause-none
returns-clause-none c = no_repeat

pub returns-clause-first : goal.returns-clause-first
returns-clause-first c = first_repeat

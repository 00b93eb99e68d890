use Rattle.first_fault.proofs.Rows.{stages_in_turn, stages_end_alike, results_tell}
use Rattle.first_fault.proofs.tables.stages_come_in_turn.Goals as goal

pub returns : goal.returns
returns c = record { outcome = stages_in_turn; one = stages_end_alike; results = results_tell }

use Rattle.weight_scale.proofs.Unique.{never_both}
use Rattle.weight_scale.proofs.Weighing.{scaled_or_wide, is_table}
use Rattle.weight_scale.proofs.laws.rows_are_scaled_or_too_wide.Goals as goal

pub returns : goal.returns
returns c = record { covered = scaled_or_wide; exclusive = never_both; table = λ rows states scaled some whole is. is_table rows states some whole scaled is }

use Rattle.weight_scale.proofs.Unique.{scaled_once}
use Rattle.weight_scale.proofs.laws.rows_scale_in_one_way.Goals as goal

pub returns : goal.returns
returns c = scaled_once

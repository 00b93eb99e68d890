use Rattle.arc_laws.proofs.WorthLaws.{exists_value_law, one_value_law}
use Rattle.arc_laws.proofs.worths.one_value.Goals as goal

pub returns : goal.returns
returns c = record { exists = exists_value_law; one = one_value_law }

use Rattle.arc_laws.proofs.WorthLaws.{control_value_law}
use Rattle.arc_laws.proofs.worths.control_value.Goals as goal

pub returns : goal.returns
returns c = record { law = control_value_law }

use Rattle.arc_laws.proofs.Unreached.{unreached_law}
use Rattle.arc_laws.proofs.control.rule_unreached.Goals as goal

pub returns : goal.returns
returns c = record { law = unreached_law }

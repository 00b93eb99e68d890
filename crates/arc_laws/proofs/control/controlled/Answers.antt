use Rattle.arc_laws.proofs.ControlLaws.{kept_as_decision, more_law, same_control_law}
use Rattle.arc_laws.proofs.control.controlled.Goals as goal

pub returns : goal.returns
returns c = record { kept = kept_as_decision; more = more_law; same = same_control_law }

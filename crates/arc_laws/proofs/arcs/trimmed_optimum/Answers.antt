use Rattle.arc_laws.proofs.ArcLaws.{trimmed_law}
use Rattle.arc_laws.proofs.arcs.trimmed_optimum.Goals as goal

pub returns : goal.returns
returns c = record { same = trimmed_law }

use Rattle.arc_laws.proofs.ArcLaws.{kept_law, less_law, as_much_law, same_law}
use Rattle.arc_laws.proofs.arcs.arc_removed.Goals as goal

pub returns : goal.returns
returns c = record { kept = kept_law; less = less_law; as_much = as_much_law; same = same_law }

use Rattle.arc_laws.proofs.Unneeded.{no_walk_law, unneeded_law}
use Rattle.arc_laws.proofs.requisite.unneeded_parent.Goals as goal

pub returns : goal.returns
returns c = record { walks = no_walk_law; rows = unneeded_law }

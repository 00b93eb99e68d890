use Rattle.arc_laws.proofs.WorthLaws.{seen_law, unseen_law}
use Rattle.arc_laws.proofs.worths.arc_value.Goals as goal

pub returns : goal.returns
returns c = record { seen = seen_law; unseen = unseen_law }

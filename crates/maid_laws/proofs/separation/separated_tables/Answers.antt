use Rattle.maid_laws.proofs.SeparationLaws.{shared_law}
use Rattle.maid_laws.proofs.WalkLaws.{children_law}
use Rattle.maid_laws.proofs.separation.separated_tables.Goals as goal

pub returns : goal.returns
returns c = record { shared = shared_law; children = children_law }

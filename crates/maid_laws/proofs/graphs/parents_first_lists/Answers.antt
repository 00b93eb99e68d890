use Rattle.maid_laws.proofs.OrderLaws.{acyclic_law, listing_law}
use Rattle.maid_laws.proofs.graphs.parents_first_lists.Goals as goal

pub returns : goal.returns
returns c = record { acyclic = acyclic_law; listing = listing_law }

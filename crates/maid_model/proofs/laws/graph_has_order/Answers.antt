use Rattle.maid_model.proofs.Ordering.{has_parents_first}
use Rattle.maid_model.proofs.laws.graph_has_order.Goals as goal

pub returns : goal.returns
returns c = has_parents_first

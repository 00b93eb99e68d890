use Rattle.diagram_graph.proofs.OneCycle.{cycle_leads_back, one_cycle}
use Rattle.diagram_graph.proofs.laws.parents_have_one_cycle_at_most.Goals as goal

pub returns : goal.returns
returns c = record { leads_back = cycle_leads_back; one_cycle = one_cycle }

use Rattle.diagram_graph.proofs.Covering.{cycle_or_none}
use Rattle.diagram_graph.proofs.laws.parents_have_a_cycle_or_none.Goals as goal

pub returns : goal.returns
returns c = record { covered = cycle_or_none }

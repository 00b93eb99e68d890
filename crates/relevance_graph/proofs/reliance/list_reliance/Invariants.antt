use Rattle.diagram_graph.specs.Cycles.{lists_in}
use Rattle.relevance_graph.specs.Steps.{TellsReliance}
use Rattle.relevance_graph.proofs.reliance.list_reliance.Given as goal

abbrev pub invariant-loop-v : goal.invariant-loop-v
invariant-loop-v l = TellsReliance l.diagram.nodes l.v (lists_in l.lists.items)

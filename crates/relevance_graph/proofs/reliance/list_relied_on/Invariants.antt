use Rattle.maid_model.specs.Relevance.{ReliesOn}
use Rattle.relevance_graph.specs.Steps.{ListsBelow}
use Rattle.relevance_graph.proofs.reliance.list_relied_on.Given as goal

abbrev pub invariant-loop-on : goal.invariant-loop-on
invariant-loop-on l = ListsBelow (ReliesOn l.diagram.nodes l.decision) l.on l.list.items

use Rattle.diagram_graph.specs.Cycles.{lists_in}
use Rattle.relevance_graph.proofs.Listing.{tells_rising}
use Rattle.relevance_graph.proofs.Outcomes.{needs_relies}
use Rattle.relevance_graph.proofs.relevance.find_relevance_with.Goals as goal

pub invariant_of-result : goal.invariant_of-result
invariant_of-result c = tells_rising c.args.diagram.now.nodes (lists_in c.in_ok-relied_on.relied_on.items) c.in_ok-relied_on.ensures

pub returns : goal.returns
returns c = record {
  count = c.in_ok-relied_on.ensures.count;
  pairs = needs_relies c.args.diagram.now.nodes (lists_in c.in_ok-relied_on.relied_on.items) c.in_ok-relied_on.ensures;
  rising = tells_rising c.args.diagram.now.nodes (lists_in c.in_ok-relied_on.relied_on.items) c.in_ok-relied_on.ensures;
  outcome = c.in_ok-placing.ensures;
}

use Rattle.node_sets.specs.Arcs.{HasParent, HasChild}
use Rattle.maid_model.proofs.Indexes.{ArcsBelow}
use Rattle.maid_model.proofs.indexing.arcs_of.Given as goal

abbrev pub invariant-loop-v : goal.invariant-loop-v
invariant-loop-v l = record {
  parents : ArcsBelow l.nodes l.v (HasParent l.arcs);
  children : ArcsBelow l.nodes l.v (HasChild l.arcs);
}

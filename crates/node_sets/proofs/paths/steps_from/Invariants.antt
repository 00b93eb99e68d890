use Rattle.std.proofs.Common.{◌≤◌, ◌-◌}
use Rattle.node_sets.specs.Steps.{Step}
use Rattle.node_sets.proofs.Following.{IsSteppedTo}
use Rattle.node_sets.proofs.paths.steps_from.Given as goal

abbrev pub invariant-nodes : goal.invariant-nodes
invariant-nodes g l = record {
  within : l.from ≤ 256;
  stepped : IsSteppedTo (Step (g.G.Graph.parents_of l.graph) l.way) l.set l.from l.reached;
}

abbrev pub decreases-nodes : goal.decreases-nodes
decreases-nodes g l = 256 - l.from

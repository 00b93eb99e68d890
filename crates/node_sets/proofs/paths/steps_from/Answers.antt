use Rattle.std.proofs.Common.{arith}
use Rattle.node_sets.specs.Steps.{Step}
use Rattle.node_sets.proofs.Following.{stepped_more, stepped_all}
use Rattle.node_sets.proofs.paths.steps_from.Goals as goal

pub nodes-init : goal.nodes-init
nodes-init g c = record {
  within = omega arith;
  stepped = λ v. ((λ m. absurd (c.empty-reached.ensures v m)), (λ w. let l = w.1 in absurd (omega arith)));
}

pub nodes-preserved : goal.nodes-preserved
nodes-preserved g c = record {
  within = let l = c.in-Some.ensures.small in omega arith;
  stepped = stepped_more (Step (g.G.Graph.parents_of c.args.graph.now) c.args.way) c.args.set.now c.nodes.from c.in-Some.u c.nodes.reached c.step_from.result c.union-reached.result c.in-Some.ensures c.step_from.ensures c.union-reached.ensures c.nodes.invariant.stepped;
}

pub returns : goal.returns
returns g c = stepped_all (Step (g.G.Graph.parents_of c.args.graph.now) c.args.way) c.args.set.now c.nodes.from c.nodes.reached c.in_default.ensures c.nodes.invariant.stepped

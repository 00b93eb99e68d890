use Rattle.node_sets.specs.Paths.{Here}
use Rattle.node_sets.specs.Steps.{Step}
use Rattle.node_sets.proofs.Following.{followed_more, followed_less, followed_all}
use Rattle.node_sets.proofs.paths.follow.Goals as goal

pub waves-init : goal.waves-init
waves-init g c = record {
  kept = λ v m. m;
  sound = λ v m. (v, m, Here);
  handed_on = λ u v m s. absurd (c.empty-followed.ensures u m);
  within = λ v m. absurd (c.empty-followed.ensures v m);
}

pub waves-preserved : goal.waves-preserved
waves-preserved g c = followed_more (Step (g.G.Graph.parents_of c.args.graph.now) c.args.way) c.args.set _ _ _ _ _ c.difference-fresh.ensures c.steps_from.ensures c.union-reached.ensures c.waves.invariant

pub waves-smaller : goal.waves-smaller
waves-smaller g c = followed_less (Step (g.G.Graph.parents_of c.args.graph.now) c.args.way) c.args.set _ _ _ _ c.difference.ensures c.in-Some.ensures c.waves.invariant

pub returns : goal.returns
returns g c = followed_all (Step (g.G.Graph.parents_of c.args.graph.now) c.args.way) c.args.set _ _ _ c.difference.ensures c.in_default.ensures c.waves.invariant

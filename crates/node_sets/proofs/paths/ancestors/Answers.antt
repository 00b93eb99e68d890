use Rattle.node_sets.specs.Paths.{ParentArc}
use Rattle.node_sets.proofs.Turning.{path_turn}
use Rattle.node_sets.proofs.paths.ancestors.Goals as goal

pub returns : goal.returns
returns g c v =
    let f = c.follow.ensures v in (
      (λ m. let h = f.0 m in (h.0, h.1, path_turn _ v h.0 h.2)),
      (λ h. f.1 (h.0, h.1, path_turn (ParentArc (g.G.Graph.parents_of c.args.graph.now)) h.0 v h.2)),
    )

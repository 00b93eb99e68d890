use Rattle.diagram_graph.proofs.adding.push_parent.Goals as goal

pub returns : goal.returns
returns c = c.in_ok-push.ensures.ok

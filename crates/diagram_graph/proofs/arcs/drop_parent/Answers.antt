use Rattle.std.proofs.Common.{rules}
use Rattle.diagram_graph.proofs.Filters.{filter_retained}
use Rattle.diagram_graph.proofs.arcs.drop_parent.Goals as goal

pub returns : goal.returns
returns c = filter_retained _ _ _ (λ x b f' y called. search rules) _ _ c.retain.ensures.filtered

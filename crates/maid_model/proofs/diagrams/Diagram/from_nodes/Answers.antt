use Rattle.std.proofs.Common.{◌<◌, List, length, sym, subst}
use Rattle.maid_model.specs.Graph.{Arc}
use Rattle.maid_model.specs.Views.{NodeView}
use Rattle.maid_model.proofs.diagrams.Diagram.from_nodes.Goals as goal

pub of-requires-clause-known : goal.of-requires-clause-known
of-requires-clause-known c u v arc =
    let same = c.deref.ensures.value in
    subst (λ (nodes : List NodeView). u < length nodes) (sym same) (c.requires.graph.parents_known u v (subst (λ (nodes : List NodeView). Arc nodes u v) same arc))

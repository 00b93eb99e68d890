use Rattle.std.proofs.Common.{◌<◌, List, length, sym, subst}
use Rattle.maid_model.specs.Edits.{with_node}
use Rattle.maid_model.specs.Graph.{IsGraph}
use Rattle.maid_model.specs.Views.{DiagramView, NodeView}
use Rattle.maid_model.proofs.Exchanged.{known_parents}
use Rattle.maid_model.proofs.diagrams.Diagram.exchange.Goals as goal

pub exchange-requires-clause-known : goal.exchange-requires-clause-known
exchange-requires-clause-known c u there =
    let within = subst (λ (d : DiagramView). c.args.v < length d.nodes) (sym c.self.view_is) c.requires.within in
    let graph = subst (λ (d : DiagramView). IsGraph (with_node d c.args.v c.args.node).nodes) (sym c.self.view_is) c.requires.diagram.graph in
    subst (λ (nodes : List NodeView). u < length nodes) (sym c.deref.ensures.value) (known_parents c.self.inside.nodes.items c.args.v c.args.node within graph u there)

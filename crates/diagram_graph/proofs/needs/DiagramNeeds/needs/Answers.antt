use Rattle.maid_model.specs.Nodes.{no_node}
use Rattle.maid_model.specs.Views.{NodeView}
use Rattle.std.proofs.Math.ListN.{get_or-map}
use Rattle.std.proofs.lemmas.List.{length-map}
use Rattle.std.proofs.Common.{◌∙◌, ◌<◌, ap, subst, sym}
use Rattle.diagram_graph.proofs.needs.DiagramNeeds.needs.Goals as goal

pub node-requires : goal.node-requires
node-requires c = subst (λ n. c.args.item < n) (length-map c.args.self.now.nodes (λ (node : NodeView). node.parents)) c.requires

pub returns : goal.returns
returns c =
    c.as_slice.ensures
    ∙ ap (λ (node : NodeView). node.parents) (c.behind-self.view_is ∙ c.node.ensures.node)
    ∙ sym (get_or-map (λ (node : NodeView). node.parents) c.args.self.now.nodes c.args.item no_node)

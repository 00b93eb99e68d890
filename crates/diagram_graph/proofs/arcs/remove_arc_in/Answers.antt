use Rattle.std.proofs.Common.{◌≡◌, ◌∙◌, refl, ap, sym, subst}
use Rattle.maid_model.specs.Diagrams.{IsDiagram}
use Rattle.maid_model.specs.Edits.{AreAlike, with_node}
use Rattle.maid_model.specs.Nodes.{node_at}
use Rattle.maid_model.specs.Views.{NodeView}
use Rattle.diagram_graph.specs.Edited.{without_parent}
use Rattle.diagram_graph.proofs.Losing.{less_kept}
use Rattle.diagram_graph.proofs.Undoing.{puts_back}
use Rattle.diagram_graph.proofs.arcs.remove_arc_in.Goals as goal

pub exchange-requires-clause-diagram : goal.exchange-requires-clause-diagram
exchange-requires-clause-diagram c =
    let d = c.args.diagram.now in
    let x = c.args.from in
    let to = c.args.to in
    let is = c.count-count.ensures.diagram in
    let made : c.drop_parent_of.new.node ≡ without_parent (node_at d.nodes to) x =
    c.drop_parent_of.ensures ∙ ap (λ (n : NodeView). without_parent n x) (c.in_ok-node.ensures ∙ c.node.ensures.node) in
    let kept = c.arc_removed.ensures.kept d.nodes x to is.graph is.tables c.requires in
    subst (λ n. IsDiagram (with_node d to n)) (sym made) (less_kept d.nodes x to c.requires d.agents d.decimals kept.0 is)

pub returns-clause-back : goal.returns-clause-back
returns-clause-back c =
    let d = c.args.diagram.now in
    let x = c.args.from in
    let to = c.args.to in
    let made : c.drop_parent_of.new.node ≡ without_parent (node_at d.nodes to) x =
    c.drop_parent_of.ensures ∙ ap (λ (n : NodeView). without_parent n x) (c.in_ok-node.ensures ∙ c.node.ensures.node) in
    puts_back d to c.drop_parent_of.new.node c.requires.within (subst (AreAlike (node_at d.nodes to)) (sym made) (record { states = refl; utilities = refl })) c.exchange.new.self c.exchange.result c.exchange.ensures.diagram c.exchange.ensures.node

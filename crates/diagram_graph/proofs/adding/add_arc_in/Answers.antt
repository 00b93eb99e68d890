use Rattle.std.proofs.Common.{◌≡◌, ◌∙◌, ◌++◌, [], ◌∷◌, refl, ap, sym, subst}
use Rattle.maid_model.specs.Diagrams.{IsDiagram}
use Rattle.maid_model.specs.Edits.{AreAlike, with_node}
use Rattle.maid_model.specs.Nodes.{node_at}
use Rattle.maid_model.specs.Views.{NodeView}
use Rattle.diagram_graph.specs.Edited.{with_parents}
use Rattle.diagram_graph.proofs.MoreArcs.{more_graph, more_kept, rules_fit}
use Rattle.diagram_graph.proofs.Undoing.{puts_back}
use Rattle.diagram_graph.proofs.adding.add_arc_in.Goals as goal

pub exchange-requires-clause-diagram : goal.exchange-requires-clause-diagram
exchange-requires-clause-diagram c =
    let d = c.args.diagram.now in
    let x = c.args.from in
    let to = c.args.to in
    let is = c.count-count.ensures.diagram in
    let node = node_at d.nodes to in
    let made : c.push_parent_of.new.node ≡ with_parents node (node.parents ++ x ∷ []) =
    c.in_ok-push_parent_of.ensures ∙ ap (λ (n : NodeView). with_parents n (n.parents ++ x ∷ [])) (c.in_ok-node.ensures ∙ c.node.ensures.node) in
    let graph = more_graph d.nodes x to c.requires.decision is.graph c.requires.from c.requires.no_utility c.requires.absent c.requires.no_cycle in
    let fit = rules_fit d.nodes x to c.requires.absent c.requires.no_cycle c.requires.room in
    subst (λ n. IsDiagram (with_node d to n)) (sym made) (more_kept d.nodes x to c.requires.decision d.agents d.decimals graph fit is)

pub returns-clause-back : goal.returns-clause-back
returns-clause-back c =
    let d = c.args.diagram.now in
    let x = c.args.from in
    let to = c.args.to in
    let node = node_at d.nodes to in
    let made : c.push_parent_of.new.node ≡ with_parents node (node.parents ++ x ∷ []) =
    c.in_ok-push_parent_of.ensures ∙ ap (λ (n : NodeView). with_parents n (n.parents ++ x ∷ [])) (c.in_ok-node.ensures ∙ c.node.ensures.node) in
    puts_back d to c.push_parent_of.new.node c.requires.decision.within (subst (AreAlike node) (sym made) (record { states = refl; utilities = refl })) c.exchange.new.self c.exchange.result c.exchange.ensures.diagram c.exchange.ensures.node

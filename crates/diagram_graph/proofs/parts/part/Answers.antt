use Rattle.std.proofs.lemmas.Result.{IfOk-from_err}
use Rattle.std.proofs.Common.{◌≡◌, ◌∙◌, List, ℕ, ap, sym, subst}
use Rattle.maid_model.specs.Diagrams.{IsDiagram}
use Rattle.maid_model.specs.Parts.{IsAncestral, with_ancestors, part_of}
use Rattle.maid_model.specs.Views.{NodeView}
use Rattle.diagram_graph.specs.Edited.{with_nodes}
use Rattle.diagram_graph.proofs.parts.part.Goals as goal

pub part_nodes-requires : goal.part_nodes-requires
part_nodes-requires c =
    let nodes = c.args.diagram.now.nodes in
    let closed = (c.parts_are_diagrams.ensures.ancestors nodes c.args.of.now c.count-count.ensures.diagram.graph c.requires).0 in
    subst (λ (l : List ℕ). IsAncestral nodes l) (sym (c.deref.ensures.value ∙ c.in_ok-kept.ensures)) closed

pub with_nodes-requires : goal.with_nodes-requires
with_nodes-requires c =
    let d = c.args.diagram.now in
    let is_diagram = c.count-count.ensures.diagram in
    let law = c.parts_are_diagrams.ensures in
    let closed = (law.ancestors d.nodes c.args.of.now is_diagram.graph c.requires).0 in
    let kept : c.deref.result.now ≡ with_ancestors d.nodes c.args.of.now = c.deref.ensures.value ∙ c.in_ok-kept.ensures in
    let nodes : c.in_ok-nodes.nodes.items ≡ part_of d.nodes (with_ancestors d.nodes c.args.of.now) = c.in_ok-nodes.ensures ∙ ap (part_of d.nodes) kept in
    subst (λ (ns : List NodeView). IsDiagram (with_nodes d ns)) (sym nodes) (law.diagram d (with_ancestors d.nodes c.args.of.now) is_diagram closed)

pub returns-in_err-kept-clause-nodes : goal.returns-in_err-kept-clause-nodes
returns-in_err-kept-clause-nodes c = IfOk-from_err _ _ c.from_residual.ensures.0

pub returns-in_err-kept-clause-diagram : goal.returns-in_err-kept-clause-diagram
returns-in_err-kept-clause-diagram c = IfOk-from_err _ _ c.from_residual.ensures.0

pub returns-in_err-nodes-clause-nodes : goal.returns-in_err-nodes-clause-nodes
returns-in_err-nodes-clause-nodes c = IfOk-from_err _ _ c.from_residual-in_err-nodes.ensures.0

pub returns-in_err-nodes-clause-diagram : goal.returns-in_err-nodes-clause-diagram
returns-in_err-nodes-clause-diagram c = IfOk-from_err _ _ c.from_residual-in_err-nodes.ensures.0

pub returns-in_err-with_nodes-clause-nodes : goal.returns-in_err-with_nodes-clause-nodes
returns-in_err-with_nodes-clause-nodes c = IfOk-from_err _ _ c.from_residual-in_err-with_nodes.ensures.0

pub returns-in_err-with_nodes-clause-diagram : goal.returns-in_err-with_nodes-clause-diagram
returns-in_err-with_nodes-clause-diagram c = IfOk-from_err _ _ c.from_residual-in_err-with_nodes.ensures.0

pub returns-clause-nodes : goal.returns-clause-nodes
returns-clause-nodes c = c.in_ok-kept.ensures

pub returns-clause-diagram : goal.returns-clause-diagram
returns-clause-diagram c =
    let d = c.args.diagram.now in
    let kept : c.deref.result.now ≡ with_ancestors d.nodes c.args.of.now = c.deref.ensures.value ∙ c.in_ok-kept.ensures in
    let nodes : c.in_ok-nodes.nodes.items ≡ part_of d.nodes (with_ancestors d.nodes c.args.of.now) = c.in_ok-nodes.ensures ∙ ap (part_of d.nodes) kept in
    c.in_ok-with_nodes.ensures ∙ ap (with_nodes d) nodes

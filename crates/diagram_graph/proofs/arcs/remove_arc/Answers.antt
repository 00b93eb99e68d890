use Rattle.std.proofs.Common.{List, ℕ, ◌≡◌, ◌∙◌, ap, refl, sym, subst}
use Rattle.std.specs.Prelude.{Contains}
use Rattle.maid_model.specs.Diagrams.{IsDiagram}
use Rattle.maid_model.specs.Edits.{without_arc}
use Rattle.maid_model.specs.Graph.{Arc}
use Rattle.maid_model.specs.Views.{NodeView}
use Rattle.diagram_graph.specs.Edited.{with_nodes}
use Rattle.diagram_graph.proofs.Losing.{less_kept}
use Rattle.diagram_graph.proofs.Members.{member, no_member}
use Rattle.diagram_graph.proofs.arcs.remove_arc.Goals as goal

pub returns-then-not-contains-clause-not_present : goal.returns-then-not-contains-clause-not_present
returns-then-not-contains-clause-not_present c = ((λ _. (λ arc. no_member c.parents.result.now c.args.from c.if-not-contains.ensures.cases (subst (λ (us : List ℕ). Contains us c.args.from) (sym c.parents.ensures.parents) arc))), (λ _. refl))

pub returns-clause-not_present : goal.returns-clause-not_present
returns-clause-not_present c =
    let arc : Arc c.args.diagram.now.nodes c.args.from c.args.to = subst (λ (us : List ℕ). Contains us c.args.from) c.parents.ensures.parents (member c.parents.result.now c.args.from c.if-not-contains.ensures.cases) in
    ((λ e. absurd (let f = e in cc)), (λ lacks. absurd (lacks arc)))

pub returns-clause-less : goal.returns-clause-less
returns-clause-less c =
    let diagram = c.args.diagram.now in
    let nodes : c.drop_arc.new.nodes.items ≡ without_arc diagram.nodes c.args.from c.args.to = c.drop_arc.ensures ∙ ap (λ ns. without_arc ns c.args.from c.args.to) c.in_ok-nodes.ensures in
    c.in_ok-with_nodes.ensures ∙ ap (λ ns. with_nodes diagram ns) nodes

pub with_nodes-requires : goal.with_nodes-requires
with_nodes-requires c =
    let diagram = c.args.diagram.now in
    let is_diagram = c.parents.ensures.diagram in
    let kept = c.arc_removed.ensures.kept diagram.nodes c.args.from c.args.to is_diagram.graph is_diagram.tables c.requires in
    let nodes : c.drop_arc.new.nodes.items ≡ without_arc diagram.nodes c.args.from c.args.to = c.drop_arc.ensures ∙ ap (λ ns. without_arc ns c.args.from c.args.to) c.in_ok-nodes.ensures in
    subst (λ (ns : List NodeView). IsDiagram (with_nodes diagram ns)) (sym nodes) (less_kept diagram.nodes c.args.from c.args.to c.requires diagram.agents diagram.decimals kept.0 is_diagram)

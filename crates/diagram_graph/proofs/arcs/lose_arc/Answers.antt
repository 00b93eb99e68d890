use Rattle.std.proofs.Common.{◌≡◌, ◌<◌, ◌∙◌, List, length, ap, sym, subst}
use Rattle.std.proofs.lemmas.Result.{IfOk-weaker}
use Rattle.maid_model.specs.Edits.{without_arc}
use Rattle.maid_model.specs.Views.{NodeView, diagram_of}
use Rattle.diagram_graph.specs.Edited.{IsWithNodes}
use Rattle.diagram_graph.proofs.Losing.{less_kept}
use Rattle.diagram_graph.proofs.arcs.lose_arc.Goals as goal

pub drop_arc-requires : goal.drop_arc-requires
drop_arc-requires c = subst (λ (ns : List NodeView). c.args.to < length ns) (sym c.into_nodes-nodes.ensures.nodes) c.requires.decision.within

pub from_nodes-requires : goal.from_nodes-requires
from_nodes-requires c =
    let diagram = c.args.diagram in
    let is_diagram = c.into_nodes-nodes.ensures.diagram in
    let kept = c.arc_removed.ensures.kept diagram.nodes c.args.from c.args.to is_diagram.graph is_diagram.tables c.requires.decision in
    let nodes : c.drop_arc.new.nodes.items ≡ without_arc diagram.nodes c.args.from c.args.to = c.drop_arc.ensures ∙ ap (λ ns. without_arc ns c.args.from c.args.to) c.into_nodes-nodes.ensures.nodes in
    rw (nodes, c.agents-agents.ensures.agents, c.decimals-decimals.ensures.decimals) (less_kept diagram.nodes c.args.from c.args.to c.requires.decision diagram.agents diagram.decimals kept.0 is_diagram)

pub returns : goal.returns
returns c =
    let diagram = c.args.diagram in
    let nodes : c.drop_arc.new.nodes.items ≡ without_arc diagram.nodes c.args.from c.args.to = c.drop_arc.ensures ∙ ap (λ ns. without_arc ns c.args.from c.args.to) c.into_nodes-nodes.ensures.nodes in
    IfOk-weaker c.from_nodes.result (λ d. d ≡ diagram_of c.drop_arc.new.nodes.items c.agents-agents.result c.decimals-decimals.result) (IsWithNodes diagram (without_arc diagram.nodes c.args.from c.args.to))
    (λ d is. is ∙ (λ i. diagram_of (nodes i) (c.agents-agents.ensures.agents i) (c.decimals-decimals.ensures.decimals i))) c.from_nodes.ensures

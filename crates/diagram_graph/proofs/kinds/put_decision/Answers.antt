use Rattle.std.proofs.Common.{◌≤◌, refl, sym, subst, ap, arith}
use Rattle.maid_model.specs.declared.limits.TheConstants.{MOST_RULE_CELLS}
use Rattle.maid_model.specs.Diagrams.{IsDiagram}
use Rattle.maid_model.specs.Edits.{AreAlike, as_decision, with_node}
use Rattle.maid_model.specs.Nodes.{is_utility, node_at}
use Rattle.diagram_graph.specs.Room.{rule_cells}
use Rattle.diagram_graph.proofs.Deciding.{chance_within, made_kept}
use Rattle.diagram_graph.proofs.kinds.put_decision.Goals as goal

pub decision_node-requires : goal.decision_node-requires
decision_node-requires c = chance_within c.args.diagram.now.nodes c.args.node c.requires.chance

pub exchange-requires-clause-within : goal.exchange-requires-clause-within
exchange-requires-clause-within c = chance_within c.args.diagram.now.nodes c.args.node c.requires.chance

pub exchange-requires-clause-alike : goal.exchange-requires-clause-alike
exchange-requires-clause-alike c =
    let nodes = c.args.diagram.now.nodes in
    subst (AreAlike (node_at nodes c.args.node)) (sym c.in_ok-made.ensures)
    (record { states = refl; utilities = sym (ap is_utility c.requires.chance) })

pub exchange-requires-clause-diagram : goal.exchange-requires-clause-diagram
exchange-requires-clause-diagram c =
    let diagram = c.args.diagram.now in
    let x = c.args.node in
    let agent = c.args.agent in
    let is_diagram = c.count-count.ensures.diagram in
    let kept = c.controlled.ensures.kept diagram.nodes agent x is_diagram.graph is_diagram.tables c.requires.chance in
    let fit : rule_cells (as_decision diagram.nodes agent x) ≤ MOST_RULE_CELLS = omega (arith, c.requires.room) in
    subst (λ n. IsDiagram (with_node diagram x n)) (sym c.in_ok-made.ensures)
    (made_kept diagram.nodes agent x c.requires.chance diagram.agents diagram.decimals c.requires.agent kept.0 kept.1 fit is_diagram)

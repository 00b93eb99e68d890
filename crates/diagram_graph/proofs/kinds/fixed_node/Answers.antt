use Rattle.std.proofs.Common.{◌≡◌, ◌∙◌, IfOk, sym, subst}
use Rattle.diagram_graph.proofs.Fixing.{others_fixed, own_fixed}
use Rattle.diagram_graph.proofs.Members.{not_both}
use Rattle.diagram_graph.proofs.kinds.fixed_node.Goals as goal

pub chance_node-requires-clause-fits : goal.chance_node-requires-clause-fits
chance_node-requires-clause-fits c = c.requires.fits

pub chance_node-requires-clause-decision : goal.chance_node-requires-clause-decision
chance_node-requires-clause-decision c = (c.is_others.ensures.0 c.if-is_others.true).0

pub node-requires : goal.node-requires
node-requires c = c.requires.within

pub returns-then-is_others : goal.returns-then-is_others
returns-then-is_others c =
    let others = c.is_others.ensures.0 c.if-is_others.true in
    subst (λ node. IfOk c.chance_node.result (λ made. made ≡ node)) (sym (others_fixed c.args.diagram.now.nodes c.args.agent c.args.answers.now c.args.v others)) c.chance_node.ensures

pub returns-else-is_others : goal.returns-else-is_others
returns-else-is_others c =
    let nodes = c.args.diagram.now.nodes in
    let own = own_fixed nodes c.args.agent c.args.answers.now c.args.v c.requires.within (λ others. not_both (sym c.if-is_others.false ∙ c.is_others.ensures.1 others)) in
    subst (λ node. IfOk c.copy_node.result (λ made. made ≡ node)) (c.node.ensures.node ∙ sym own) c.copy_node.ensures

use Rattle.std.proofs.Common.{All, length, subst, sym, ◌<◌}
use Rattle.app_forms.proofs.Nodes.{relied_within}
use Rattle.app_forms.proofs.forms.graph.push_node.Goals as goal

-- those on which a decision relies are nodes
pub push_decision-requires-clause-relied_on : goal.push_decision-requires-clause-relied_on
push_decision-requires-clause-relied_on c =
    subst (λ n. All (λ e. e < n) c.relied_on.result.now) (sym c.requires.names.nodes)
    (subst (λ xs. All (λ e. e < length c.args.diagram.now.nodes) xs) (sym c.relied_on.ensures) (relied_within c.args.diagram.now.nodes c.args.relevance.now c.args.v c.requires.relevance))

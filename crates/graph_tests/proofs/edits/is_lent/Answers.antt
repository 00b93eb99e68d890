use Rattle.std.proofs.Common.{◌≡◌, ◌∙◌, ◌<◌, false, length, refl, sym, ap, subst, arith}
use Rattle.std.proofs.lemmas.List.{get_or-set_same, set-get_or, set-set}
use Rattle.diagram_graph.specs.Edited.{IsDecidedAt}
use Rattle.maid_model.specs.Diagrams.{IsDiagram}
use Rattle.maid_model.specs.declared.diagrams.Kind.TheVariants.{Chance}
use Rattle.maid_model.specs.Edits.{AreAlike, made_decision, with_node}
use Rattle.maid_model.specs.Nodes.{is_utility, no_node, node_at}
use Rattle.maid_model.specs.Views.{DiagramView, NodeView, diagram_of}
use Rattle.graph_tests.specs.Edits.{example}
use Rattle.graph_tests.proofs.edits.is_lent.Goals as goal

there : (d : DiagramView) → d ≡ example → 1 < length d.nodes
there d is = subst (λ (x : DiagramView). 1 < length x.nodes) (sym is) (omega arith)

alike : (d e : DiagramView) (was : NodeView) → d ≡ example → IsDecidedAt d 1 1 e was → AreAlike (node_at e.nodes 1) was
alike d e was is made =
    subst (λ (x : DiagramView). AreAlike (node_at x.nodes 1) was) (sym made.0)
    (subst (λ n. AreAlike n was) (sym (get_or-set_same d.nodes 1 (made_decision d.nodes 1 1) no_node (there d is)))
    (subst (AreAlike (made_decision d.nodes 1 1)) (sym made.1)
    (record { states = refl; utilities = subst (λ (x : DiagramView). is_utility (node_at x.nodes 1).kind ≡ false) (sym is) refl })))

-- the node is put back
back : (d e : DiagramView) (was : NodeView) → IsDecidedAt d 1 1 e was → with_node e 1 was ≡ d
back d e was made = (λ i. with_node (made.0 i) 1 (made.1 i)) ∙ ap (λ nodes. diagram_of nodes d.agents d.decimals) (set-set d.nodes 1 (made_decision d.nodes 1 1) (node_at d.nodes 1) ∙ set-get_or d.nodes 1 no_node)

pub decide_at-requires-clause-chance : goal.decide_at-requires-clause-chance
decide_at-requires-clause-chance c = subst (λ (d : DiagramView). (node_at d.nodes 1).kind ≡ Chance) (sym c.in_ok-whole.ensures) refl

pub exchange-requires-clause-alike : goal.exchange-requires-clause-alike
exchange-requires-clause-alike c = alike c.in_ok-whole.whole _ c.in_ok-lent.lent c.in_ok-whole.ensures c.in_ok-lent.ensures.made

pub exchange-requires-clause-diagram : goal.exchange-requires-clause-diagram
exchange-requires-clause-diagram c = subst IsDiagram (sym (back c.in_ok-whole.whole _ c.in_ok-lent.lent c.in_ok-lent.ensures.made)) c.count-count.ensures.diagram

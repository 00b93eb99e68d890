use Rattle.std.proofs.lemmas.List.{length-map, length-replicate}
use Rattle.std.proofs.lemmas.Result.{IfOk-from_err}
use Rattle.std.proofs.Common.{ap, Bool, true, List, ◌<◌, length, map, sym, subst, ◌∙◌}
use Rattle.maid_model.specs.Graph.{Arc}
use Rattle.maid_model.specs.Views.{NodeView}
use Rattle.diagram_graph.specs.Needs.{IsMarkedIn, NeedsItem}
use Rattle.diagram_graph.specs.Placed.{IsPlacingOf, IsOrderOf, IsCycleOf}
use Rattle.diagram_graph.proofs.Orders.{all_in, order_same, needs_parents, ring_leads_back}
use Rattle.diagram_graph.proofs.cycles.topological.Goals as goal

pub place_all-requires-clause-needs : goal.place_all-requires-clause-needs
place_all-requires-clause-needs c v e h =
    (all_in _ c.deref.result.now (c.deref.ensures.value ∙ c.in_ok-nodes.ensures.items_if_clones_equal (λ y e. e)) e).1
    (subst (λ n. e < n) (sym c.count.ensures.count) (c.count.ensures.diagram.graph.parents_known e v ((needs_parents c.args.diagram.now.nodes v e).0 h)))

pub unreachable-requires : goal.unreachable-requires
unreachable-requires c =
    let nodes = c.args.diagram.now.nodes in
    let lists = map (λ (node : NodeView). node.parents) nodes in
    let cycle : IsCycleOf lists c.deref.result.now c.in-Cycle.field-0.items = subst (λ p. IsPlacingOf lists c.deref.result.now p) c.in-Cycle.is c.in_ok-order.ensures in
    ring_leads_back (Arc nodes) (NeedsItem lists) (λ v e. (needs_parents nodes v e).0) _ cycle.ring c.count.ensures.diagram.graph.acyclic

pub returns : goal.returns
returns c =
    let nodes = c.args.diagram.now.nodes in
    let marks = c.deref.result.now in
    let lists = map (λ (node : NodeView). node.parents) nodes in
    let order : IsOrderOf lists marks c.in-Order.order.items = subst (λ p. IsPlacingOf lists marks p) c.in-Order.is c.in_ok-order.ensures in
    order_same (IsMarkedIn marks) (λ v. v < length nodes) (NeedsItem lists) (λ v p. Arc nodes p v)
    (λ v. rw (← c.count.ensures.count) (all_in _ marks (c.deref.ensures.value ∙ c.in_ok-nodes.ensures.items_if_clones_equal (λ y e. e)) v))
    (needs_parents nodes) c.in-Order.order.items order

pub returns-in_err-nodes : goal.returns-in_err-nodes
returns-in_err-nodes c = IfOk-from_err _ _ c.from_residual.ensures.0

pub returns-in_err-order : goal.returns-in_err-order
returns-in_err-order c = IfOk-from_err _ _ c.from_residual-in_err-order.ensures.0

pub place_all-requires-clause-items_len : goal.place_all-requires-clause-items_len
place_all-requires-clause-items_len c =
    let marks = c.deref.ensures.value ∙ c.in_ok-nodes.ensures.items_if_clones_equal (λ y e. e) in
    ap (λ (xs : List Bool). length xs) marks ∙ length-replicate c.count.result true ∙ c.count.ensures.count ∙ sym (length-map c.args.diagram.now.nodes (λ (node : NodeView). node.parents))

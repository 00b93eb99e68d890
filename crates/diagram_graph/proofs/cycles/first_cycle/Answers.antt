use Rattle.std.proofs.lemmas.Result.{IfOk-from_err}
use Rattle.std.proofs.Common.{ap, sym, Bool, true, List, ◌<◌, length, subst, ◌∙◌}
use Rattle.std.proofs.lemmas.List.{length-map, length-replicate}
use Rattle.diagram_graph.specs.Needs.{IsMarkedIn}
use Rattle.diagram_graph.specs.Cycles.{lists_in}
use Rattle.diagram_graph.specs.Placed.{IsPlacingOf, IsOrderOf, IsCycleOf}
use Rattle.diagram_graph.proofs.Orders.{all_in, order_same, order_no_cycle, first_cycle_same}
use Rattle.diagram_graph.proofs.cycles.first_cycle.Goals as goal

pub place_all-requires-clause-needs : goal.place_all-requires-clause-needs
place_all-requires-clause-needs c v e h =
    (all_in _ c.deref.result.now (c.deref.ensures.value ∙ c.in_ok-nodes.ensures.items_if_clones_equal (λ y e. e)) e).1 (c.requires e v h)

pub returns-in-Order-clause-cycle : goal.returns-in-Order-clause-cycle
returns-in-Order-clause-cycle c =
    let lists = lists_in c.args.parents.now in
    let marks = c.deref.result.now in
    let order : IsOrderOf lists marks c.in-Order.field-0.items = subst (λ p. IsPlacingOf lists marks p) c.in-Order.is c.in_ok-place_all.ensures in
    order_no_cycle lists c.in-Order.field-0.items
    (order_same (IsMarkedIn marks) (λ v. v < length lists) _ _
    (λ v. rw (length-map c.args.parents.now (λ row. row.items)) (all_in _ marks (c.deref.ensures.value ∙ c.in_ok-nodes.ensures.items_if_clones_equal (λ y e. e)) v))
    (λ v e. ((λ x. x), (λ x. x))) c.in-Order.field-0.items order)

pub returns-clause-cycle : goal.returns-clause-cycle
returns-clause-cycle c =
    let lists = lists_in c.args.parents.now in
    let marks = c.deref.result.now in
    let cycle : IsCycleOf lists marks c.in-Cycle.cycle.items = subst (λ p. IsPlacingOf lists marks p) c.in-Cycle.is c.in_ok-place_all.ensures in
    first_cycle_same (IsMarkedIn marks) (λ v. v < length lists) lists
    (λ v. rw (length-map c.args.parents.now (λ row. row.items)) (all_in _ marks (c.deref.ensures.value ∙ c.in_ok-nodes.ensures.items_if_clones_equal (λ y e. e)) v))
    _ cycle.first

pub returns-in-Order-clause-ring : goal.returns-in-Order-clause-ring
returns-in-Order-clause-ring c = tt

pub returns-clause-ring : goal.returns-clause-ring
returns-clause-ring c =
    let cycle : IsCycleOf (lists_in c.args.parents.now) c.deref.result.now c.in-Cycle.cycle.items = subst (λ p. IsPlacingOf (lists_in c.args.parents.now) c.deref.result.now p) c.in-Cycle.is c.in_ok-place_all.ensures in
    cycle.ring

pub returns-in_err-nodes-clause-cycle : goal.returns-in_err-nodes-clause-cycle
returns-in_err-nodes-clause-cycle c = IfOk-from_err _ _ c.from_residual.ensures.0

pub returns-in_err-nodes-clause-ring : goal.returns-in_err-nodes-clause-ring
returns-in_err-nodes-clause-ring c = IfOk-from_err _ _ c.from_residual.ensures.0

pub returns-in_err-place_all-clause-cycle : goal.returns-in_err-place_all-clause-cycle
returns-in_err-place_all-clause-cycle c = IfOk-from_err _ _ c.from_residual-in_err-place_all.ensures.0

pub returns-in_err-place_all-clause-ring : goal.returns-in_err-place_all-clause-ring
returns-in_err-place_all-clause-ring c = IfOk-from_err _ _ c.from_residual-in_err-place_all.ensures.0

pub place_all-requires-clause-items_len : goal.place_all-requires-clause-items_len
place_all-requires-clause-items_len c =
    let marks = c.deref.ensures.value ∙ c.in_ok-nodes.ensures.items_if_clones_equal (λ y e. e) in
    ap (λ (xs : List Bool). length xs) marks ∙ length-replicate (length c.args.parents.now) true ∙ sym (length-map c.args.parents.now (λ row. row.items))

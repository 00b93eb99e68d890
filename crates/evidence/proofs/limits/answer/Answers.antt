use Rattle.evidence.specs.Faults.{answer_pass, impossible_pass, limits_pass}
use Rattle.rule_solver.specs.Faults.{cycle_pass}
use Rattle.evidence.proofs.HandedOn.{out_of_memory, solver_on}
use Rattle.std.proofs.Common.{inl, sym, subst}
use Rattle.maid_model.specs.Placing.{IsRelianceCycle, IsRelianceOrder}
use Rattle.relevance_graph.specs.Relevant.{IsBlockedBy, IsOutcome}
use Rattle.evidence.proofs.limits.answer.Goals as goal

-- the relevance graph tells the cycle, and that there is no order
pub returns-clause-rows : goal.returns-clause-rows
returns-clause-rows c =
    let nodes = c.args.diagram.now.nodes in
    let blocked : IsBlockedBy nodes c.in-Err.cycle.now = subst (IsOutcome nodes) c.in-Err.ensures c.in_ok-relevance.ensures.outcome in
    inl (inl (λ o. blocked.no_order o.0 o.1, subst (IsRelianceCycle nodes) (sym c.in_ok-from_slice-in-Err.ensures.items) blocked.is_cycle))

pub returns-in_err-relevance-clause-rows : goal.returns-in_err-relevance-clause-rows
returns-in_err-relevance-clause-rows c = out_of_memory (answer_pass c.args.diagram.now c.args.node c.args.state) _ c.from_residual.ensures

pub answer_ordered-requires-clause-order : goal.answer_ordered-requires-clause-order
answer_ordered-requires-clause-order c = subst (IsOutcome c.args.diagram.now.nodes) c.in-Ok.ensures c.in_ok-relevance.ensures.outcome

pub returns-in-Ok-clause-rows : goal.returns-in-Ok-clause-rows
returns-in-Ok-clause-rows c =
    let order : IsRelianceOrder c.args.diagram.now.nodes c.in-Ok.order.now = subst (IsOutcome c.args.diagram.now.nodes) c.in-Ok.ensures c.in_ok-relevance.ensures.outcome in
    solver_on (cycle_pass c.args.diagram.now) (limits_pass c.args.diagram.now c.args.node) (impossible_pass c.args.diagram.now c.args.node c.args.state) c.answer_ordered.result (c.in-Ok.order.now, order) c.answer_ordered.ensures.rows

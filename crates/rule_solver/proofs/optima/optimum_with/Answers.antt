use Rattle.std.proofs.Common.{inl, sym, subst}
use Rattle.maid_model.specs.Placing.{IsRelianceCycle}
use Rattle.relevance_graph.specs.Relevant.{IsBlockedBy, IsOutcome}
use Rattle.rule_solver.proofs.optima.optimum_with.Goals as goal

-- the relevance graph tells the cycle, and that there is no order
pub returns-clause-rows : goal.returns-clause-rows
returns-clause-rows c =
    let nodes = c.args.diagram.now.nodes in
    let blocked : IsBlockedBy nodes c.in-Err.cycle.now = subst (IsOutcome nodes) c.in-Err.ensures c.in_ok-relevance.ensures.outcome in
    inl (λ o. blocked.no_order o.0 o.1, subst (IsRelianceCycle nodes) (sym c.in_ok-from_slice-in-Err.ensures.items) blocked.is_cycle)

pub find_by-requires : goal.find_by-requires
find_by-requires c = c.requires.kept

pub optimum_ordered-requires-clause-relevance : goal.optimum_ordered-requires-clause-relevance
optimum_ordered-requires-clause-relevance c = c.in_ok-relevance.ensures

pub optimum_ordered-requires-clause-order : goal.optimum_ordered-requires-clause-order
optimum_ordered-requires-clause-order c = subst (IsOutcome c.args.diagram.now.nodes) c.in-Ok.ensures c.in_ok-relevance.ensures.outcome

pub optimum_ordered-requires-clause-kept : goal.optimum_ordered-requires-clause-kept
optimum_ordered-requires-clause-kept c = c.requires.kept

pub optimum_ordered-requires-clause-left : goal.optimum_ordered-requires-clause-left
optimum_ordered-requires-clause-left c = c.requires.left

pub returns-in-Ok-clause-rows : goal.returns-in-Ok-clause-rows
returns-in-Ok-clause-rows c = c.optimum_ordered.ensures.rows

pub returns-in-Ok-clause-optimum : goal.returns-in-Ok-clause-optimum
returns-in-Ok-clause-optimum c = c.optimum_ordered.ensures.ok

pub returns-in-Ok-clause-left : goal.returns-in-Ok-clause-left
returns-in-Ok-clause-left c = c.optimum_ordered.ensures.left

pub returns-in_err-from_slice-in-Err-clause-left : goal.returns-in_err-from_slice-in-Err-clause-left
returns-in_err-from_slice-in-Err-clause-left c = c.requires.left

pub returns-clause-optimum : goal.returns-clause-optimum
returns-clause-optimum c = tt

pub returns-clause-left : goal.returns-clause-left
returns-clause-left c = c.requires.left

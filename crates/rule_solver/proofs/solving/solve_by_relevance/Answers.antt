use Rattle.std.proofs.Common.{ℕ, inl, sym, subst}
use Rattle.maid_model.specs.Answers.{KeepsWorth, answered}
use Rattle.maid_model.specs.Placing.{IsRelianceCycle}
use Rattle.maid_model.specs.Subgames.{IsOptimal, IsSubgamePerfect, OwnsAll}
use Rattle.maid_model.specs.Values.{PrintsOptima}
use Rattle.relevance_graph.specs.Relevant.{IsBlockedBy, IsOutcome}
use Rattle.rule_solver.proofs.Promises.{both}
use Rattle.rule_solver.proofs.solving.solve_by_relevance.Goals as goal

-- each law holds of an answer of a diagram
pub returns-in-Ok-clause-subgame_perfect : goal.returns-in-Ok-clause-subgame_perfect
returns-in-Ok-clause-subgame_perfect c =
    both c.args.diagram.now c.solve_ordered.result (λ solved. IsSubgamePerfect c.args.diagram.now.nodes (answered c.args.diagram.now solved))
    (λ solved d h. c.answers_are_subgame_perfect.ensures.law c.args.diagram.now solved d.graph d.tables h) c.solve_ordered.ensures.diagram c.solve_ordered.ensures.ok

pub returns-in-Ok-clause-optimal : goal.returns-in-Ok-clause-optimal
returns-in-Ok-clause-optimal c =
    both c.args.diagram.now c.solve_ordered.result (λ solved. (agent : ℕ) → OwnsAll c.args.diagram.now.nodes agent → IsOptimal c.args.diagram.now.nodes (answered c.args.diagram.now solved) agent)
    (λ solved d h agent owns. c.answers_are_optimal.ensures.law c.args.diagram.now solved agent d.graph d.tables h owns) c.solve_ordered.ensures.diagram c.solve_ordered.ensures.ok

pub returns-in-Ok-clause-optimum : goal.returns-in-Ok-clause-optimum
returns-in-Ok-clause-optimum c =
    both c.args.diagram.now c.solve_ordered.result (PrintsOptima c.args.diagram.now)
    (λ solved d h. c.gains_are_optima.ensures.law c.args.diagram.now solved d.graph d.tables h) c.solve_ordered.ensures.diagram c.solve_ordered.ensures.ok

pub returns-in-Ok-clause-worth : goal.returns-in-Ok-clause-worth
returns-in-Ok-clause-worth c =
    both c.args.diagram.now c.solve_ordered.result (KeepsWorth c.args.diagram.now)
    (λ solved d h. c.worth_under_the_profile.ensures.answer c.args.diagram.now solved d.graph d.tables h) c.solve_ordered.ensures.diagram c.solve_ordered.ensures.ok

-- the relevance graph tells the cycle, and that there is no order
pub returns-in_ok-from_slice-in-Err-clause-rows : goal.returns-in_ok-from_slice-in-Err-clause-rows
returns-in_ok-from_slice-in-Err-clause-rows c =
    let nodes = c.args.diagram.now.nodes in
    let blocked : IsBlockedBy nodes c.in-Err.cycle.now = subst (IsOutcome nodes) c.in-Err.ensures c.requires.outcome in
    inl (λ o. blocked.no_order o.0 o.1, subst (IsRelianceCycle nodes) (sym c.in_ok-from_slice-in-Err.ensures.items) blocked.is_cycle)

pub solve_ordered-requires-clause-relevance : goal.solve_ordered-requires-clause-relevance
solve_ordered-requires-clause-relevance c = c.requires

pub solve_ordered-requires-clause-order : goal.solve_ordered-requires-clause-order
solve_ordered-requires-clause-order c = subst (IsOutcome c.args.diagram.now.nodes) c.in-Ok.ensures c.requires.outcome

pub returns-in-Ok-clause-rows : goal.returns-in-Ok-clause-rows
returns-in-Ok-clause-rows c = c.solve_ordered.ensures.rows

pub returns-in-Ok-clause-ok : goal.returns-in-Ok-clause-ok
returns-in-Ok-clause-ok c = c.solve_ordered.ensures.ok

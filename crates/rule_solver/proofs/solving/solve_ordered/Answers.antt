use Rattle.rule_solver.proofs.solving.solve_ordered.Goals as goal

pub keep_sizes-requires-clause-order : goal.keep_sizes-requires-clause-order
keep_sizes-requires-clause-order c = c.requires.order

pub solve_along-requires-clause-bound : goal.solve_along-requires-clause-bound
solve_along-requires-clause-bound c = c.in_ok-keep_bound.ensures.rows

pub solve_along-requires-clause-relevance : goal.solve_along-requires-clause-relevance
solve_along-requires-clause-relevance c = c.requires.relevance

pub solve_along-requires-clause-order : goal.solve_along-requires-clause-order
solve_along-requires-clause-order c = c.requires.order

pub solve_along-requires-clause-plans : goal.solve_along-requires-clause-plans
solve_along-requires-clause-plans c = c.in_ok-run.ensures.plans

pub solve_along-requires-clause-worths : goal.solve_along-requires-clause-worths
solve_along-requires-clause-worths c = c.in_ok-run.ensures.worths

pub solve_along-requires-clause-room : goal.solve_along-requires-clause-room
solve_along-requires-clause-room c = c.in_ok-run.ensures.room

pub solve_along-requires-clause-limit : goal.solve_along-requires-clause-limit
solve_along-requires-clause-limit c = c.in_ok-run.ensures.limit

pub returns-clause-rows : goal.returns-clause-rows
returns-clause-rows c = ((c.args.order.now, c.requires.order), (c.in_ok-keep_bound.ensures.rows, c.in_ok-run.ensures.rows))

pub returns-clause-ok : goal.returns-clause-ok
returns-clause-ok c = c.in_ok-solve_along.ensures

pub returns-clause-diagram : goal.returns-clause-diagram
returns-clause-diagram c = c.keep_bound.ensures.diagram

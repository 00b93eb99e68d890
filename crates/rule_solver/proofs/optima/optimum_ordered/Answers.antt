-- What the run asks for is asked here, or told of its plans.
use Rattle.rule_solver.proofs.optima.optimum_ordered.Goals as goal

pub keep_sizes-requires-clause-order : goal.keep_sizes-requires-clause-order
keep_sizes-requires-clause-order c = c.requires.order

pub keep_sizes-requires-clause-kept : goal.keep_sizes-requires-clause-kept
keep_sizes-requires-clause-kept c = c.requires.kept

pub optimum_along-requires-clause-alone : goal.optimum_along-requires-clause-alone
optimum_along-requires-clause-alone c = c.requires.alone

pub optimum_along-requires-clause-within : goal.optimum_along-requires-clause-within
optimum_along-requires-clause-within c = c.requires.within

pub optimum_along-requires-clause-relevance : goal.optimum_along-requires-clause-relevance
optimum_along-requires-clause-relevance c = c.requires.relevance

pub optimum_along-requires-clause-order : goal.optimum_along-requires-clause-order
optimum_along-requires-clause-order c = c.requires.order

pub optimum_along-requires-clause-left : goal.optimum_along-requires-clause-left
optimum_along-requires-clause-left c = c.requires.left

pub optimum_along-requires-clause-plans : goal.optimum_along-requires-clause-plans
optimum_along-requires-clause-plans c = c.in_ok-run.ensures.plans

pub optimum_along-requires-clause-worths : goal.optimum_along-requires-clause-worths
optimum_along-requires-clause-worths c = c.in_ok-run.ensures.worths

pub optimum_along-requires-clause-room : goal.optimum_along-requires-clause-room
optimum_along-requires-clause-room c = c.in_ok-run.ensures.room

pub optimum_along-requires-clause-limit : goal.optimum_along-requires-clause-limit
optimum_along-requires-clause-limit c = c.in_ok-run.ensures.limit

pub returns-in_err-keep_bound-clause-left : goal.returns-in_err-keep_bound-clause-left
returns-in_err-keep_bound-clause-left c = c.requires.left

pub returns-in_err-run-clause-left : goal.returns-in_err-run-clause-left
returns-in_err-run-clause-left c = c.requires.left

pub optimum_along-requires-clause-bound : goal.optimum_along-requires-clause-bound
optimum_along-requires-clause-bound c = c.in_ok-keep_bound.ensures.rows

pub returns-in_err-optimum_along-clause-left : goal.returns-in_err-optimum_along-clause-left
returns-in_err-optimum_along-clause-left c = c.optimum_along.ensures.left

pub returns-clause-rows : goal.returns-clause-rows
returns-clause-rows c = ((c.args.order.now, c.requires.order), (c.in_ok-keep_bound.ensures.rows, c.in_ok-run.ensures.rows))

pub returns-clause-ok : goal.returns-clause-ok
returns-clause-ok c = c.in_ok-optimum_along.ensures.optimum

pub returns-clause-left : goal.returns-clause-left
returns-clause-left c = c.optimum_along.ensures.left

-- Each limit refuses first or is kept.
use Rattle.evidence.specs.Faults.{further_pass, given_size_pass}
use Rattle.rule_solver.specs.Faults.{bound_pass, solve_fault}
use Rattle.first_fault.specs.Passes.{◌▸◌}
use Rattle.first_fault.proofs.Leading.{passes_on}
use Rattle.evidence.proofs.HandedOn.{first_fault}
use Rattle.evidence.proofs.limits.keep_limits.Goals as goal

pub returns-in_err-keep_bound-clause-rows : goal.returns-in_err-keep_bound-clause-rows
returns-in_err-keep_bound-clause-rows c = first_fault solve_fault (bound_pass c.args.diagram.now) (further_pass c.args.diagram.now c.args.node ▸ given_size_pass c.args.diagram.now c.args.node) _ _ c.in_err-keep_bound.ensures.rows c.from_residual.ensures

pub returns-in_err-keep_bound_given-clause-rows : goal.returns-in_err-keep_bound_given-clause-rows
returns-in_err-keep_bound_given-clause-rows c =
    passes_on solve_fault (bound_pass c.args.diagram.now) (further_pass c.args.diagram.now c.args.node ▸ given_size_pass c.args.diagram.now c.args.node) _ c.in_ok-keep_bound.ensures.rows (first_fault solve_fault (further_pass c.args.diagram.now c.args.node) (given_size_pass c.args.diagram.now c.args.node) _ _ c.in_err-keep_bound_given.ensures c.from_residual-in_err-keep_bound_given.ensures)

pub returns-clause-rows : goal.returns-clause-rows
returns-clause-rows c =
    passes_on solve_fault (bound_pass c.args.diagram.now) (further_pass c.args.diagram.now c.args.node ▸ given_size_pass c.args.diagram.now c.args.node) _ c.in_ok-keep_bound.ensures.rows
    (passes_on solve_fault (further_pass c.args.diagram.now c.args.node) (given_size_pass c.args.diagram.now c.args.node) _ c.in_ok-keep_bound_given.ensures c.keep_sizes.ensures.rows)

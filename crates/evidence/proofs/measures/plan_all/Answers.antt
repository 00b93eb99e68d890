use Rattle.size_precheck.specs.Sizes.{IsSizeOfAll, run_plans, utility_list}
use Rattle.std.proofs.lemmas.List.{append_assoc}
use Rattle.std.proofs.lemmas.Result.{IfOk-from_err}
use Rattle.std.proofs.Common.{[], ◌∷◌, ◌++◌, None, Some, map, subst}
use Rattle.evidence.specs.Sizes.{plan_given}
use Rattle.evidence.proofs.Measured.{size_few, size_push}
use Rattle.evidence.proofs.measures.plan_all.Goals as goal

pub plan_run_by-requires-clause-planner : goal.plan_run_by-requires-clause-planner
plan_run_by-requires-clause-planner c = c.in_ok-planner.ensures.planner

pub add_plan-requires-clause-planner : goal.add_plan-requires-clause-planner
add_plan-requires-clause-planner c = c.in_ok-planner.ensures.planner

pub add_utilities-requires-clause-planner : goal.add_utilities-requires-clause-planner
add_utilities-requires-clause-planner c = c.in_ok-planner.ensures.planner

pub plan_run_by-requires-clause-order : goal.plan_run_by-requires-clause-order
plan_run_by-requires-clause-order c = c.orders_list_decisions.ensures c.args.diagram.now.nodes c.args.order.now c.requires.order

pub returns-in_err-run-clause-plans : goal.returns-in_err-run-clause-plans
returns-in_err-run-clause-plans c = IfOk-from_err _ _ c.from_residual-in_err-run.ensures.0

pub returns-in_err-planner-clause-plans : goal.returns-in_err-planner-clause-plans
returns-in_err-planner-clause-plans c = IfOk-from_err _ _ c.from_residual.ensures.0

pub returns-in_err-run-clause-further : goal.returns-in_err-run-clause-further
returns-in_err-run-clause-further c = IfOk-from_err _ _ c.from_residual-in_err-run.ensures.0

pub returns-in_err-planner-clause-further : goal.returns-in_err-planner-clause-further
returns-in_err-planner-clause-further c = IfOk-from_err _ _ c.from_residual.ensures.0

pub returns-in_err-run-clause-size : goal.returns-in_err-run-clause-size
returns-in_err-run-clause-size c = IfOk-from_err _ _ c.from_residual-in_err-run.ensures.0

pub returns-in_err-planner-clause-size : goal.returns-in_err-planner-clause-size
returns-in_err-planner-clause-size c = IfOk-from_err _ _ c.from_residual.ensures.0

pub returns-in_err-alone-clause-plans : goal.returns-in_err-alone-clause-plans
returns-in_err-alone-clause-plans c = IfOk-from_err _ _ c.from_residual-in_err-alone.ensures.0

pub returns-in_err-alone-clause-further : goal.returns-in_err-alone-clause-further
returns-in_err-alone-clause-further c = IfOk-from_err _ _ c.from_residual-in_err-alone.ensures.0

pub returns-in_err-alone-clause-size : goal.returns-in_err-alone-clause-size
returns-in_err-alone-clause-size c = IfOk-from_err _ _ c.from_residual-in_err-alone.ensures.0

pub returns-in_err-utilities-clause-plans : goal.returns-in_err-utilities-clause-plans
returns-in_err-utilities-clause-plans c = IfOk-from_err _ _ c.from_residual-in_err-utilities.ensures.0

pub returns-in_err-utilities-clause-further : goal.returns-in_err-utilities-clause-further
returns-in_err-utilities-clause-further c = IfOk-from_err _ _ c.from_residual-in_err-utilities.ensures.0

pub returns-in_err-utilities-clause-size : goal.returns-in_err-utilities-clause-size
returns-in_err-utilities-clause-size c = IfOk-from_err _ _ c.from_residual-in_err-utilities.ensures.0

pub add_plan-requires-clause-few : goal.add_plan-requires-clause-few
add_plan-requires-clause-few c = size_few c.args.diagram.now.nodes (run_plans c.args.diagram.now.nodes c.args.order.now) c.in_ok-run.run'.size c.in_ok-run.ensures.size

pub add_utilities-requires-clause-few : goal.add_utilities-requires-clause-few
add_utilities-requires-clause-few c =
    let nodes = c.args.diagram.now.nodes in
    size_few nodes _ c.in_ok-alone.size (size_push nodes (run_plans nodes c.args.order.now) (plan_given c.args.node None) c.in_ok-run.run'.size c.in_ok-alone.size c.in_ok-run.ensures.size c.in_ok-alone.ensures.size)

pub returns-clause-plans : goal.returns-clause-plans
returns-clause-plans c = record { decisions = c.in_ok-run.ensures.plans; worths = c.in_ok-run.ensures.worths }

pub returns-clause-further : goal.returns-clause-further
returns-clause-further c = record { alone = c.in_ok-alone.ensures.plan; utilities = c.in_ok-utilities.ensures.plans }

pub returns-clause-size : goal.returns-clause-size
returns-clause-size c =
    let nodes = c.args.diagram.now.nodes in
    let run = run_plans nodes c.args.order.now in
    let alone = plan_given c.args.node None in
    let utilities = map (λ u. plan_given c.args.node (Some u)) (utility_list nodes) in
    let before = size_push nodes run alone c.in_ok-run.run'.size c.in_ok-alone.size c.in_ok-run.ensures.size c.in_ok-alone.ensures.size in
    subst (λ plans. IsSizeOfAll nodes plans c.in_ok-utilities.size) (append_assoc run (alone ∷ []) utilities) (c.in_ok-utilities.ensures.size (run ++ alone ∷ []) before)

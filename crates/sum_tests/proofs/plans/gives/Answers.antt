-- The diagram, its profile and the plan are those that the contract speaks of.
use Rattle.std.proofs.Common.{sym, subst}
use Rattle.maid_model.specs.Views.{DiagramView}
use Rattle.plan_sums.specs.Plans.{PlanView}
use Rattle.size_precheck.specs.Sizes.{plan_of, CanBePlanned, IsMade}
use Rattle.sum_tests.specs.Example.{example_nodes}
use Rattle.sum_tests.proofs.Samples.{plan_fits}
use Rattle.sum_tests.proofs.plans.gives.Goals as goal

pub make_plan-requires : goal.make_plan-requires
make_plan-requires g c =
    let plan = plan_of c.args.keep.now c.args.without c.args.utility in
    subst (λ (d : DiagramView). CanBePlanned d.nodes plan) (sym c.in_ok-diagram.ensures) c.requires.asked

pub runs_twice-requires-clause-asked : goal.runs_twice-requires-clause-asked
runs_twice-requires-clause-asked g c =
    let asked = subst (λ (p : PlanView). CanBePlanned example_nodes p) (sym c.in_ok-plan.ensures.plan) c.requires.asked in
    subst (λ (d : DiagramView). CanBePlanned d.nodes c.in_ok-plan.plan.plan) (sym c.in_ok-diagram.ensures) asked

pub runs_twice-requires-clause-made : goal.runs_twice-requires-clause-made
runs_twice-requires-clause-made g c =
    let made = c.in_ok-plan.ensures in
    subst (λ (p : PlanView). IsMade c.in_ok-diagram.diagram.nodes p c.in_ok-plan.plan) (sym made.plan) made

pub runs_twice-requires-clause-fits : goal.runs_twice-requires-clause-fits
runs_twice-requires-clause-fits g c =
    plan_fits c.in_ok-diagram.ensures c.in_ok-profile.ensures.rules c.in_ok-plan.ensures.plan c.requires.fits

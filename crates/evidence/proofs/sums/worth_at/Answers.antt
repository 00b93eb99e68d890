use Rattle.std.proofs.Common.{◌∙◌, ◌≤◌, ◌*◌, sym, subst, ap, arith}
use Rattle.std.specs.Int.{w128}
use Rattle.std.proofs.lemmas.Int.{to_z-of_z}
use Rattle.cell_rings.specs.Rings.{most_size}
use Rattle.eliminate.specs.Results.{plan_total}
use Rattle.plan_sums.specs.Plans.{PlanView, gain_cells, plan_sum}
use Rattle.rule_solver.specs.Rooms.{HasCellsAtMost}
use Rattle.size_precheck.specs.Sizes.{IsPlanned}
use Rattle.evidence.proofs.PlanCells.{utility_fits}
use Rattle.evidence.proofs.sums.worth_at.Goals as goal

pub sum_at-requires-clause-keep : goal.sum_at-requires-clause-keep
sum_at-requires-clause-keep c = ap (λ (plan : PlanView). plan.keep) c.requires.planned.made.plan

pub sum_at-requires-clause-planned : goal.sum_at-requires-clause-planned
sum_at-requires-clause-planned c = subst (λ (plan : PlanView). IsPlanned c.args.diagram.now.nodes plan c.args.plan.now) (sym c.requires.planned.made.plan) c.requires.planned

pub sum_at-requires-clause-fits : goal.sum_at-requires-clause-fits
sum_at-requires-clause-fits c =
    let d = c.args.diagram.now in
    subst (λ (plan : PlanView). 2 * plan_total d.nodes c.args.profile.now plan ≤ most_size) (sym c.requires.planned.made.plan)
    (utility_fits d c.args.profile.now c.args.node c.count-count.ensures.diagram c.requires.setting.within c.requires.setting.bounds c.requires.setting.profile c.requires.setting.rules c.args.utility c.requires.within c.requires.kind)

pub sum_at-requires-clause-ready : goal.sum_at-requires-clause-ready
sum_at-requires-clause-ready c =
    let ready = c.requires.ready in
    (ready.0, ready.1, subst (λ (plan : PlanView). HasCellsAtMost c.args.diagram.now.nodes plan ready.0) (sym c.requires.planned.made.plan) ready.2)

pub sum_at-requires-clause-totals : goal.sum_at-requires-clause-totals
sum_at-requires-clause-totals c = c.requires.totals

pub returns-clause-worth : goal.returns-clause-worth
returns-clause-worth c = λ q r at.
    to_z-of_z w128 c.sum_at.result (record { sfits = c.sum_at.type_inv }) ∙ c.sum_at.ensures.sum q r at ∙ ap (λ (plan : PlanView). plan_sum gain_cells c.args.diagram.now.nodes c.args.profile.now plan q) c.requires.planned.made.plan

pub sum_at-requires-clause-within : goal.sum_at-requires-clause-within
sum_at-requires-clause-within c = c.requires.setting.within

pub sum_at-requires-clause-state : goal.sum_at-requires-clause-state
sum_at-requires-clause-state c = omega (arith, c.requires.setting.has_state)

pub sum_at-requires-clause-profile : goal.sum_at-requires-clause-profile
sum_at-requires-clause-profile c = c.requires.setting.profile

pub returns-clause-again : goal.returns-clause-again
returns-clause-again c = c.sum_at.ensures.again

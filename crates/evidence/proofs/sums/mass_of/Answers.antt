use Rattle.std.proofs.Common.{rules, ◌∙◌, ◌≤◌, ◌*◌, FitsSigned, sym, subst, ap, nat_abs}
use Rattle.std.specs.Int.{w128}
use Rattle.std.proofs.lemmas.Int.{to_z-of_z}
use Rattle.cell_rings.specs.Rings.{most_size}
use Rattle.eliminate.specs.Results.{plan_total}
use Rattle.plan_sums.specs.Plans.{PlanView, gain_cells, plan_sum}
use Rattle.rule_solver.specs.Rooms.{HasCellsAtMost}
use Rattle.rule_solver.specs.Totals.{HasTotals}
use Rattle.size_precheck.specs.Sizes.{IsPlanned}
use Rattle.evidence.proofs.PlanCells.{alone_fits, mass_number}
use Rattle.evidence.proofs.Unruled.{mass_is}
use Rattle.evidence.proofs.sums.mass_of.Goals as goal

pub sum_at-sum-requires-clause-keep : goal.sum_at-sum-requires-clause-keep
sum_at-sum-requires-clause-keep c = ap (λ (plan : PlanView). plan.keep) c.requires.planned.made.plan

pub sum_at-sum-requires-clause-planned : goal.sum_at-sum-requires-clause-planned
sum_at-sum-requires-clause-planned c = subst (λ (plan : PlanView). IsPlanned c.args.diagram.now.nodes plan c.args.plan.now) (sym c.requires.planned.made.plan) c.requires.planned

pub sum_at-sum-requires-clause-totals : goal.sum_at-sum-requires-clause-totals
sum_at-sum-requires-clause-totals c = subst (HasTotals c.args.diagram.now.nodes c.in_ok-profile.profile) (sym c.deref.ensures.value) c.in_ok-totals.ensures.totals

-- no rule's total counts in the numbers of the plan
pub sum_at-sum-requires-clause-fits : goal.sum_at-sum-requires-clause-fits
sum_at-sum-requires-clause-fits c =
    let d = c.args.diagram.now in
    let p = c.in_ok-profile.profile in
    subst (λ (plan : PlanView). 2 * plan_total d.nodes p plan ≤ most_size) (sym c.requires.planned.made.plan)
    (alone_fits d p c.args.node c.in_ok-totals.ensures.diagram c.requires.within c.requires.bounds c.requires.evidence)

pub sum_at-sum-requires-clause-ready : goal.sum_at-sum-requires-clause-ready
sum_at-sum-requires-clause-ready c =
    let ready = c.requires.ready in
    (ready.0, ready.1, subst (λ (plan : PlanView). HasCellsAtMost c.args.diagram.now.nodes plan ready.0) (sym c.requires.planned.made.plan) ready.2)

-- the sum under uniform rules is that under all
pub returns-clause-mass : goal.returns-clause-mass
returns-clause-mass c =
    let nodes = c.args.diagram.now.nodes in
    let p = c.in_ok-profile.profile in
    let fits : FitsSigned w128 c.sum_at-sum.result = search rules in
    mass_is nodes c.in_ok-totals.ensures.diagram.graph c.args.node c.requires.evidence p c.args.state c.unsigned_abs.result (λ q r at.
    c.unsigned_abs.ensures.value
    ∙ ap nat_abs (to_z-of_z w128 c.sum_at-sum.result fits ∙ c.sum_at-sum.ensures.sum q r at ∙ ap (λ (plan : PlanView). plan_sum gain_cells nodes p plan q) c.requires.planned.made.plan)
    ∙ mass_number nodes p c.args.node q)

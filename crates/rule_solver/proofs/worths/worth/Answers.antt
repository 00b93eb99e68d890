use Rattle.std.proofs.Common.{FitsSigned, ◌∙◌, ◌*◌, ◌≤◌, sym, subst, refl}
use Rattle.std.specs.Int.{w128}
use Rattle.std.proofs.lemmas.Int.{to_z-of_z}
use Rattle.cell_rings.specs.Rings.{most_size}
use Rattle.eliminate.specs.Results.{plan_total}
use Rattle.plan_sums.specs.Plans.{PlanView, worth_plan}
use Rattle.rule_solver.proofs.Missing.{totals_positive}
use Rattle.rule_solver.proofs.WorthLemmas.{worth_has_room}
use Rattle.rule_solver.proofs.worths.worth.Goals as goal

pub fits_small-requires : goal.fits_small-requires
fits_small-requires c =
    let d = c.args.diagram.now in
    let p = c.args.profile.now in
    record {
      diagram = c.requires.diagram;
      planned = (worth_plan c.args.utility, c.requires.planned);
      some = totals_positive d.nodes p c.args.totals.now c.requires.totals c.requires.diagram.graph c.requires.diagram.tables c.requires.profile;
      fits = (
        p,
        c.requires.totals,
        subst (λ (plan : PlanView). 2 * plan_total d.nodes p plan ≤ most_size) (sym c.requires.planned.made.plan)
            (worth_has_room d p c.requires.diagram c.requires.profile c.requires.rules c.requires.bound c.plans_keep_scopes.ensures.agents c.plans_keep_scopes.ensures.positive c.args.utility c.requires.within c.requires.kind),
      );
    }

pub run_worth-requires-else-fits_small-clause-fits : goal.run_worth-requires-else-fits_small-clause-fits
run_worth-requires-else-fits_small-clause-fits c =
    let d = c.args.diagram.now in
    let p = c.args.profile.now in
    subst (λ (plan : PlanView). 2 * plan_total d.nodes p plan ≤ most_size) (sym c.requires.planned.made.plan)
    (worth_has_room d p c.requires.diagram c.requires.profile c.requires.rules c.requires.bound c.plans_keep_scopes.ensures.agents c.plans_keep_scopes.ensures.positive c.args.utility c.requires.within c.requires.kind)

pub run_worth-requires-clause-profile : goal.run_worth-requires-clause-profile
run_worth-requires-clause-profile c = c.requires.profile

pub run_worth-requires-clause-planned : goal.run_worth-requires-clause-planned
run_worth-requires-clause-planned c = c.requires.planned

pub run_worth-requires-clause-ready : goal.run_worth-requires-clause-ready
run_worth-requires-clause-ready c = (c.requires.ready.0, c.requires.ready.1, c.requires.ready.3)

pub run_worth-requires-clause-fits : goal.run_worth-requires-clause-fits
run_worth-requires-clause-fits c = (c.fits_small.ensures c.args.profile.now c.requires.totals).0 c.if-fits_small.true

pub returns-then-fits_small-clause-worth : goal.returns-then-fits_small-clause-worth
returns-then-fits_small-clause-worth c =
    let fits : FitsSigned w128 c.run_worth.result = record { sfits = c.run_worth.type_inv } in
    λ q i. to_z-of_z w128 c.run_worth.result fits ∙ c.run_worth.ensures.worth q i

pub returns-then-fits_small-clause-again : goal.returns-then-fits_small-clause-again
returns-then-fits_small-clause-again c = (c.run_worth.ensures.again, refl)

pub run_worth-requires-else-fits_small-clause-profile : goal.run_worth-requires-else-fits_small-clause-profile
run_worth-requires-else-fits_small-clause-profile c = c.requires.profile

pub run_worth-requires-else-fits_small-clause-planned : goal.run_worth-requires-else-fits_small-clause-planned
run_worth-requires-else-fits_small-clause-planned c = c.requires.planned

pub run_worth-requires-else-fits_small-clause-ready : goal.run_worth-requires-else-fits_small-clause-ready
run_worth-requires-else-fits_small-clause-ready c = (c.requires.ready.0, c.requires.ready.2, c.requires.ready.3)

pub returns-else-fits_small-clause-worth : goal.returns-else-fits_small-clause-worth
returns-else-fits_small-clause-worth c =
    let fits : FitsSigned w128 c.run_worth-else-fits_small.result = record { sfits = c.run_worth-else-fits_small.type_inv } in
    λ q i. to_z-of_z w128 c.run_worth-else-fits_small.result fits ∙ c.run_worth-else-fits_small.ensures.worth q i

pub returns-else-fits_small-clause-again : goal.returns-else-fits_small-clause-again
returns-else-fits_small-clause-again c = (refl, c.run_worth-else-fits_small.ensures.again)

-- What the plan of the rows lacks of the scope, and in which cells it is run.
use Rattle.std.proofs.Common.{◌≡◌, ◌∙◌, ◌≤◌, sym, subst, refl, arith}
use Rattle.maid_model.specs.Diagrams.{greatest_number}
use Rattle.plan_sums.specs.Plans.{row_plan}
use Rattle.rule_solver.proofs.GoalPlans.{members_are}
use Rattle.rule_solver.proofs.Missing.{totals_positive}
use Rattle.rule_solver.proofs.SettingLemmas.{rows_missing, rows_missing_small, rows_total}
use Rattle.std.proofs.lemmas.Result.{on_ok_weaker}
use Rattle.rule_solver.proofs.decision_sums.Setting.put_rows.Goals as goal

pub product_in-factor-requires-clause-fits : goal.product_in-factor-requires-clause-fits
product_in-factor-requires-clause-fits c =
    subst (λ n. n ≤ greatest_number)
    (sym (rows_missing c.args.self.now.diagram.now c.args.self.now.base.now c.args.self.now.decision c.args.self.now.totals.now c.args.self.now.scope c.requires.setting c.plans_keep_scopes.ensures.decisions c.plans_keep_scopes.ensures.positive c.args.plan.now.plan c.requires.planned.made.plan c.members.result c.difference-left.result c.remove.new.self (members_are c.args.self.now.diagram.now.nodes (row_plan c.args.self.now.diagram.now.nodes c.args.self.now.decision) c.args.plan.now c.requires.planned c.members.result c.members.ensures) c.difference-left.ensures c.remove.ensures))
    (rows_missing_small c.args.self.now.diagram.now c.args.self.now.base.now c.args.self.now.decision c.args.self.now.totals.now c.args.self.now.scope c.requires.setting c.plans_keep_scopes.ensures.decisions c.plans_keep_scopes.ensures.positive c.args.plan.now.plan c.requires.planned.made.plan)

pub fits_small-requires : goal.fits_small-requires
fits_small-requires c =
    let s = c.requires.setting in
    record {
      diagram = s.is_diagram;
      planned = (row_plan c.args.self.now.diagram.now.nodes c.args.self.now.decision, c.requires.planned);
      some = totals_positive c.args.self.now.diagram.now.nodes c.args.self.now.base.now c.args.self.now.totals.now s.has_totals s.is_diagram.graph s.is_diagram.tables s.profile;
      fits = (c.args.self.now.base.now, s.has_totals, rows_total c.args.self.now.diagram.now c.args.self.now.base.now c.args.self.now.decision c.args.self.now.totals.now c.args.self.now.scope c.requires.setting c.plans_keep_scopes.ensures.decisions c.plans_keep_scopes.ensures.positive c.args.plan.now.plan c.requires.planned.made.plan);
    }

pub run_rows-requires-clause-factor : goal.run_rows-requires-clause-factor
run_rows-requires-clause-factor c = c.product_in-factor.ensures ∙ (rows_missing c.args.self.now.diagram.now c.args.self.now.base.now c.args.self.now.decision c.args.self.now.totals.now c.args.self.now.scope c.requires.setting c.plans_keep_scopes.ensures.decisions c.plans_keep_scopes.ensures.positive c.args.plan.now.plan c.requires.planned.made.plan c.members.result c.difference-left.result c.remove.new.self (members_are c.args.self.now.diagram.now.nodes (row_plan c.args.self.now.diagram.now.nodes c.args.self.now.decision) c.args.plan.now c.requires.planned c.members.result c.members.ensures) c.difference-left.ensures c.remove.ensures)

pub run_rows-requires-else-fits_small-clause-factor : goal.run_rows-requires-else-fits_small-clause-factor
run_rows-requires-else-fits_small-clause-factor c = c.product_in-factor.ensures ∙ (rows_missing c.args.self.now.diagram.now c.args.self.now.base.now c.args.self.now.decision c.args.self.now.totals.now c.args.self.now.scope c.requires.setting c.plans_keep_scopes.ensures.decisions c.plans_keep_scopes.ensures.positive c.args.plan.now.plan c.requires.planned.made.plan c.members.result c.difference-left.result c.remove.new.self (members_are c.args.self.now.diagram.now.nodes (row_plan c.args.self.now.diagram.now.nodes c.args.self.now.decision) c.args.plan.now c.requires.planned c.members.result c.members.ensures) c.difference-left.ensures c.remove.ensures)

pub run_rows-requires-else-fits_small-clause-fits : goal.run_rows-requires-else-fits_small-clause-fits
run_rows-requires-else-fits_small-clause-fits c = rows_total c.args.self.now.diagram.now c.args.self.now.base.now c.args.self.now.decision c.args.self.now.totals.now c.args.self.now.scope c.requires.setting c.plans_keep_scopes.ensures.decisions c.plans_keep_scopes.ensures.positive c.args.plan.now.plan c.requires.planned.made.plan

pub remove-requires : goal.remove-requires
remove-requires c = omega (arith, c.requires.setting.is_decision.within, c.requires.setting.is_diagram.limits.nodes)

pub product_in-factor-requires-clause-few : goal.product_in-factor-requires-clause-few
product_in-factor-requires-clause-few c = omega (arith, c.requires.setting.has_totals.count, c.requires.setting.is_diagram.limits.nodes)

pub product_in-factor-requires-clause-some : goal.product_in-factor-requires-clause-some
product_in-factor-requires-clause-some c =
    totals_positive c.args.self.now.diagram.now.nodes c.args.self.now.base.now c.args.self.now.totals.now c.requires.setting.has_totals c.requires.setting.is_diagram.graph c.requires.setting.is_diagram.tables c.requires.setting.profile

pub run_rows-requires-clause-setting : goal.run_rows-requires-clause-setting
run_rows-requires-clause-setting c = c.requires.setting

pub run_rows-requires-clause-planned : goal.run_rows-requires-clause-planned
run_rows-requires-clause-planned c = c.requires.planned

pub run_rows-requires-clause-ready : goal.run_rows-requires-clause-ready
run_rows-requires-clause-ready c = (c.requires.ready.0, c.requires.ready.1, c.requires.ready.3)

pub run_rows-requires-clause-count : goal.run_rows-requires-clause-count
run_rows-requires-clause-count c = c.requires.count

pub run_rows-requires-clause-fits : goal.run_rows-requires-clause-fits
run_rows-requires-clause-fits c = (c.fits_small.ensures c.args.self.now.base.now c.requires.setting.has_totals).0 c.if-fits_small.true

pub returns-then-fits_small-clause-masses : goal.returns-then-fits_small-clause-masses
returns-then-fits_small-clause-masses c = c.run_rows.ensures.masses

pub returns-then-fits_small-clause-again : goal.returns-then-fits_small-clause-again
returns-then-fits_small-clause-again c =
    let both : c.run_rows.new.work ≡ c.args.small.now → (c.run_rows.new.work ≡ c.args.small.now) × (c.args.wide.now ≡ c.args.wide.now) = (λ e. (e, refl)) in
    on_ok_weaker _ both c.run_rows.ensures.again

pub returns-then-fits_small-clause-len : goal.returns-then-fits_small-clause-len
returns-then-fits_small-clause-len c = c.run_rows.ensures.len

pub run_rows-requires-else-fits_small-clause-setting : goal.run_rows-requires-else-fits_small-clause-setting
run_rows-requires-else-fits_small-clause-setting c = c.requires.setting

pub run_rows-requires-else-fits_small-clause-planned : goal.run_rows-requires-else-fits_small-clause-planned
run_rows-requires-else-fits_small-clause-planned c = c.requires.planned

pub run_rows-requires-else-fits_small-clause-ready : goal.run_rows-requires-else-fits_small-clause-ready
run_rows-requires-else-fits_small-clause-ready c = (c.requires.ready.0, c.requires.ready.2, c.requires.ready.3)

pub run_rows-requires-else-fits_small-clause-count : goal.run_rows-requires-else-fits_small-clause-count
run_rows-requires-else-fits_small-clause-count c = c.requires.count

pub returns-else-fits_small-clause-masses : goal.returns-else-fits_small-clause-masses
returns-else-fits_small-clause-masses c = c.run_rows-else-fits_small.ensures.masses

pub returns-else-fits_small-clause-again : goal.returns-else-fits_small-clause-again
returns-else-fits_small-clause-again c =
    let both : c.run_rows-else-fits_small.new.work ≡ c.args.wide.now → (c.args.small.now ≡ c.args.small.now) × (c.run_rows-else-fits_small.new.work ≡ c.args.wide.now) = (λ e. (refl, e)) in
    on_ok_weaker _ both c.run_rows-else-fits_small.ensures.again

pub returns-else-fits_small-clause-len : goal.returns-else-fits_small-clause-len
returns-else-fits_small-clause-len c = c.run_rows-else-fits_small.ensures.len

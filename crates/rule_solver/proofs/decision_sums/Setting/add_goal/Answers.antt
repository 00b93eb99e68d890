-- What a goal's plan lacks of the scope, and in which cells it is run.
use Rattle.std.proofs.Common.{◌≡◌, ◌∙◌, ◌≤◌, sym, subst, refl, arith}
use Rattle.maid_model.specs.Diagrams.{greatest_number}
use Rattle.plan_sums.specs.Plans.{gain_plan}
use Rattle.rule_solver.proofs.GoalPlans.{members_are}
use Rattle.rule_solver.proofs.Missing.{totals_positive}
use Rattle.rule_solver.proofs.SettingLemmas.{goal_missing, goal_missing_small, goal_total}
use Rattle.std.proofs.lemmas.Result.{on_ok_weaker}
use Rattle.rule_solver.proofs.decision_sums.Setting.add_goal.Goals as goal

pub product_in-factor-requires-clause-some : goal.product_in-factor-requires-clause-some
product_in-factor-requires-clause-some c =
    let s = c.requires.setting in
    totals_positive c.args.self.now.diagram.now.nodes c.args.self.now.base.now c.args.self.now.totals.now s.has_totals s.is_diagram.graph s.is_diagram.tables s.profile

pub product_in-factor-requires-clause-fits : goal.product_in-factor-requires-clause-fits
product_in-factor-requires-clause-fits c =
    subst (λ n. n ≤ greatest_number)
    (sym (goal_missing c.args.self.now.diagram.now c.args.self.now.base.now c.args.self.now.decision c.args.self.now.totals.now c.args.self.now.scope c.requires.setting c.plans_keep_scopes.ensures.decisions c.plans_keep_scopes.ensures.positive c.args.goal c.requires.goal c.args.plan.now.plan c.requires.planned.made.plan c.members.result c.difference-left.result (members_are c.args.self.now.diagram.now.nodes (gain_plan c.args.self.now.diagram.now.nodes c.args.self.now.decision c.args.goal) c.args.plan.now c.requires.planned c.members.result c.members.ensures) c.difference-left.ensures))
    (goal_missing_small c.args.self.now.diagram.now c.args.self.now.base.now c.args.self.now.decision c.args.self.now.totals.now c.args.self.now.scope c.requires.setting c.plans_keep_scopes.ensures.decisions c.plans_keep_scopes.ensures.positive c.args.goal c.requires.goal c.args.plan.now.plan c.requires.planned.made.plan)

pub fits_small-requires : goal.fits_small-requires
fits_small-requires c =
    let s = c.requires.setting in
    record {
      diagram = s.is_diagram;
      planned = (gain_plan c.args.self.now.diagram.now.nodes c.args.self.now.decision c.args.goal, c.requires.planned);
      some = totals_positive c.args.self.now.diagram.now.nodes c.args.self.now.base.now c.args.self.now.totals.now s.has_totals s.is_diagram.graph s.is_diagram.tables s.profile;
      fits = (c.args.self.now.base.now, s.has_totals, goal_total c.args.self.now.diagram.now c.args.self.now.base.now c.args.self.now.decision c.args.self.now.totals.now c.args.self.now.scope c.requires.setting c.plans_keep_scopes.ensures.decisions c.plans_keep_scopes.ensures.positive c.args.goal c.requires.goal c.args.plan.now.plan c.requires.planned.made.plan);
    }

pub run_goal-requires-clause-factor : goal.run_goal-requires-clause-factor
run_goal-requires-clause-factor c = c.product_in-factor.ensures ∙ (goal_missing c.args.self.now.diagram.now c.args.self.now.base.now c.args.self.now.decision c.args.self.now.totals.now c.args.self.now.scope c.requires.setting c.plans_keep_scopes.ensures.decisions c.plans_keep_scopes.ensures.positive c.args.goal c.requires.goal c.args.plan.now.plan c.requires.planned.made.plan c.members.result c.difference-left.result (members_are c.args.self.now.diagram.now.nodes (gain_plan c.args.self.now.diagram.now.nodes c.args.self.now.decision c.args.goal) c.args.plan.now c.requires.planned c.members.result c.members.ensures) c.difference-left.ensures)

pub run_goal-requires-else-fits_small-clause-factor : goal.run_goal-requires-else-fits_small-clause-factor
run_goal-requires-else-fits_small-clause-factor c = c.product_in-factor.ensures ∙ (goal_missing c.args.self.now.diagram.now c.args.self.now.base.now c.args.self.now.decision c.args.self.now.totals.now c.args.self.now.scope c.requires.setting c.plans_keep_scopes.ensures.decisions c.plans_keep_scopes.ensures.positive c.args.goal c.requires.goal c.args.plan.now.plan c.requires.planned.made.plan c.members.result c.difference-left.result (members_are c.args.self.now.diagram.now.nodes (gain_plan c.args.self.now.diagram.now.nodes c.args.self.now.decision c.args.goal) c.args.plan.now c.requires.planned c.members.result c.members.ensures) c.difference-left.ensures)

pub run_goal-requires-else-fits_small-clause-fits : goal.run_goal-requires-else-fits_small-clause-fits
run_goal-requires-else-fits_small-clause-fits c = goal_total c.args.self.now.diagram.now c.args.self.now.base.now c.args.self.now.decision c.args.self.now.totals.now c.args.self.now.scope c.requires.setting c.plans_keep_scopes.ensures.decisions c.plans_keep_scopes.ensures.positive c.args.goal c.requires.goal c.args.plan.now.plan c.requires.planned.made.plan

pub product_in-factor-requires-clause-few : goal.product_in-factor-requires-clause-few
product_in-factor-requires-clause-few c = omega (arith, c.requires.setting.has_totals.count, c.requires.setting.is_diagram.limits.nodes)

pub run_goal-requires-clause-setting : goal.run_goal-requires-clause-setting
run_goal-requires-clause-setting c = c.requires.setting

pub run_goal-requires-clause-goal : goal.run_goal-requires-clause-goal
run_goal-requires-clause-goal c = c.requires.goal

pub run_goal-requires-clause-planned : goal.run_goal-requires-clause-planned
run_goal-requires-clause-planned c = c.requires.planned

pub run_goal-requires-clause-ready : goal.run_goal-requires-clause-ready
run_goal-requires-clause-ready c = (c.requires.ready.0, c.requires.ready.1, c.requires.ready.3)

pub run_goal-requires-clause-room : goal.run_goal-requires-clause-room
run_goal-requires-clause-room c = c.requires.room

pub run_goal-requires-clause-fits : goal.run_goal-requires-clause-fits
run_goal-requires-clause-fits c = (c.fits_small.ensures c.args.self.now.base.now c.requires.setting.has_totals).0 c.if-fits_small.true

pub returns-then-fits_small-clause-adds : goal.returns-then-fits_small-clause-adds
returns-then-fits_small-clause-adds c = c.run_goal.ensures.adds

pub returns-then-fits_small-clause-again : goal.returns-then-fits_small-clause-again
returns-then-fits_small-clause-again c =
    let both : c.run_goal.new.work ≡ c.args.small.now → (c.run_goal.new.work ≡ c.args.small.now) × (c.args.wide.now ≡ c.args.wide.now) = (λ e. (e, refl)) in
    on_ok_weaker _ both c.run_goal.ensures.again

pub returns-then-fits_small-clause-len : goal.returns-then-fits_small-clause-len
returns-then-fits_small-clause-len c = c.run_goal.ensures.len

pub run_goal-requires-else-fits_small-clause-setting : goal.run_goal-requires-else-fits_small-clause-setting
run_goal-requires-else-fits_small-clause-setting c = c.requires.setting

pub run_goal-requires-else-fits_small-clause-goal : goal.run_goal-requires-else-fits_small-clause-goal
run_goal-requires-else-fits_small-clause-goal c = c.requires.goal

pub run_goal-requires-else-fits_small-clause-planned : goal.run_goal-requires-else-fits_small-clause-planned
run_goal-requires-else-fits_small-clause-planned c = c.requires.planned

pub run_goal-requires-else-fits_small-clause-ready : goal.run_goal-requires-else-fits_small-clause-ready
run_goal-requires-else-fits_small-clause-ready c = (c.requires.ready.0, c.requires.ready.2, c.requires.ready.3)

pub run_goal-requires-else-fits_small-clause-room : goal.run_goal-requires-else-fits_small-clause-room
run_goal-requires-else-fits_small-clause-room c = c.requires.room

pub returns-else-fits_small-clause-adds : goal.returns-else-fits_small-clause-adds
returns-else-fits_small-clause-adds c = c.run_goal-else-fits_small.ensures.adds

pub returns-else-fits_small-clause-again : goal.returns-else-fits_small-clause-again
returns-else-fits_small-clause-again c =
    let both : c.run_goal-else-fits_small.new.work ≡ c.args.wide.now → (c.args.small.now ≡ c.args.small.now) × (c.run_goal-else-fits_small.new.work ≡ c.args.wide.now) = (λ e. (refl, e)) in
    on_ok_weaker _ both c.run_goal-else-fits_small.ensures.again

pub returns-else-fits_small-clause-len : goal.returns-else-fits_small-clause-len
returns-else-fits_small-clause-len c = c.run_goal-else-fits_small.ensures.len

-- A goal's plan, read.
use Rattle.std.proofs.Common.{◌∙◌, ◌↔◌, ◌≤◌, Contains, ap, sym, subst}
use Rattle.factor_core.specs.Operations.{cells_by}
use Rattle.factor_core.specs.Slots.{table_of}
use Rattle.maid_model.specs.Diagrams.{greatest_number}
use Rattle.node_sets.specs.Sets.{IsIn}
use Rattle.plan_sums.specs.Plans.{PlanView, gain_plan}
use Rattle.rule_solver.proofs.PlanLemmas.{number_sum}
use Rattle.rule_solver.proofs.SettingLemmas.{goal_added, goal_missing_small, goal_room}
use Rattle.rule_solver.proofs.PlanRuns.{own_asked, own_made, few_cells, room_there, as_before}
use Rattle.rule_solver.proofs.decision_sums.Setting.run_goal.Goals as goal

pub add_gains-requires-clause-scope : goal.add_gains-requires-clause-scope
add_gains-requires-clause-scope g c v =
    subst (λ (x : PlanView). IsIn c.run_plan-slot.result.scope v ↔ Contains x.keep v) c.requires.planned.made.plan (c.run_plan-slot.ensures.scope v)

pub add_gains-requires-clause-factor : goal.add_gains-requires-clause-factor
add_gains-requires-clause-factor g c =
    subst (λ n. n ≤ greatest_number) (sym c.requires.factor)
    (goal_missing_small c.args.self.now.diagram.now c.args.self.now.base.now c.args.self.now.decision c.args.self.now.totals.now c.args.self.now.scope c.requires.setting c.plans_keep_scopes.ensures.decisions c.plans_keep_scopes.ensures.positive c.args.goal c.requires.goal c.args.plan.now.plan c.requires.planned.made.plan)

pub add_gains-requires-clause-room : goal.add_gains-requires-clause-room
add_gains-requires-clause-room g c =
    goal_room c.args.self.now.diagram.now c.args.self.now.base.now c.args.self.now.decision c.args.self.now.totals.now c.args.self.now.scope c.requires.setting c.plans_keep_scopes.ensures.decisions c.plans_keep_scopes.ensures.positive c.args.goal c.requires.goal c.args.plan.now.plan c.requires.planned.made.plan
    (λ q. g.C.HasNumber.number ((table_of g.C.Cell.ring c.args.self.now.diagram.now.nodes c.run_plan-slot.new.work.cells c.run_plan-slot.result).cell q))
    (λ q i. ap g.C.HasNumber.number (c.run_plan-slot.ensures.cell q i)
    ∙ number_sum (cells_by g.C.Cell.ring g.C.Cell.of_weight g.C.Cell.of_value) g.C.HasNumber.number g.met.C.Cell.laws g.met.C.Number.is_map c.args.self.now.diagram.now.nodes c.args.self.now.base.now c.args.plan.now.plan q)
    c.args.factor c.requires.factor c.args.gains.now c.requires.room

pub returns-clause-adds : goal.returns-clause-adds
returns-clause-adds g c =
    goal_added c.args.self.now.diagram.now c.args.self.now.base.now c.args.self.now.decision c.args.self.now.totals.now c.args.self.now.scope c.requires.setting c.plans_keep_scopes.ensures.decisions c.plans_keep_scopes.ensures.positive c.args.goal c.requires.goal c.args.plan.now.plan c.requires.planned.made.plan
    (λ q. g.C.HasNumber.number ((table_of g.C.Cell.ring c.args.self.now.diagram.now.nodes c.run_plan-slot.new.work.cells c.run_plan-slot.result).cell q))
    (λ q i. ap g.C.HasNumber.number (c.run_plan-slot.ensures.cell q i)
    ∙ number_sum (cells_by g.C.Cell.ring g.C.Cell.of_weight g.C.Cell.of_value) g.C.HasNumber.number g.met.C.Cell.laws g.met.C.Number.is_map c.args.self.now.diagram.now.nodes c.args.self.now.base.now c.args.plan.now.plan q)
    c.args.factor c.requires.factor c.args.gains.now c.add_gains.new.gains c.in_ok-add_gains.ensures.adds

pub run_plan-slot-requires-clause-asked : goal.run_plan-slot-requires-clause-asked
run_plan-slot-requires-clause-asked g c =
    own_asked c.args.self.now.diagram.now.nodes (gain_plan c.args.self.now.diagram.now.nodes c.args.self.now.decision c.args.goal) c.args.plan.now c.requires.planned

pub run_plan-slot-requires-clause-made : goal.run_plan-slot-requires-clause-made
run_plan-slot-requires-clause-made g c =
    own_made c.args.self.now.diagram.now.nodes (gain_plan c.args.self.now.diagram.now.nodes c.args.self.now.decision c.args.goal) c.args.plan.now c.requires.planned

pub run_plan-slot-requires-clause-counted : goal.run_plan-slot-requires-clause-counted
run_plan-slot-requires-clause-counted g c =
    few_cells c.args.self.now.diagram.now.nodes (gain_plan c.args.self.now.diagram.now.nodes c.args.self.now.decision c.args.goal) c.args.plan.now c.requires.planned c.args.work.now c.requires.ready

pub run_plan-slot-requires-clause-room : goal.run_plan-slot-requires-clause-room
run_plan-slot-requires-clause-room g c =
    room_there c.args.self.now.diagram.now.nodes (gain_plan c.args.self.now.diagram.now.nodes c.args.self.now.decision c.args.goal) c.args.plan.now c.requires.planned c.args.work.now c.requires.ready

pub run_plan-slot-requires-clause-profile : goal.run_plan-slot-requires-clause-profile
run_plan-slot-requires-clause-profile g c = c.requires.setting.profile

pub run_plan-slot-requires-clause-fits : goal.run_plan-slot-requires-clause-fits
run_plan-slot-requires-clause-fits g c = c.requires.fits

pub returns-clause-again : goal.returns-clause-again
returns-clause-again g c =
    as_before c.args.self.now.diagram.now.nodes (gain_plan c.args.self.now.diagram.now.nodes c.args.self.now.decision c.args.goal) c.args.plan.now c.requires.planned c.args.work.now c.requires.ready c.run_plan-slot.new.work c.release.new.work c.run_plan-slot.ensures.appends c.release.ensures

pub add_gains-requires-clause-decision : goal.add_gains-requires-clause-decision
add_gains-requires-clause-decision g c = c.requires.setting.is_decision

pub add_gains-requires-clause-live : goal.add_gains-requires-clause-live
add_gains-requires-clause-live g c = c.run_plan-slot.ensures.live

pub add_gains-requires-clause-gains : goal.add_gains-requires-clause-gains
add_gains-requires-clause-gains g c = c.requires.room.count

pub returns-in_err-add_gains-clause-len : goal.returns-in_err-add_gains-clause-len
returns-in_err-add_gains-clause-len g c = c.add_gains.ensures.len

pub returns-clause-len : goal.returns-clause-len
returns-clause-len g c = c.add_gains.ensures.len

-- The plan of the rows, read.
use Rattle.std.proofs.Common.{◌∙◌, ◌↔◌, Contains, ap, subst}
use Rattle.factor_core.specs.Operations.{cells_by}
use Rattle.factor_core.specs.Slots.{table_of}
use Rattle.node_sets.specs.Sets.{IsIn}
use Rattle.plan_sums.specs.Plans.{PlanView, row_plan}
use Rattle.rule_solver.proofs.PlanLemmas.{number_sum}
use Rattle.rule_solver.proofs.SettingLemmas.{rows_masses, rows_room}
use Rattle.rule_solver.proofs.PlanRuns.{own_asked, own_made, few_cells, room_there, as_before}
use Rattle.rule_solver.proofs.decision_sums.Setting.run_rows.Goals as goal

pub put_masses-requires-clause-scope : goal.put_masses-requires-clause-scope
put_masses-requires-clause-scope g c v =
    subst (λ (x : PlanView). IsIn c.run_plan-slot.result.scope v ↔ Contains x.keep v) c.requires.planned.made.plan (c.run_plan-slot.ensures.scope v)

pub put_masses-requires-clause-room : goal.put_masses-requires-clause-room
put_masses-requires-clause-room g c =
    rows_room c.args.self.now.diagram.now c.args.self.now.base.now c.args.self.now.decision c.args.self.now.totals.now c.args.self.now.scope c.requires.setting c.plans_keep_scopes.ensures.decisions c.plans_keep_scopes.ensures.positive c.args.plan.now.plan c.requires.planned.made.plan
    (λ q. g.C.HasNumber.number ((table_of g.C.Cell.ring c.args.self.now.diagram.now.nodes c.run_plan-slot.new.work.cells c.run_plan-slot.result).cell q))
    (λ q i. ap g.C.HasNumber.number (c.run_plan-slot.ensures.cell q i)
    ∙ number_sum (cells_by g.C.Cell.ring g.C.Cell.of_weight g.C.Cell.of_value) g.C.HasNumber.number g.met.C.Cell.laws g.met.C.Number.is_map c.args.self.now.diagram.now.nodes c.args.self.now.base.now c.args.plan.now.plan q)
    c.args.factor c.requires.factor

pub returns-clause-masses : goal.returns-clause-masses
returns-clause-masses g c =
    rows_masses c.args.self.now.diagram.now c.args.self.now.base.now c.args.self.now.decision c.args.self.now.totals.now c.args.self.now.scope c.requires.setting c.plans_keep_scopes.ensures.decisions c.plans_keep_scopes.ensures.positive c.args.plan.now.plan c.requires.planned.made.plan
    (λ q. g.C.HasNumber.number ((table_of g.C.Cell.ring c.args.self.now.diagram.now.nodes c.run_plan-slot.new.work.cells c.run_plan-slot.result).cell q))
    (λ q i. ap g.C.HasNumber.number (c.run_plan-slot.ensures.cell q i)
    ∙ number_sum (cells_by g.C.Cell.ring g.C.Cell.of_weight g.C.Cell.of_value) g.C.HasNumber.number g.met.C.Cell.laws g.met.C.Number.is_map c.args.self.now.diagram.now.nodes c.args.self.now.base.now c.args.plan.now.plan q)
    c.args.factor c.requires.factor c.plans_sum_scopes.ensures.sums c.put_masses.new.masses (c.put_masses.ensures.len ∙ c.requires.count) c.in_ok-put_masses.ensures.puts

pub run_plan-slot-requires-clause-asked : goal.run_plan-slot-requires-clause-asked
run_plan-slot-requires-clause-asked g c =
    own_asked c.args.self.now.diagram.now.nodes (row_plan c.args.self.now.diagram.now.nodes c.args.self.now.decision) c.args.plan.now c.requires.planned

pub run_plan-slot-requires-clause-made : goal.run_plan-slot-requires-clause-made
run_plan-slot-requires-clause-made g c =
    own_made c.args.self.now.diagram.now.nodes (row_plan c.args.self.now.diagram.now.nodes c.args.self.now.decision) c.args.plan.now c.requires.planned

pub run_plan-slot-requires-clause-counted : goal.run_plan-slot-requires-clause-counted
run_plan-slot-requires-clause-counted g c =
    few_cells c.args.self.now.diagram.now.nodes (row_plan c.args.self.now.diagram.now.nodes c.args.self.now.decision) c.args.plan.now c.requires.planned c.args.work.now c.requires.ready

pub run_plan-slot-requires-clause-room : goal.run_plan-slot-requires-clause-room
run_plan-slot-requires-clause-room g c =
    room_there c.args.self.now.diagram.now.nodes (row_plan c.args.self.now.diagram.now.nodes c.args.self.now.decision) c.args.plan.now c.requires.planned c.args.work.now c.requires.ready

pub run_plan-slot-requires-clause-profile : goal.run_plan-slot-requires-clause-profile
run_plan-slot-requires-clause-profile g c = c.requires.setting.profile

pub run_plan-slot-requires-clause-fits : goal.run_plan-slot-requires-clause-fits
run_plan-slot-requires-clause-fits g c = c.requires.fits

pub returns-clause-again : goal.returns-clause-again
returns-clause-again g c =
    as_before c.args.self.now.diagram.now.nodes (row_plan c.args.self.now.diagram.now.nodes c.args.self.now.decision) c.args.plan.now c.requires.planned c.args.work.now c.requires.ready c.run_plan-slot.new.work c.release.new.work c.run_plan-slot.ensures.appends c.release.ensures

pub put_masses-requires-clause-decision : goal.put_masses-requires-clause-decision
put_masses-requires-clause-decision g c = c.requires.setting.is_decision

pub put_masses-requires-clause-live : goal.put_masses-requires-clause-live
put_masses-requires-clause-live g c = c.run_plan-slot.ensures.live

pub put_masses-requires-clause-masses : goal.put_masses-requires-clause-masses
put_masses-requires-clause-masses g c = c.requires.count

pub returns-in_err-put_masses-clause-len : goal.returns-in_err-put_masses-clause-len
returns-in_err-put_masses-clause-len g c = c.put_masses.ensures.len

pub returns-clause-len : goal.returns-clause-len
returns-clause-len g c = c.put_masses.ensures.len

use Rattle.std.proofs.Common.{map, ◌∙◌, ◌<◌, FitsSigned, ap}
use Rattle.std.specs.Int.{w128}
use Rattle.std.proofs.lemmas.Int.{to_z-of_z}
use Rattle.factor_core.specs.Operations.{cells_by}
use Rattle.factor_core.specs.Slots.{nodes_in}
use Rattle.maid_model.specs.Nodes.{states_of}
use Rattle.node_sets.specs.Sets.{holds}
use Rattle.plan_sums.specs.Plans.{PlanView, gain_cells, plan_sum, worth_plan}
use Rattle.rule_solver.proofs.PlanLemmas.{number_sum}
use Rattle.rule_solver.proofs.WorthLemmas.{all_of_none, no_states}
use Rattle.rule_solver.proofs.PlanRuns.{own_asked, own_made, few_cells, room_there, as_before}
use Rattle.rule_solver.proofs.worths.run_worth.Goals as goal

-- nothing is kept, so the slot's table has one cell
pub at-worth-requires-clause-states : goal.at-worth-requires-clause-states
at-worth-requires-clause-states g c = all_of_none (λ v s. s < states_of c.args.diagram.now.nodes v) (nodes_in c.args.diagram.now.nodes (holds c.run_plan-slot.result.scope)) (no_states c.args.diagram.now.nodes c.run_plan-slot.result.scope c.args.plan.now.plan.keep (ap (λ (plan : PlanView). plan.keep) c.requires.planned.made.plan) c.run_plan-slot.ensures.scope)

pub returns-clause-worth : goal.returns-clause-worth
returns-clause-worth g c = λ q r.
    let nodes = c.args.diagram.now.nodes in
    let p = c.args.profile.now in
    let fits : FitsSigned w128 c.number.result = record { sfits = c.number.type_inv } in
    to_z-of_z w128 c.number.result fits
    ∙ c.number.ensures
    ∙ ap g.C.HasNumber.number (c.at-worth.ensures q (ap (λ vs. map q vs) (no_states c.args.diagram.now.nodes c.run_plan-slot.result.scope c.args.plan.now.plan.keep (ap (λ (plan : PlanView). plan.keep) c.requires.planned.made.plan) c.run_plan-slot.ensures.scope)) ∙ c.run_plan-slot.ensures.cell q r)
    ∙ number_sum (cells_by g.C.Cell.ring g.C.Cell.of_weight g.C.Cell.of_value) g.C.HasNumber.number g.met.C.Cell.laws g.met.C.Number.is_map nodes p c.args.plan.now.plan q
    ∙ ap (λ plan. plan_sum gain_cells nodes p plan q) c.requires.planned.made.plan

pub run_plan-slot-requires-clause-asked : goal.run_plan-slot-requires-clause-asked
run_plan-slot-requires-clause-asked g c = own_asked c.args.diagram.now.nodes (worth_plan c.args.utility) c.args.plan.now c.requires.planned

pub run_plan-slot-requires-clause-made : goal.run_plan-slot-requires-clause-made
run_plan-slot-requires-clause-made g c = own_made c.args.diagram.now.nodes (worth_plan c.args.utility) c.args.plan.now c.requires.planned

pub run_plan-slot-requires-clause-counted : goal.run_plan-slot-requires-clause-counted
run_plan-slot-requires-clause-counted g c =
    few_cells c.args.diagram.now.nodes (worth_plan c.args.utility) c.args.plan.now c.requires.planned c.args.work.now c.requires.ready

pub run_plan-slot-requires-clause-room : goal.run_plan-slot-requires-clause-room
run_plan-slot-requires-clause-room g c =
    room_there c.args.diagram.now.nodes (worth_plan c.args.utility) c.args.plan.now c.requires.planned c.args.work.now c.requires.ready

pub run_plan-slot-requires-clause-profile : goal.run_plan-slot-requires-clause-profile
run_plan-slot-requires-clause-profile g c = c.requires.profile

pub run_plan-slot-requires-clause-fits : goal.run_plan-slot-requires-clause-fits
run_plan-slot-requires-clause-fits g c = c.requires.fits

pub returns-clause-again : goal.returns-clause-again
returns-clause-again g c =
    as_before c.args.diagram.now.nodes (worth_plan c.args.utility) c.args.plan.now c.requires.planned c.args.work.now c.requires.ready c.run_plan-slot.new.work c.release.new.work c.run_plan-slot.ensures.appends c.release.ensures

use Rattle.std.proofs.Common.{◌∙◌, ◌<◌, ◌∷◌, [], map, FitsSigned, sym, subst, ap}
use Rattle.std.specs.Int.{w128}
use Rattle.std.specs.List.{AllZip}
use Rattle.std.proofs.lemmas.Int.{to_z-of_z}
use Rattle.factor_core.specs.Operations.{cells_by}
use Rattle.maid_model.specs.Nodes.{states_of}
use Rattle.rule_solver.proofs.PlanLemmas.{number_sum}
use Rattle.rule_solver.proofs.StateLemmas.{states_of_x}
use Rattle.rule_solver.proofs.PlanRuns.{own_asked, own_made, few_cells, room_there, as_before}
use Rattle.rule_solver.proofs.state_sums.run_at.Goals as goal

-- the slot's table is over the node alone
pub at-sum-requires-clause-states : goal.at-sum-requires-clause-states
at-sum-requires-clause-states g c =
    let nodes = c.args.diagram.now.nodes in
    subst (λ vs. AllZip (λ v s. s < states_of nodes v) vs (c.args.state ∷ []))
    (sym (states_of_x nodes c.args.node c.run_plan-slot.result.scope c.args.plan.now.plan.keep c.requires.within c.requires.keep c.run_plan-slot.ensures.scope))
    (c.requires.state, tt)

pub returns-clause-sum : goal.returns-clause-sum
returns-clause-sum g c = λ q r at.
    let nodes = c.args.diagram.now.nodes in
    let p = c.args.profile.now in
    let keeps = states_of_x nodes c.args.node c.run_plan-slot.result.scope c.args.plan.now.plan.keep c.requires.within c.requires.keep c.run_plan-slot.ensures.scope in
    let fits : FitsSigned w128 c.number.result = record { sfits = c.number.type_inv } in
    to_z-of_z w128 c.number.result fits
    ∙ c.number.ensures
    ∙ ap g.C.HasNumber.number (c.at-sum.ensures q (ap (λ vs. map q vs) keeps ∙ ap (λ s. s ∷ []) at) ∙ c.run_plan-slot.ensures.cell q r)
    ∙ number_sum (cells_by g.C.Cell.ring g.C.Cell.of_weight g.C.Cell.of_value) g.C.HasNumber.number g.met.C.Cell.laws g.met.C.Number.is_map nodes p c.args.plan.now.plan q

pub run_plan-slot-requires-clause-asked : goal.run_plan-slot-requires-clause-asked
run_plan-slot-requires-clause-asked g c = own_asked c.args.diagram.now.nodes c.args.plan.now.plan c.args.plan.now c.requires.planned

pub run_plan-slot-requires-clause-made : goal.run_plan-slot-requires-clause-made
run_plan-slot-requires-clause-made g c = own_made c.args.diagram.now.nodes c.args.plan.now.plan c.args.plan.now c.requires.planned

pub run_plan-slot-requires-clause-counted : goal.run_plan-slot-requires-clause-counted
run_plan-slot-requires-clause-counted g c =
    few_cells c.args.diagram.now.nodes c.args.plan.now.plan c.args.plan.now c.requires.planned c.args.work.now c.requires.ready

pub run_plan-slot-requires-clause-room : goal.run_plan-slot-requires-clause-room
run_plan-slot-requires-clause-room g c =
    room_there c.args.diagram.now.nodes c.args.plan.now.plan c.args.plan.now c.requires.planned c.args.work.now c.requires.ready

pub run_plan-slot-requires-clause-profile : goal.run_plan-slot-requires-clause-profile
run_plan-slot-requires-clause-profile g c = c.requires.profile

pub run_plan-slot-requires-clause-fits : goal.run_plan-slot-requires-clause-fits
run_plan-slot-requires-clause-fits g c = c.requires.fits

pub returns-clause-again : goal.returns-clause-again
returns-clause-again g c =
    as_before c.args.diagram.now.nodes c.args.plan.now.plan c.args.plan.now c.requires.planned c.args.work.now c.requires.ready c.run_plan-slot.new.work c.release.new.work c.run_plan-slot.ensures.appends c.release.ensures

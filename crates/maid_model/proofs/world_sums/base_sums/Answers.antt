use Rattle.std.proofs.Common.{◌≡◌, ℕ, ◌<◌, List, length, ◌∙◌, ◌+◌, ◌*◌, arith, refl, pos, subst, sym, ap, get_or, replicate}
use Rattle.std.proofs.lemmas.Int.{to_z-of_z}
use Rattle.std.specs.Int.{w128}
use mir.Val.{to_z, of_z}
use Rattle.maid_model.specs.Gains.{base_mass}
use Rattle.maid_model.specs.Views.{NodeView}
use Rattle.maid_model.specs.Nodes.{counts_of, rows_of, states_of}
use Rattle.maid_model.specs.Worlds.{IsWorld}
use Rattle.maid_model.proofs.Adding.{HasRoom}
use Rattle.maid_model.proofs.Bases.{BaseSoFar, state_read, base_start, base_room, code_place, code_row, code_gain, code_mass, base_step, base_gains, base_masses, base_gains_small, base_masses_small}
use Rattle.maid_model.proofs.Picked.{cell_times_fits, cell_fits, world_length}
use Rattle.maid_model.proofs.Below.{goals_are_utilities, goals_marked}
use Rattle.maid_model.proofs.world_sums.base_sums.Goals as goal

pub worlds-init : goal.worlds-init
worlds-init c =
    subst (λ l. BaseSoFar c.args.diagram.now.nodes c.args.profile.now c.args.decision c.goals_of-marks.result l c.fill-2.new.self c.args.world.now) (sym (c.fill.ensures.after (λ y e. e) ∙ ap (λ n. replicate n (pos 0)) c.requires.gains))
    (subst (λ l. BaseSoFar c.args.diagram.now.nodes c.args.profile.now c.args.decision c.goals_of-marks.result (replicate (rows_of c.args.diagram.now.nodes c.args.decision * states_of c.args.diagram.now.nodes c.args.decision) (pos 0)) l c.args.world.now) (sym (c.fill-2.ensures.after (λ y e. e) ∙ ap (λ n. replicate n 0) c.requires.masses))
    (base_start c.args.diagram.now c.states-states.ensures.diagram c.args.profile.now c.requires.profile c.args.decision c.goals_of-marks.result (goals_are_utilities _ _ _ c.goals_of-marks.ensures) (goals_marked _ _ _ c.goals_of-marks.ensures) c.args.world.now c.requires.first))

pub world_weight-weight-requires-clause-fits : goal.world_weight-weight-requires-clause-fits
world_weight-weight-requires-clause-fits c = (base_room c.args.diagram.now c.states-states.ensures.diagram c.args.profile.now c.requires.profile c.args.decision c.goals_of-marks.result (goals_are_utilities _ _ _ c.goals_of-marks.ensures) (goals_marked _ _ _ c.goals_of-marks.ensures) c.requires.fits).mass

pub world_gain-gain-requires-clause-utility : goal.world_gain-gain-requires-clause-utility
world_gain-gain-requires-clause-utility c = (base_room c.args.diagram.now c.states-states.ensures.diagram c.args.profile.now c.requires.profile c.args.decision c.goals_of-marks.result (goals_are_utilities _ _ _ c.goals_of-marks.ensures) (goals_marked _ _ _ c.goals_of-marks.ensures) c.requires.fits).utility

pub world_gain-gain-requires-clause-weight : goal.world_gain-gain-requires-clause-weight
world_gain-gain-requires-clause-weight c =
    let room : HasRoom c.args.diagram.now.nodes (base_mass c.args.diagram.now.nodes c.args.profile.now c.args.decision) = base_room c.args.diagram.now c.states-states.ensures.diagram c.args.profile.now c.requires.profile c.args.decision c.goals_of-marks.result (goals_are_utilities _ _ _ c.goals_of-marks.ensures) (goals_marked _ _ _ c.goals_of-marks.ensures) c.requires.fits in
    omega (arith, room.mass, c.world_weight-weight.ensures.within)

pub world_gain-gain-requires-clause-fits : goal.world_gain-gain-requires-clause-fits
world_gain-gain-requires-clause-fits c = (base_room c.args.diagram.now c.states-states.ensures.diagram c.args.profile.now c.requires.profile c.args.decision c.goals_of-marks.result (goals_are_utilities _ _ _ c.goals_of-marks.ensures) (goals_marked _ _ _ c.goals_of-marks.ensures) c.requires.fits).product c.world_weight-weight.result c.world_weight-weight.ensures.within

pub overflow_mul-row : goal.overflow_mul-row
overflow_mul-row c = omega (arith, cell_times_fits c.args.diagram.now c.states-states.ensures.diagram c.worlds.world c.worlds.invariant.world c.args.decision c.requires.decision.within c.row-row.result c.states-states.result c.row-row.ensures c.states-states.ensures.states)

pub overflow_add-row : goal.overflow_add-row
overflow_add-row c =
    omega (
      arith,
      cell_fits c.args.diagram.now c.states-states.ensures.diagram c.worlds.world c.worlds.invariant.world c.args.decision c.requires.decision.within c.row-row.result c.states-states.result c.row-row.ensures c.states-states.ensures.states c.index-state.result.now
          (c.index-state.ensures ∙ ap (λ l. get_or l c.args.decision c.index-state.result.now) c.world.view_is),
    )

pub add_gain-requires-clause-cell : goal.add_gain-requires-clause-cell
add_gain-requires-clause-cell c =
    code_place c.args.diagram.now c.states-states.ensures.diagram c.args.profile.now c.requires.profile c.args.decision c.goals_of-marks.result (goals_are_utilities _ _ _ c.goals_of-marks.ensures) (goals_marked _ _ _ c.goals_of-marks.ensures) c.requires.fits c.worlds.gains c.worlds.masses c.worlds.world c.worlds.invariant c.world_weight-weight.result c.world_weight-weight.ensures.weight (to_z w128 (of_z w128 c.world_gain-gain.result)) (to_z-of_z w128 c.world_gain-gain.result (record { sfits = c.world_gain-gain.type_inv }) ∙ c.world_gain-gain.ensures) c.row-row.result c.index-state.result.now (c.row-row.result * c.states-states.result + c.index-state.result.now) c.row-row.ensures (state_read c.args.diagram.now.nodes c.world.inside.states.items c.worlds.world c.args.decision c.index-state.result.now c.worlds.invariant.world c.requires.decision.within c.world.view_is c.index-state.ensures)
    (λ i. c.row-row.ensures i * c.states-states.ensures.states i + (state_read c.args.diagram.now.nodes c.world.inside.states.items c.worlds.world c.args.decision c.index-state.result.now c.worlds.invariant.world c.requires.decision.within c.world.view_is c.index-state.ensures) i)

pub add_gain-requires-clause-fits : goal.add_gain-requires-clause-fits
add_gain-requires-clause-fits c =
    code_gain c.args.diagram.now c.states-states.ensures.diagram c.args.profile.now c.requires.profile c.args.decision c.goals_of-marks.result (goals_are_utilities _ _ _ c.goals_of-marks.ensures) (goals_marked _ _ _ c.goals_of-marks.ensures) c.requires.fits c.worlds.gains c.worlds.masses c.worlds.world c.worlds.invariant c.world_weight-weight.result c.world_weight-weight.ensures.weight (to_z w128 (of_z w128 c.world_gain-gain.result)) (to_z-of_z w128 c.world_gain-gain.result (record { sfits = c.world_gain-gain.type_inv }) ∙ c.world_gain-gain.ensures) c.row-row.result c.index-state.result.now (c.row-row.result * c.states-states.result + c.index-state.result.now) c.row-row.ensures (state_read c.args.diagram.now.nodes c.world.inside.states.items c.worlds.world c.args.decision c.index-state.result.now c.worlds.invariant.world c.requires.decision.within c.world.view_is c.index-state.ensures)
    (λ i. c.row-row.ensures i * c.states-states.ensures.states i + (state_read c.args.diagram.now.nodes c.world.inside.states.items c.worlds.world c.args.decision c.index-state.result.now c.worlds.invariant.world c.requires.decision.within c.world.view_is c.index-state.ensures) i)

pub add_mass-requires-clause-row : goal.add_mass-requires-clause-row
add_mass-requires-clause-row c =
    code_row c.args.diagram.now c.states-states.ensures.diagram c.args.profile.now c.requires.profile c.args.decision c.goals_of-marks.result (goals_are_utilities _ _ _ c.goals_of-marks.ensures) (goals_marked _ _ _ c.goals_of-marks.ensures) c.requires.fits c.worlds.gains c.worlds.masses c.worlds.world c.worlds.invariant c.world_weight-weight.result c.world_weight-weight.ensures.weight (to_z w128 (of_z w128 c.world_gain-gain.result)) (to_z-of_z w128 c.world_gain-gain.result (record { sfits = c.world_gain-gain.type_inv }) ∙ c.world_gain-gain.ensures) c.row-row.result c.index-state.result.now (c.row-row.result * c.states-states.result + c.index-state.result.now) c.row-row.ensures (state_read c.args.diagram.now.nodes c.world.inside.states.items c.worlds.world c.args.decision c.index-state.result.now c.worlds.invariant.world c.requires.decision.within c.world.view_is c.index-state.ensures)
    (λ i. c.row-row.ensures i * c.states-states.ensures.states i + (state_read c.args.diagram.now.nodes c.world.inside.states.items c.worlds.world c.args.decision c.index-state.result.now c.worlds.invariant.world c.requires.decision.within c.world.view_is c.index-state.ensures) i)

pub add_mass-requires-clause-fits : goal.add_mass-requires-clause-fits
add_mass-requires-clause-fits c =
    code_mass c.args.diagram.now c.states-states.ensures.diagram c.args.profile.now c.requires.profile c.args.decision c.goals_of-marks.result (goals_are_utilities _ _ _ c.goals_of-marks.ensures) (goals_marked _ _ _ c.goals_of-marks.ensures) c.requires.fits c.worlds.gains c.worlds.masses c.worlds.world c.worlds.invariant c.world_weight-weight.result c.world_weight-weight.ensures.weight (to_z w128 (of_z w128 c.world_gain-gain.result)) (to_z-of_z w128 c.world_gain-gain.result (record { sfits = c.world_gain-gain.type_inv }) ∙ c.world_gain-gain.ensures) c.row-row.result c.index-state.result.now (c.row-row.result * c.states-states.result + c.index-state.result.now) c.row-row.ensures (state_read c.args.diagram.now.nodes c.world.inside.states.items c.worlds.world c.args.decision c.index-state.result.now c.worlds.invariant.world c.requires.decision.within c.world.view_is c.index-state.ensures)
    (λ i. c.row-row.ensures i * c.states-states.ensures.states i + (state_read c.args.diagram.now.nodes c.world.inside.states.items c.worlds.world c.args.decision c.index-state.result.now c.worlds.invariant.world c.requires.decision.within c.world.view_is c.index-state.ensures) i)

pub returns-then-not-next-clause-gains : goal.returns-then-not-next-clause-gains
returns-then-not-next-clause-gains c =
    base_gains c.args.diagram.now c.states-states.ensures.diagram c.args.profile.now c.requires.profile c.args.decision c.goals_of-marks.result (goals_are_utilities _ _ _ c.goals_of-marks.ensures) (goals_marked _ _ _ c.goals_of-marks.ensures) c.requires.fits c.worlds.gains c.worlds.masses c.worlds.world c.worlds.invariant c.world_weight-weight.result c.world_weight-weight.ensures.weight (to_z w128 (of_z w128 c.world_gain-gain.result)) (to_z-of_z w128 c.world_gain-gain.result (record { sfits = c.world_gain-gain.type_inv }) ∙ c.world_gain-gain.ensures) c.row-row.result c.index-state.result.now (c.row-row.result * c.states-states.result + c.index-state.result.now) c.row-row.ensures (state_read c.args.diagram.now.nodes c.world.inside.states.items c.worlds.world c.args.decision c.index-state.result.now c.worlds.invariant.world c.requires.decision.within c.world.view_is c.index-state.ensures)
    (λ i. c.row-row.ensures i * c.states-states.ensures.states i + (state_read c.args.diagram.now.nodes c.world.inside.states.items c.worlds.world c.args.decision c.index-state.result.now c.worlds.invariant.world c.requires.decision.within c.world.view_is c.index-state.ensures) i)
    c.add_gain.new.gains c.add_mass.new.masses c.add_gain.ensures c.add_mass.ensures (c.if-not-next.ensures.last refl)

pub returns-then-not-next-clause-masses : goal.returns-then-not-next-clause-masses
returns-then-not-next-clause-masses c =
    base_masses c.args.diagram.now c.states-states.ensures.diagram c.args.profile.now c.requires.profile c.args.decision c.goals_of-marks.result (goals_are_utilities _ _ _ c.goals_of-marks.ensures) (goals_marked _ _ _ c.goals_of-marks.ensures) c.requires.fits c.worlds.gains c.worlds.masses c.worlds.world c.worlds.invariant c.world_weight-weight.result c.world_weight-weight.ensures.weight (to_z w128 (of_z w128 c.world_gain-gain.result)) (to_z-of_z w128 c.world_gain-gain.result (record { sfits = c.world_gain-gain.type_inv }) ∙ c.world_gain-gain.ensures) c.row-row.result c.index-state.result.now (c.row-row.result * c.states-states.result + c.index-state.result.now) c.row-row.ensures (state_read c.args.diagram.now.nodes c.world.inside.states.items c.worlds.world c.args.decision c.index-state.result.now c.worlds.invariant.world c.requires.decision.within c.world.view_is c.index-state.ensures)
    (λ i. c.row-row.ensures i * c.states-states.ensures.states i + (state_read c.args.diagram.now.nodes c.world.inside.states.items c.worlds.world c.args.decision c.index-state.result.now c.worlds.invariant.world c.requires.decision.within c.world.view_is c.index-state.ensures) i)
    c.add_gain.new.gains c.add_mass.new.masses c.add_gain.ensures c.add_mass.ensures (c.if-not-next.ensures.last refl)

pub returns-then-not-next-clause-gains_small : goal.returns-then-not-next-clause-gains_small
returns-then-not-next-clause-gains_small c =
    base_gains_small c.args.diagram.now c.states-states.ensures.diagram c.args.profile.now c.requires.profile c.args.decision c.goals_of-marks.result (goals_are_utilities _ _ _ c.goals_of-marks.ensures) (goals_marked _ _ _ c.goals_of-marks.ensures) c.requires.fits c.worlds.gains c.worlds.masses c.worlds.world c.worlds.invariant c.world_weight-weight.result c.world_weight-weight.ensures.weight (to_z w128 (of_z w128 c.world_gain-gain.result)) (to_z-of_z w128 c.world_gain-gain.result (record { sfits = c.world_gain-gain.type_inv }) ∙ c.world_gain-gain.ensures) c.row-row.result c.index-state.result.now (c.row-row.result * c.states-states.result + c.index-state.result.now) c.row-row.ensures (state_read c.args.diagram.now.nodes c.world.inside.states.items c.worlds.world c.args.decision c.index-state.result.now c.worlds.invariant.world c.requires.decision.within c.world.view_is c.index-state.ensures)
    (λ i. c.row-row.ensures i * c.states-states.ensures.states i + (state_read c.args.diagram.now.nodes c.world.inside.states.items c.worlds.world c.args.decision c.index-state.result.now c.worlds.invariant.world c.requires.decision.within c.world.view_is c.index-state.ensures) i)
    c.add_gain.new.gains c.add_mass.new.masses c.add_gain.ensures c.add_mass.ensures

pub returns-then-not-next-clause-masses_small : goal.returns-then-not-next-clause-masses_small
returns-then-not-next-clause-masses_small c =
    base_masses_small c.args.diagram.now c.states-states.ensures.diagram c.args.profile.now c.requires.profile c.args.decision c.goals_of-marks.result (goals_are_utilities _ _ _ c.goals_of-marks.ensures) (goals_marked _ _ _ c.goals_of-marks.ensures) c.requires.fits c.worlds.gains c.worlds.masses c.worlds.world c.worlds.invariant c.world_weight-weight.result c.world_weight-weight.ensures.weight (to_z w128 (of_z w128 c.world_gain-gain.result)) (to_z-of_z w128 c.world_gain-gain.result (record { sfits = c.world_gain-gain.type_inv }) ∙ c.world_gain-gain.ensures) c.row-row.result c.index-state.result.now (c.row-row.result * c.states-states.result + c.index-state.result.now) c.row-row.ensures (state_read c.args.diagram.now.nodes c.world.inside.states.items c.worlds.world c.args.decision c.index-state.result.now c.worlds.invariant.world c.requires.decision.within c.world.view_is c.index-state.ensures)
    (λ i. c.row-row.ensures i * c.states-states.ensures.states i + (state_read c.args.diagram.now.nodes c.world.inside.states.items c.worlds.world c.args.decision c.index-state.result.now c.worlds.invariant.world c.requires.decision.within c.world.view_is c.index-state.ensures) i)
    c.add_gain.new.gains c.add_mass.new.masses c.add_gain.ensures c.add_mass.ensures

pub worlds-preserved : goal.worlds-preserved
worlds-preserved c =
    base_step c.args.diagram.now c.states-states.ensures.diagram c.args.profile.now c.requires.profile c.args.decision c.goals_of-marks.result (goals_are_utilities _ _ _ c.goals_of-marks.ensures) (goals_marked _ _ _ c.goals_of-marks.ensures) c.requires.fits c.worlds.gains c.worlds.masses c.worlds.world c.worlds.invariant c.world_weight-weight.result c.world_weight-weight.ensures.weight (to_z w128 (of_z w128 c.world_gain-gain.result)) (to_z-of_z w128 c.world_gain-gain.result (record { sfits = c.world_gain-gain.type_inv }) ∙ c.world_gain-gain.ensures) c.row-row.result c.index-state.result.now (c.row-row.result * c.states-states.result + c.index-state.result.now) c.row-row.ensures (state_read c.args.diagram.now.nodes c.world.inside.states.items c.worlds.world c.args.decision c.index-state.result.now c.worlds.invariant.world c.requires.decision.within c.world.view_is c.index-state.ensures)
    (λ i. c.row-row.ensures i * c.states-states.ensures.states i + (state_read c.args.diagram.now.nodes c.world.inside.states.items c.worlds.world c.args.decision c.index-state.result.now c.worlds.invariant.world c.requires.decision.within c.world.view_is c.index-state.ensures) i)
    c.add_gain.new.gains c.add_mass.new.masses c.add_gain.ensures c.add_mass.ensures c.next.new.self c.if-not-next.ensures.world (c.if-not-next.ensures.more refl)

place_in : (nodes : List NodeView) (xs items : List ℕ) (v n : ℕ) → IsWorld (counts_of nodes) xs → v < length nodes → items ≡ xs → n ≡ length items → v < n
place_in nodes xs items v n w l e len = omega (arith, l, world_length nodes xs w, ap length e, len)

pub index-state-requires : goal.index-state-requires
index-state-requires c = place_in c.args.diagram.now.nodes _ _ c.args.decision _ c.worlds.invariant.world c.requires.decision.within c.world.view_is c.world.inside.states.ok.0

pub worlds-smaller : goal.worlds-smaller
worlds-smaller c = omega (arith, ap length (c.if-not-next.ensures.more refl))

pub returns-then-not-next-clause-again : goal.returns-then-not-next-clause-again
returns-then-not-next-clause-again c = c.if-not-next.ensures.again refl ∙ sym c.requires.first

pub rule_places-places-requires : goal.rule_places-places-requires
rule_places-places-requires c = c.requires.profile

pub goals_of-marks-requires : goal.goals_of-marks-requires
goals_of-marks-requires c = c.requires.decision.within

pub states-states-requires : goal.states-states-requires
states-states-requires c = c.requires.decision.within

pub world_weight-weight-requires-clause-profile : goal.world_weight-weight-requires-clause-profile
world_weight-weight-requires-clause-profile c = c.requires.profile

pub world_weight-weight-requires-clause-places : goal.world_weight-weight-requires-clause-places
world_weight-weight-requires-clause-places c = c.rule_places-places.ensures

pub world_weight-weight-requires-clause-world : goal.world_weight-weight-requires-clause-world
world_weight-weight-requires-clause-world c = c.worlds.invariant.world

pub world_gain-gain-requires-clause-marks : goal.world_gain-gain-requires-clause-marks
world_gain-gain-requires-clause-marks c = goals_are_utilities _ _ _ c.goals_of-marks.ensures

pub world_gain-gain-requires-clause-world : goal.world_gain-gain-requires-clause-world
world_gain-gain-requires-clause-world c = c.worlds.invariant.world

pub row-row-requires-clause-node : goal.row-row-requires-clause-node
row-row-requires-clause-node c = c.requires.decision.within

pub row-row-requires-clause-world : goal.row-row-requires-clause-world
row-row-requires-clause-world c = c.worlds.invariant.world

pub next-requires : goal.next-requires
next-requires c = c.worlds.invariant.world

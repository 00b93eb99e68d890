use Rattle.std.proofs.Common.{◌≡◌, ◌∙◌, ◌<◌, ◌==◌, ap, arith, cond, length, nat_abs, pos, slice_index, slice_index_or, subst, sym, ◌+ℤ◌, ◌*ℤ◌, to_z, of_z}
use Rattle.std.proofs.lemmas.Int.{to_z-of_z}
use Rattle.std.proofs.lemmas.List.{length-set}
use Rattle.std.specs.Int.{w128}
use Rattle.maid_model.specs.Tables.{cell_of}
use Rattle.maid_model.specs.Worlds.{world_of}
use Rattle.tree_checker.specs.Walks.{HasRoomForUtilities, utility_with}
use Rattle.tree_checker.proofs.WalkEndings.{cell_added, gain_fits, mass_added}
use Rattle.tree_checker.proofs.endings.add_world.Goals as goal

pub utility_in-sum-requires-clause-diagram : goal.utility_in-sum-requires-clause-diagram
utility_in-sum-requires-clause-diagram c = c.requires.setting.diagram

pub utility_in-sum-requires-clause-marks : goal.utility_in-sum-requires-clause-marks
utility_in-sum-requires-clause-marks c = c.requires.setting.marked

pub utility_in-sum-requires-clause-list : goal.utility_in-sum-requires-clause-list
utility_in-sum-requires-clause-list c = c.requires.tail

pub utility_in-sum-requires-clause-world : goal.utility_in-sum-requires-clause-world
utility_in-sum-requires-clause-world c = c.requires.world

pub utility_in-sum-requires-clause-room : goal.utility_in-sum-requires-clause-room
utility_in-sum-requires-clause-room c =
    subst (HasRoomForUtilities c.args.setting.now.diagram.now.nodes c.args.setting.now.tail.now) (sym (to_z-of_z w128 c.args.utility c.ranges.utility))
    (omega (arith, c.requires.room.utility, c.requires.room.most))

pub place-cell-requires-clause-decision : goal.place-cell-requires-clause-decision
place-cell-requires-clause-decision c = c.requires.setting.decision

pub place-cell-requires-clause-world : goal.place-cell-requires-clause-world
place-cell-requires-clause-world c = c.requires.world

pub add_to_cell-requires-clause-gains : goal.add_to_cell-requires-clause-gains
add_to_cell-requires-clause-gains c = subst (λ n. c.place-cell.result < n) (sym c.requires.gains) c.place-cell.ensures.within

pub add_to_cell-requires-clause-masses : goal.add_to_cell-requires-clause-masses
add_to_cell-requires-clause-masses c = subst (λ n. c.place-cell.result < n) (sym c.requires.masses) c.place-cell.ensures.within

pub add_to_cell-requires-clause-gain : goal.add_to_cell-requires-clause-gain
add_to_cell-requires-clause-gain c =
    let sum_is : to_z w128 (of_z w128 c.utility_in-sum.result) ≡ utility_with c.args.setting.now.diagram.now.nodes c.args.setting.now.marks.now c.args.setting.now.tail.now c.args.utility (world_of c.args.world.now) =
    to_z-of_z w128 c.utility_in-sum.result (record { sfits = c.utility_in-sum.type_inv }) ∙ c.utility_in-sum.ensures ∙ ap (λ z. utility_with c.args.setting.now.diagram.now.nodes c.args.setting.now.marks.now c.args.setting.now.tail.now z (world_of c.args.world.now)) (to_z-of_z w128 c.args.utility c.ranges.utility) in
    gain_fits c.args.setting.now.diagram.now.nodes c.args.setting.now.marks.now c.requires.setting.marked (world_of c.args.world.now) c.args.setting.now.tail.now c.args.utility (to_z w128 (of_z w128 c.utility_in-sum.result)) (nat_abs (slice_index_or c.args.gains.now c.place-cell.result (pos 0))) c.args.product
    c.requires.room.utility sum_is (c.requires.room.gain c.place-cell.result)

pub add_to_cell-requires-clause-mass : goal.add_to_cell-requires-clause-mass
add_to_cell-requires-clause-mass c = c.requires.room.mass c.place-cell.result

pub returns-clause-gains : goal.returns-clause-gains
returns-clause-gains c =
    let sum_is : to_z w128 (of_z w128 c.utility_in-sum.result) ≡ utility_with c.args.setting.now.diagram.now.nodes c.args.setting.now.marks.now c.args.setting.now.tail.now c.args.utility (world_of c.args.world.now) =
    to_z-of_z w128 c.utility_in-sum.result (record { sfits = c.utility_in-sum.type_inv }) ∙ c.utility_in-sum.ensures ∙ ap (λ z. utility_with c.args.setting.now.diagram.now.nodes c.args.setting.now.marks.now c.args.setting.now.tail.now z (world_of c.args.world.now)) (to_z-of_z w128 c.args.utility c.ranges.utility) in
    λ cell. ap (λ l. slice_index_or l cell (pos 0)) c.add_to_cell.ensures.gains
    ∙ cell_added c.args.gains.now c.place-cell.result (cell_of c.args.setting.now.diagram.now.nodes c.args.setting.now.left_out (world_of c.args.world.now)) (pos c.args.product *ℤ to_z w128 (of_z w128 c.utility_in-sum.result)) (pos c.args.product *ℤ utility_with c.args.setting.now.diagram.now.nodes c.args.setting.now.marks.now c.args.setting.now.tail.now c.args.utility (world_of c.args.world.now))
    (subst (λ n. c.place-cell.result < n) (sym c.requires.gains) c.place-cell.ensures.within) c.place-cell.ensures.place (ap (λ z. pos c.args.product *ℤ z) sum_is) cell

pub returns-clause-masses : goal.returns-clause-masses
returns-clause-masses c = λ cell.
    ap (λ l. pos (slice_index l cell)) c.add_to_cell.ensures.masses
    ∙ mass_added c.args.masses.now c.place-cell.result c.args.product (subst (λ n. c.place-cell.result < n) (sym c.requires.masses) c.place-cell.ensures.within) cell
    ∙ ap (λ k. pos (slice_index c.args.masses.now cell) +ℤ cond (k == cell) (pos c.args.product) (pos 0)) c.place-cell.ensures.place

pub returns-clause-gain_count : goal.returns-clause-gain_count
returns-clause-gain_count c = ap length c.add_to_cell.ensures.gains ∙ length-set c.args.gains.now c.place-cell.result _

pub returns-clause-mass_count : goal.returns-clause-mass_count
returns-clause-mass_count c = ap length c.add_to_cell.ensures.masses ∙ length-set c.args.masses.now c.place-cell.result _

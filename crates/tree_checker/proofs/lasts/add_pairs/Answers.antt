use Rattle.std.proofs.Common.{◌≡◌, ◌∙◌, ◌+◌, ◌*◌, ◌<◌, ◌≤◌, [], ◌∷◌, get_or, subst, ap, sym, pos, ◌+ℤ◌, slice_index, slice_index_or, to_z, of_z, arith, length}
use Rattle.std.proofs.lemmas.Int.{to_z-of_z}
use Rattle.std.proofs.Math.IntN.{+ℤ_idr}
use Rattle.std.specs.Int.{w128}
use Rattle.finite_sums.specs.Sums.{with_state}
use Rattle.maid_model.specs.Nodes.{rows_of, states_of}
use Rattle.maid_model.specs.Private.{marked_value}
use Rattle.maid_model.specs.Worlds.{world_of}
use Rattle.maid_model.proofs.Picked.{cell_times_fits, world_in_range, world_length}
use Rattle.tree_checker.specs.Walks.{ArePlaces, factor_at, gain_with, mass_with}
use Rattle.tree_checker.proofs.WalkOpened.{gains_same, moved, nought, room_same}
use Rattle.tree_checker.proofs.WalkPairs.{before_is, first_is, first_world, other, pair_nodes, pair_room, pairs_start}
use Rattle.tree_checker.proofs.WalkPlaces.{cell_there_fits, factor_there, places_there, row_there_fits}
use Rattle.tree_checker.proofs.WalkSteps.{WalkSoFar, cell_small, cell_within, next_room, next_world, product_fits, walk_gains, walk_masses, walk_skip, walk_step, within, world_is}
use Rattle.tree_checker.proofs.WalkTables.{no_value}
use Rattle.tree_checker.proofs.WalkTails.{factor_held, factors_cell, factors_node}
use Rattle.tree_checker.proofs.lasts.add_pairs.Goals as goal
use Rattle.tree_checker.proofs.lasts.add_pairs.Goals.{then-more-gt0, else-more-gt0}

pub overflow_mul-first : goal.overflow_mul-first
overflow_mul-first c =
    omega (arith, cell_times_fits c.args.setting.now.diagram.now c.requires.setting.diagram c.args.world.now c.requires.world c.args.before.now.node c.requires.order.0 c.row.result c.states-states.result c.row.ensures c.states-states.ensures.states)

pub places_at-places-requires-clause-world : goal.places_at-places-requires-clause-world
places_at-places-requires-clause-world c =
    let same_sum : to_z w128 (of_z w128 c.args.utility) ≡ c.args.utility = to_z-of_z w128 c.args.utility c.ranges.utility in
    first_world c.args.setting.now.diagram.now c.requires.setting.diagram c.args.setting.now.profile.now c.requires.setting.profile c.args.setting.now.left_out c.args.setting.now.marks.now c.requires.setting.marked c.args.before.now.node c.args.last.now.node c.args.last.now.utility c.requires.order c.args.product (to_z w128 (of_z w128 c.args.utility)) c.index-state.result.now c.args.world.now c.requires.world c.args.gains.now c.args.masses.now (room_same c.args.setting.now.diagram.now.nodes c.args.setting.now.profile.now c.args.setting.now.left_out (c.args.before.now.node ∷ c.args.last.now.node ∷ c.args.last.now.utility ∷ []) c.args.product c.args.gains.now c.args.masses.now same_sum (pair_room c.args.setting.now.diagram.now.nodes c.args.setting.now.profile.now c.args.setting.now.left_out c.args.product c.args.utility c.args.gains.now c.args.masses.now c.args.last.now c.args.before.now c.requires.before c.requires.room)) c.set_state.new.world c.set_state.ensures

pub loop-s-init : goal.loop-s-init
loop-s-init c =
    let same_sum : to_z w128 (of_z w128 c.args.utility) ≡ c.args.utility = to_z-of_z w128 c.args.utility c.ranges.utility in
    let at : c.index-state.result.now ≡ get_or c.args.world.now c.args.before.now.node c.index-state.result.now = c.index-state.ensures ∙ ap (λ l. slice_index_or l c.args.before.now.node c.index-state.result.now) c.world.view_is in
    pairs_start c.args.setting.now.diagram.now c.requires.setting.diagram c.args.setting.now.profile.now c.requires.setting.profile c.args.setting.now.left_out c.args.setting.now.marks.now c.requires.setting.marked c.args.before.now.node c.args.last.now.node c.args.last.now.utility c.requires.order c.args.product (to_z w128 (of_z w128 c.args.utility)) c.index-state.result.now c.args.world.now c.requires.world c.args.gains.now c.args.masses.now (room_same c.args.setting.now.diagram.now.nodes c.args.setting.now.profile.now c.args.setting.now.left_out (c.args.before.now.node ∷ c.args.last.now.node ∷ c.args.last.now.utility ∷ []) c.args.product c.args.gains.now c.args.masses.now same_sum (pair_room c.args.setting.now.diagram.now.nodes c.args.setting.now.profile.now c.args.setting.now.left_out c.args.product c.args.utility c.args.gains.now c.args.masses.now c.args.last.now c.args.before.now c.requires.before c.requires.room)) c.set_state.new.world c.set_state.ensures at

pub overflow_add-first : goal.overflow_add-first
overflow_add-first c =
    let same_sum : to_z w128 (of_z w128 c.args.utility) ≡ c.args.utility = to_z-of_z w128 c.args.utility c.ranges.utility in
    let small : (c.row.result * c.states-states.result + c.loop-s.s) < 65536 = subst (λ k. k < 65536) (sym (λ i. c.row.ensures i * c.states-states.ensures.states i + c.loop-s.s)) (cell_small c.args.setting.now.diagram.now c.requires.setting.diagram c.args.setting.now.profile.now c.requires.setting.profile c.args.setting.now.left_out c.args.setting.now.marks.now c.requires.setting.marked c.args.before.now.node (c.args.last.now.node ∷ c.args.last.now.utility ∷ []) c.requires.order c.args.product (to_z w128 (of_z w128 c.args.utility)) c.index-state.result.now c.args.world.now c.requires.world c.args.gains.now c.args.masses.now (room_same c.args.setting.now.diagram.now.nodes c.args.setting.now.profile.now c.args.setting.now.left_out (c.args.before.now.node ∷ c.args.last.now.node ∷ c.args.last.now.utility ∷ []) c.args.product c.args.gains.now c.args.masses.now same_sum (pair_room c.args.setting.now.diagram.now.nodes c.args.setting.now.profile.now c.args.setting.now.left_out c.args.product c.args.utility c.args.gains.now c.args.masses.now c.args.last.now c.args.before.now c.requires.before c.requires.room)) c.loop-s.s (subst (λ k. c.loop-s.s < k) c.states-states.ensures.states c.loop-s-test.true)) in
    omega (arith, small)

pub factor-requires-clause-cell : goal.factor-requires-clause-cell
factor-requires-clause-cell c =
    let same_sum : to_z w128 (of_z w128 c.args.utility) ≡ c.args.utility = to_z-of_z w128 c.args.utility c.ranges.utility in
    factors_cell c.args.setting.now.diagram.now.nodes c.args.setting.now.profile.now c.args.setting.now.left_out c.args.setting.now.factors.now c.requires.setting.factors c.args.before.now.node c.requires.order.0 (c.row.result * c.states-states.result + c.loop-s.s) (subst (λ k. k < rows_of c.args.setting.now.diagram.now.nodes c.args.before.now.node * states_of c.args.setting.now.diagram.now.nodes c.args.before.now.node) (sym (λ i. c.row.ensures i * c.states-states.ensures.states i + c.loop-s.s)) (cell_within c.args.setting.now.diagram.now c.requires.setting.diagram c.args.setting.now.profile.now c.requires.setting.profile c.args.setting.now.left_out c.args.setting.now.marks.now c.requires.setting.marked c.args.before.now.node (c.args.last.now.node ∷ c.args.last.now.utility ∷ []) c.requires.order c.args.product (to_z w128 (of_z w128 c.args.utility)) c.index-state.result.now c.args.world.now c.requires.world c.args.gains.now c.args.masses.now (room_same c.args.setting.now.diagram.now.nodes c.args.setting.now.profile.now c.args.setting.now.left_out (c.args.before.now.node ∷ c.args.last.now.node ∷ c.args.last.now.utility ∷ []) c.args.product c.args.gains.now c.args.masses.now same_sum (pair_room c.args.setting.now.diagram.now.nodes c.args.setting.now.profile.now c.args.setting.now.left_out c.args.product c.args.utility c.args.gains.now c.args.masses.now c.args.last.now c.args.before.now c.requires.before c.requires.room)) c.loop-s.s (subst (λ k. c.loop-s.s < k) c.states-states.ensures.states c.loop-s-test.true)))

pub overflow_mul-more : goal.overflow_mul-more
overflow_mul-more c =
    let same_sum : to_z w128 (of_z w128 c.args.utility) ≡ c.args.utility = to_z-of_z w128 c.args.utility c.ranges.utility in
    omega (arith, product_fits c.args.setting.now.diagram.now c.requires.setting.diagram c.args.setting.now.profile.now c.requires.setting.profile c.args.setting.now.left_out c.args.setting.now.marks.now c.requires.setting.marked c.args.before.now.node (c.args.last.now.node ∷ c.args.last.now.utility ∷ []) c.requires.order c.args.product (to_z w128 (of_z w128 c.args.utility)) c.index-state.result.now c.args.world.now c.requires.world c.args.gains.now c.args.masses.now (room_same c.args.setting.now.diagram.now.nodes c.args.setting.now.profile.now c.args.setting.now.left_out (c.args.before.now.node ∷ c.args.last.now.node ∷ c.args.last.now.utility ∷ []) c.args.product c.args.gains.now c.args.masses.now same_sum (pair_room c.args.setting.now.diagram.now.nodes c.args.setting.now.profile.now c.args.setting.now.left_out c.args.product c.args.utility c.args.gains.now c.args.masses.now c.args.last.now c.args.before.now c.requires.before c.requires.room)) c.loop-s.world c.loop-s.gains c.loop-s.masses c.loop-s.s c.loop-s.invariant (subst (λ k. c.loop-s.s < k) c.states-states.ensures.states c.loop-s-test.true) c.factor.result (factor_held c.args.setting.now.diagram.now.nodes c.args.setting.now.profile.now c.args.setting.now.left_out c.args.setting.now.factors.now c.requires.setting.factors c.args.before.now.node c.requires.order.0 (c.row.result * c.states-states.result + c.loop-s.s) (subst (λ k. k < rows_of c.args.setting.now.diagram.now.nodes c.args.before.now.node * states_of c.args.setting.now.diagram.now.nodes c.args.before.now.node) (sym (λ i. c.row.ensures i * c.states-states.ensures.states i + c.loop-s.s)) (cell_within c.args.setting.now.diagram.now c.requires.setting.diagram c.args.setting.now.profile.now c.requires.setting.profile c.args.setting.now.left_out c.args.setting.now.marks.now c.requires.setting.marked c.args.before.now.node (c.args.last.now.node ∷ c.args.last.now.utility ∷ []) c.requires.order c.args.product (to_z w128 (of_z w128 c.args.utility)) c.index-state.result.now c.args.world.now c.requires.world c.args.gains.now c.args.masses.now (room_same c.args.setting.now.diagram.now.nodes c.args.setting.now.profile.now c.args.setting.now.left_out (c.args.before.now.node ∷ c.args.last.now.node ∷ c.args.last.now.utility ∷ []) c.args.product c.args.gains.now c.args.masses.now same_sum (pair_room c.args.setting.now.diagram.now.nodes c.args.setting.now.profile.now c.args.setting.now.left_out c.args.product c.args.utility c.args.gains.now c.args.masses.now c.args.last.now c.args.before.now c.requires.before c.requires.room)) c.loop-s.s (subst (λ k. c.loop-s.s < k) c.states-states.ensures.states c.loop-s-test.true))) c.factor.result c.factor.ensures ∙ ap (factor_at c.args.setting.now.diagram.now.nodes c.args.setting.now.profile.now c.args.setting.now.left_out c.args.before.now.node) (λ i. c.row.ensures i * c.states-states.ensures.states i + c.loop-s.s)))

pub set_state-requires-then-more-gt0 : goal.set_state-requires-then-more-gt0
set_state-requires-then-more-gt0 c =
    let same_sum : to_z w128 (of_z w128 c.args.utility) ≡ c.args.utility = to_z-of_z w128 c.args.utility c.ranges.utility in
    within c.args.setting.now.diagram.now c.requires.setting.diagram c.args.setting.now.profile.now c.requires.setting.profile c.args.setting.now.left_out c.args.setting.now.marks.now c.requires.setting.marked c.args.before.now.node (c.args.last.now.node ∷ c.args.last.now.utility ∷ []) c.requires.order c.args.product (to_z w128 (of_z w128 c.args.utility)) c.index-state.result.now c.args.world.now c.requires.world c.args.gains.now c.args.masses.now (room_same c.args.setting.now.diagram.now.nodes c.args.setting.now.profile.now c.args.setting.now.left_out (c.args.before.now.node ∷ c.args.last.now.node ∷ c.args.last.now.utility ∷ []) c.args.product c.args.gains.now c.args.masses.now same_sum (pair_room c.args.setting.now.diagram.now.nodes c.args.setting.now.profile.now c.args.setting.now.left_out c.args.product c.args.utility c.args.gains.now c.args.masses.now c.args.last.now c.args.before.now c.requires.before c.requires.room)) c.loop-s.world c.loop-s.gains c.loop-s.masses c.loop-s.s c.loop-s.invariant

pub further-there-requires-clause-factor : goal.further-there-requires-clause-factor
further-there-requires-clause-factor c =
    let same_sum : to_z w128 (of_z w128 c.args.utility) ≡ c.args.utility = to_z-of_z w128 c.args.utility c.ranges.utility in
    factor_there c.args.setting.now.diagram.now c.requires.setting.diagram c.args.setting.now.left_out c.args.last.now.node c.args.last.now.utility c.requires.setting.decision c.requires.order.2.0 c.requires.order.2.2.0 c.args.before.now (before_is c.args.setting.now.diagram.now.nodes c.args.setting.now.left_out c.args.setting.now.marks.now c.args.last.now c.args.before.now c.requires.before c.requires.last) (other c.args.setting.now.diagram.now c.requires.setting.diagram c.args.setting.now.profile.now c.requires.setting.profile c.args.setting.now.left_out c.args.setting.now.marks.now c.requires.setting.marked c.args.before.now.node c.args.last.now.node c.args.last.now.utility c.requires.order c.args.product (to_z w128 (of_z w128 c.args.utility)) c.index-state.result.now c.args.world.now c.requires.world c.args.gains.now c.args.masses.now (room_same c.args.setting.now.diagram.now.nodes c.args.setting.now.profile.now c.args.setting.now.left_out (c.args.before.now.node ∷ c.args.last.now.node ∷ c.args.last.now.utility ∷ []) c.args.product c.args.gains.now c.args.masses.now same_sum (pair_room c.args.setting.now.diagram.now.nodes c.args.setting.now.profile.now c.args.setting.now.left_out c.args.product c.args.utility c.args.gains.now c.args.masses.now c.args.last.now c.args.before.now c.requires.before c.requires.room)) c.set_state.new.world c.set_state.ensures) (world_of c.args.world.now) (world_in_range c.args.setting.now.diagram.now.nodes c.args.world.now c.requires.setting.diagram.graph.has_state c.requires.world) c.places_at-places.result (subst (λ w. ArePlaces c.args.setting.now.diagram.now.nodes c.args.setting.now.left_out c.args.last.now.node c.args.last.now.utility w c.places_at-places.result) (first_is c.args.setting.now.diagram.now c.requires.setting.diagram c.args.setting.now.profile.now c.requires.setting.profile c.args.setting.now.left_out c.args.setting.now.marks.now c.requires.setting.marked c.args.before.now.node c.args.last.now.node c.args.last.now.utility c.requires.order c.args.product (to_z w128 (of_z w128 c.args.utility)) c.index-state.result.now c.args.world.now c.requires.world c.args.gains.now c.args.masses.now (room_same c.args.setting.now.diagram.now.nodes c.args.setting.now.profile.now c.args.setting.now.left_out (c.args.before.now.node ∷ c.args.last.now.node ∷ c.args.last.now.utility ∷ []) c.args.product c.args.gains.now c.args.masses.now same_sum (pair_room c.args.setting.now.diagram.now.nodes c.args.setting.now.profile.now c.args.setting.now.left_out c.args.product c.args.utility c.args.gains.now c.args.masses.now c.args.last.now c.args.before.now c.requires.before c.requires.room)) c.set_state.new.world c.set_state.ensures) c.places_at-places.ensures) c.loop-s.s (subst (λ k. c.loop-s.s < k) c.states-states.ensures.states c.loop-s-test.true)

pub further-there-requires-clause-row : goal.further-there-requires-clause-row
further-there-requires-clause-row c =
    let same_sum : to_z w128 (of_z w128 c.args.utility) ≡ c.args.utility = to_z-of_z w128 c.args.utility c.ranges.utility in
    row_there_fits c.args.setting.now.diagram.now c.requires.setting.diagram c.args.setting.now.left_out c.args.last.now.node c.args.last.now.utility c.requires.setting.decision c.requires.order.2.0 c.requires.order.2.2.0 c.args.before.now (before_is c.args.setting.now.diagram.now.nodes c.args.setting.now.left_out c.args.setting.now.marks.now c.args.last.now c.args.before.now c.requires.before c.requires.last) (other c.args.setting.now.diagram.now c.requires.setting.diagram c.args.setting.now.profile.now c.requires.setting.profile c.args.setting.now.left_out c.args.setting.now.marks.now c.requires.setting.marked c.args.before.now.node c.args.last.now.node c.args.last.now.utility c.requires.order c.args.product (to_z w128 (of_z w128 c.args.utility)) c.index-state.result.now c.args.world.now c.requires.world c.args.gains.now c.args.masses.now (room_same c.args.setting.now.diagram.now.nodes c.args.setting.now.profile.now c.args.setting.now.left_out (c.args.before.now.node ∷ c.args.last.now.node ∷ c.args.last.now.utility ∷ []) c.args.product c.args.gains.now c.args.masses.now same_sum (pair_room c.args.setting.now.diagram.now.nodes c.args.setting.now.profile.now c.args.setting.now.left_out c.args.product c.args.utility c.args.gains.now c.args.masses.now c.args.last.now c.args.before.now c.requires.before c.requires.room)) c.set_state.new.world c.set_state.ensures) (world_of c.args.world.now) (world_in_range c.args.setting.now.diagram.now.nodes c.args.world.now c.requires.setting.diagram.graph.has_state c.requires.world) c.places_at-places.result (subst (λ w. ArePlaces c.args.setting.now.diagram.now.nodes c.args.setting.now.left_out c.args.last.now.node c.args.last.now.utility w c.places_at-places.result) (first_is c.args.setting.now.diagram.now c.requires.setting.diagram c.args.setting.now.profile.now c.requires.setting.profile c.args.setting.now.left_out c.args.setting.now.marks.now c.requires.setting.marked c.args.before.now.node c.args.last.now.node c.args.last.now.utility c.requires.order c.args.product (to_z w128 (of_z w128 c.args.utility)) c.index-state.result.now c.args.world.now c.requires.world c.args.gains.now c.args.masses.now (room_same c.args.setting.now.diagram.now.nodes c.args.setting.now.profile.now c.args.setting.now.left_out (c.args.before.now.node ∷ c.args.last.now.node ∷ c.args.last.now.utility ∷ []) c.args.product c.args.gains.now c.args.masses.now same_sum (pair_room c.args.setting.now.diagram.now.nodes c.args.setting.now.profile.now c.args.setting.now.left_out c.args.product c.args.utility c.args.gains.now c.args.masses.now c.args.last.now c.args.before.now c.requires.before c.requires.room)) c.set_state.new.world c.set_state.ensures) c.places_at-places.ensures) c.loop-s.s (subst (λ k. c.loop-s.s < k) c.states-states.ensures.states c.loop-s-test.true)

pub further-there-requires-clause-cell : goal.further-there-requires-clause-cell
further-there-requires-clause-cell c =
    let same_sum : to_z w128 (of_z w128 c.args.utility) ≡ c.args.utility = to_z-of_z w128 c.args.utility c.ranges.utility in
    cell_there_fits c.args.setting.now.diagram.now c.requires.setting.diagram c.args.setting.now.left_out c.args.last.now.node c.args.last.now.utility c.requires.setting.decision c.requires.order.2.0 c.requires.order.2.2.0 c.args.before.now (before_is c.args.setting.now.diagram.now.nodes c.args.setting.now.left_out c.args.setting.now.marks.now c.args.last.now c.args.before.now c.requires.before c.requires.last) (other c.args.setting.now.diagram.now c.requires.setting.diagram c.args.setting.now.profile.now c.requires.setting.profile c.args.setting.now.left_out c.args.setting.now.marks.now c.requires.setting.marked c.args.before.now.node c.args.last.now.node c.args.last.now.utility c.requires.order c.args.product (to_z w128 (of_z w128 c.args.utility)) c.index-state.result.now c.args.world.now c.requires.world c.args.gains.now c.args.masses.now (room_same c.args.setting.now.diagram.now.nodes c.args.setting.now.profile.now c.args.setting.now.left_out (c.args.before.now.node ∷ c.args.last.now.node ∷ c.args.last.now.utility ∷ []) c.args.product c.args.gains.now c.args.masses.now same_sum (pair_room c.args.setting.now.diagram.now.nodes c.args.setting.now.profile.now c.args.setting.now.left_out c.args.product c.args.utility c.args.gains.now c.args.masses.now c.args.last.now c.args.before.now c.requires.before c.requires.room)) c.set_state.new.world c.set_state.ensures) (world_of c.args.world.now) (world_in_range c.args.setting.now.diagram.now.nodes c.args.world.now c.requires.setting.diagram.graph.has_state c.requires.world) c.places_at-places.result (subst (λ w. ArePlaces c.args.setting.now.diagram.now.nodes c.args.setting.now.left_out c.args.last.now.node c.args.last.now.utility w c.places_at-places.result) (first_is c.args.setting.now.diagram.now c.requires.setting.diagram c.args.setting.now.profile.now c.requires.setting.profile c.args.setting.now.left_out c.args.setting.now.marks.now c.requires.setting.marked c.args.before.now.node c.args.last.now.node c.args.last.now.utility c.requires.order c.args.product (to_z w128 (of_z w128 c.args.utility)) c.index-state.result.now c.args.world.now c.requires.world c.args.gains.now c.args.masses.now (room_same c.args.setting.now.diagram.now.nodes c.args.setting.now.profile.now c.args.setting.now.left_out (c.args.before.now.node ∷ c.args.last.now.node ∷ c.args.last.now.utility ∷ []) c.args.product c.args.gains.now c.args.masses.now same_sum (pair_room c.args.setting.now.diagram.now.nodes c.args.setting.now.profile.now c.args.setting.now.left_out c.args.product c.args.utility c.args.gains.now c.args.masses.now c.args.last.now c.args.before.now c.requires.before c.requires.room)) c.set_state.new.world c.set_state.ensures) c.places_at-places.ensures) c.loop-s.s (subst (λ k. c.loop-s.s < k) c.states-states.ensures.states c.loop-s-test.true)

pub add_states-requires-clause-world : goal.add_states-requires-clause-world
add_states-requires-clause-world c =
    let same_sum : to_z w128 (of_z w128 c.args.utility) ≡ c.args.utility = to_z-of_z w128 c.args.utility c.ranges.utility in
    let zero_is : pos 0 ≡ marked_value c.args.setting.now.diagram.now.nodes c.args.setting.now.marks.now c.args.before.now.node (world_of c.args.world.now) = no_value c.args.setting.now.diagram.now.nodes c.args.setting.now.marks.now c.requires.setting.marked c.args.before.now.node c.requires.order.0 (before_is c.args.setting.now.diagram.now.nodes c.args.setting.now.left_out c.args.setting.now.marks.now c.args.last.now c.args.before.now c.requires.before c.requires.last).weighs (world_of c.args.world.now) in
    next_world c.args.setting.now.diagram.now c.requires.setting.diagram c.args.setting.now.profile.now c.requires.setting.profile c.args.setting.now.left_out c.args.setting.now.marks.now c.requires.setting.marked c.args.before.now.node (c.args.last.now.node ∷ c.args.last.now.utility ∷ []) c.requires.order c.args.product (to_z w128 (of_z w128 c.args.utility)) c.index-state.result.now c.args.world.now c.requires.world c.args.gains.now c.args.masses.now (room_same c.args.setting.now.diagram.now.nodes c.args.setting.now.profile.now c.args.setting.now.left_out (c.args.before.now.node ∷ c.args.last.now.node ∷ c.args.last.now.utility ∷ []) c.args.product c.args.gains.now c.args.masses.now same_sum (pair_room c.args.setting.now.diagram.now.nodes c.args.setting.now.profile.now c.args.setting.now.left_out c.args.product c.args.utility c.args.gains.now c.args.masses.now c.args.last.now c.args.before.now c.requires.before c.requires.room)) c.loop-s.world c.loop-s.gains c.loop-s.masses c.loop-s.s c.loop-s.invariant (subst (λ k. c.loop-s.s < k) c.states-states.ensures.states c.loop-s-test.true) c.factor.result (factor_held c.args.setting.now.diagram.now.nodes c.args.setting.now.profile.now c.args.setting.now.left_out c.args.setting.now.factors.now c.requires.setting.factors c.args.before.now.node c.requires.order.0 (c.row.result * c.states-states.result + c.loop-s.s) (subst (λ k. k < rows_of c.args.setting.now.diagram.now.nodes c.args.before.now.node * states_of c.args.setting.now.diagram.now.nodes c.args.before.now.node) (sym (λ i. c.row.ensures i * c.states-states.ensures.states i + c.loop-s.s)) (cell_within c.args.setting.now.diagram.now c.requires.setting.diagram c.args.setting.now.profile.now c.requires.setting.profile c.args.setting.now.left_out c.args.setting.now.marks.now c.requires.setting.marked c.args.before.now.node (c.args.last.now.node ∷ c.args.last.now.utility ∷ []) c.requires.order c.args.product (to_z w128 (of_z w128 c.args.utility)) c.index-state.result.now c.args.world.now c.requires.world c.args.gains.now c.args.masses.now (room_same c.args.setting.now.diagram.now.nodes c.args.setting.now.profile.now c.args.setting.now.left_out (c.args.before.now.node ∷ c.args.last.now.node ∷ c.args.last.now.utility ∷ []) c.args.product c.args.gains.now c.args.masses.now same_sum (pair_room c.args.setting.now.diagram.now.nodes c.args.setting.now.profile.now c.args.setting.now.left_out c.args.product c.args.utility c.args.gains.now c.args.masses.now c.args.last.now c.args.before.now c.requires.before c.requires.room)) c.loop-s.s (subst (λ k. c.loop-s.s < k) c.states-states.ensures.states c.loop-s-test.true))) c.factor.result c.factor.ensures ∙ ap (factor_at c.args.setting.now.diagram.now.nodes c.args.setting.now.profile.now c.args.setting.now.left_out c.args.before.now.node) (λ i. c.row.ensures i * c.states-states.ensures.states i + c.loop-s.s)) (pos 0) zero_is c.set_state-then-more-gt0.new.world c.set_state-then-more-gt0.ensures

pub add_states-requires-clause-places : goal.add_states-requires-clause-places
add_states-requires-clause-places c =
    let same_sum : to_z w128 (of_z w128 c.args.utility) ≡ c.args.utility = to_z-of_z w128 c.args.utility c.ranges.utility in
    let zero_is : pos 0 ≡ marked_value c.args.setting.now.diagram.now.nodes c.args.setting.now.marks.now c.args.before.now.node (world_of c.args.world.now) = no_value c.args.setting.now.diagram.now.nodes c.args.setting.now.marks.now c.requires.setting.marked c.args.before.now.node c.requires.order.0 (before_is c.args.setting.now.diagram.now.nodes c.args.setting.now.left_out c.args.setting.now.marks.now c.args.last.now c.args.before.now c.requires.before c.requires.last).weighs (world_of c.args.world.now) in
    subst (λ w. ArePlaces c.args.setting.now.diagram.now.nodes c.args.setting.now.left_out c.args.last.now.node c.args.last.now.utility w c.further-there.result) (sym (world_is c.args.setting.now.diagram.now c.requires.setting.diagram c.args.setting.now.profile.now c.requires.setting.profile c.args.setting.now.left_out c.args.setting.now.marks.now c.requires.setting.marked c.args.before.now.node (c.args.last.now.node ∷ c.args.last.now.utility ∷ []) c.requires.order c.args.product (to_z w128 (of_z w128 c.args.utility)) c.index-state.result.now c.args.world.now c.requires.world c.args.gains.now c.args.masses.now (room_same c.args.setting.now.diagram.now.nodes c.args.setting.now.profile.now c.args.setting.now.left_out (c.args.before.now.node ∷ c.args.last.now.node ∷ c.args.last.now.utility ∷ []) c.args.product c.args.gains.now c.args.masses.now same_sum (pair_room c.args.setting.now.diagram.now.nodes c.args.setting.now.profile.now c.args.setting.now.left_out c.args.product c.args.utility c.args.gains.now c.args.masses.now c.args.last.now c.args.before.now c.requires.before c.requires.room)) c.loop-s.world c.loop-s.gains c.loop-s.masses c.loop-s.s c.loop-s.invariant (subst (λ k. c.loop-s.s < k) c.states-states.ensures.states c.loop-s-test.true) c.factor.result (factor_held c.args.setting.now.diagram.now.nodes c.args.setting.now.profile.now c.args.setting.now.left_out c.args.setting.now.factors.now c.requires.setting.factors c.args.before.now.node c.requires.order.0 (c.row.result * c.states-states.result + c.loop-s.s) (subst (λ k. k < rows_of c.args.setting.now.diagram.now.nodes c.args.before.now.node * states_of c.args.setting.now.diagram.now.nodes c.args.before.now.node) (sym (λ i. c.row.ensures i * c.states-states.ensures.states i + c.loop-s.s)) (cell_within c.args.setting.now.diagram.now c.requires.setting.diagram c.args.setting.now.profile.now c.requires.setting.profile c.args.setting.now.left_out c.args.setting.now.marks.now c.requires.setting.marked c.args.before.now.node (c.args.last.now.node ∷ c.args.last.now.utility ∷ []) c.requires.order c.args.product (to_z w128 (of_z w128 c.args.utility)) c.index-state.result.now c.args.world.now c.requires.world c.args.gains.now c.args.masses.now (room_same c.args.setting.now.diagram.now.nodes c.args.setting.now.profile.now c.args.setting.now.left_out (c.args.before.now.node ∷ c.args.last.now.node ∷ c.args.last.now.utility ∷ []) c.args.product c.args.gains.now c.args.masses.now same_sum (pair_room c.args.setting.now.diagram.now.nodes c.args.setting.now.profile.now c.args.setting.now.left_out c.args.product c.args.utility c.args.gains.now c.args.masses.now c.args.last.now c.args.before.now c.requires.before c.requires.room)) c.loop-s.s (subst (λ k. c.loop-s.s < k) c.states-states.ensures.states c.loop-s-test.true))) c.factor.result c.factor.ensures ∙ ap (factor_at c.args.setting.now.diagram.now.nodes c.args.setting.now.profile.now c.args.setting.now.left_out c.args.before.now.node) (λ i. c.row.ensures i * c.states-states.ensures.states i + c.loop-s.s)) (pos 0) zero_is c.set_state-then-more-gt0.new.world c.set_state-then-more-gt0.ensures)) (subst (ArePlaces c.args.setting.now.diagram.now.nodes c.args.setting.now.left_out c.args.last.now.node c.args.last.now.utility (with_state (world_of c.args.world.now) c.args.before.now.node c.loop-s.s)) (sym c.further-there.ensures) (places_there c.args.setting.now.diagram.now c.requires.setting.diagram c.args.setting.now.left_out c.args.last.now.node c.args.last.now.utility c.requires.setting.decision c.requires.order.2.0 c.requires.order.2.2.0 c.args.before.now (before_is c.args.setting.now.diagram.now.nodes c.args.setting.now.left_out c.args.setting.now.marks.now c.args.last.now c.args.before.now c.requires.before c.requires.last) (other c.args.setting.now.diagram.now c.requires.setting.diagram c.args.setting.now.profile.now c.requires.setting.profile c.args.setting.now.left_out c.args.setting.now.marks.now c.requires.setting.marked c.args.before.now.node c.args.last.now.node c.args.last.now.utility c.requires.order c.args.product (to_z w128 (of_z w128 c.args.utility)) c.index-state.result.now c.args.world.now c.requires.world c.args.gains.now c.args.masses.now (room_same c.args.setting.now.diagram.now.nodes c.args.setting.now.profile.now c.args.setting.now.left_out (c.args.before.now.node ∷ c.args.last.now.node ∷ c.args.last.now.utility ∷ []) c.args.product c.args.gains.now c.args.masses.now same_sum (pair_room c.args.setting.now.diagram.now.nodes c.args.setting.now.profile.now c.args.setting.now.left_out c.args.product c.args.utility c.args.gains.now c.args.masses.now c.args.last.now c.args.before.now c.requires.before c.requires.room)) c.set_state.new.world c.set_state.ensures) (world_of c.args.world.now) (world_in_range c.args.setting.now.diagram.now.nodes c.args.world.now c.requires.setting.diagram.graph.has_state c.requires.world) c.places_at-places.result (subst (λ w. ArePlaces c.args.setting.now.diagram.now.nodes c.args.setting.now.left_out c.args.last.now.node c.args.last.now.utility w c.places_at-places.result) (first_is c.args.setting.now.diagram.now c.requires.setting.diagram c.args.setting.now.profile.now c.requires.setting.profile c.args.setting.now.left_out c.args.setting.now.marks.now c.requires.setting.marked c.args.before.now.node c.args.last.now.node c.args.last.now.utility c.requires.order c.args.product (to_z w128 (of_z w128 c.args.utility)) c.index-state.result.now c.args.world.now c.requires.world c.args.gains.now c.args.masses.now (room_same c.args.setting.now.diagram.now.nodes c.args.setting.now.profile.now c.args.setting.now.left_out (c.args.before.now.node ∷ c.args.last.now.node ∷ c.args.last.now.utility ∷ []) c.args.product c.args.gains.now c.args.masses.now same_sum (pair_room c.args.setting.now.diagram.now.nodes c.args.setting.now.profile.now c.args.setting.now.left_out c.args.product c.args.utility c.args.gains.now c.args.masses.now c.args.last.now c.args.before.now c.requires.before c.requires.room)) c.set_state.new.world c.set_state.ensures) c.places_at-places.ensures) c.loop-s.s))

pub add_states-requires-clause-room : goal.add_states-requires-clause-room
add_states-requires-clause-room c =
    let same_sum : to_z w128 (of_z w128 c.args.utility) ≡ c.args.utility = to_z-of_z w128 c.args.utility c.ranges.utility in
    let zero_is : pos 0 ≡ marked_value c.args.setting.now.diagram.now.nodes c.args.setting.now.marks.now c.args.before.now.node (world_of c.args.world.now) = no_value c.args.setting.now.diagram.now.nodes c.args.setting.now.marks.now c.requires.setting.marked c.args.before.now.node c.requires.order.0 (before_is c.args.setting.now.diagram.now.nodes c.args.setting.now.left_out c.args.setting.now.marks.now c.args.last.now c.args.before.now c.requires.before c.requires.last).weighs (world_of c.args.world.now) in
    room_same c.args.setting.now.diagram.now.nodes c.args.setting.now.profile.now c.args.setting.now.left_out (c.args.last.now.node ∷ c.args.last.now.utility ∷ []) (c.args.product * c.factor.result) c.loop-s.gains c.loop-s.masses (sym (+ℤ_idr (to_z w128 (of_z w128 c.args.utility)))) (next_room c.args.setting.now.diagram.now c.requires.setting.diagram c.args.setting.now.profile.now c.requires.setting.profile c.args.setting.now.left_out c.args.setting.now.marks.now c.requires.setting.marked c.args.before.now.node (c.args.last.now.node ∷ c.args.last.now.utility ∷ []) c.requires.order c.args.product (to_z w128 (of_z w128 c.args.utility)) c.index-state.result.now c.args.world.now c.requires.world c.args.gains.now c.args.masses.now (room_same c.args.setting.now.diagram.now.nodes c.args.setting.now.profile.now c.args.setting.now.left_out (c.args.before.now.node ∷ c.args.last.now.node ∷ c.args.last.now.utility ∷ []) c.args.product c.args.gains.now c.args.masses.now same_sum (pair_room c.args.setting.now.diagram.now.nodes c.args.setting.now.profile.now c.args.setting.now.left_out c.args.product c.args.utility c.args.gains.now c.args.masses.now c.args.last.now c.args.before.now c.requires.before c.requires.room)) c.loop-s.world c.loop-s.gains c.loop-s.masses c.loop-s.s c.loop-s.invariant (subst (λ k. c.loop-s.s < k) c.states-states.ensures.states c.loop-s-test.true) c.factor.result (factor_held c.args.setting.now.diagram.now.nodes c.args.setting.now.profile.now c.args.setting.now.left_out c.args.setting.now.factors.now c.requires.setting.factors c.args.before.now.node c.requires.order.0 (c.row.result * c.states-states.result + c.loop-s.s) (subst (λ k. k < rows_of c.args.setting.now.diagram.now.nodes c.args.before.now.node * states_of c.args.setting.now.diagram.now.nodes c.args.before.now.node) (sym (λ i. c.row.ensures i * c.states-states.ensures.states i + c.loop-s.s)) (cell_within c.args.setting.now.diagram.now c.requires.setting.diagram c.args.setting.now.profile.now c.requires.setting.profile c.args.setting.now.left_out c.args.setting.now.marks.now c.requires.setting.marked c.args.before.now.node (c.args.last.now.node ∷ c.args.last.now.utility ∷ []) c.requires.order c.args.product (to_z w128 (of_z w128 c.args.utility)) c.index-state.result.now c.args.world.now c.requires.world c.args.gains.now c.args.masses.now (room_same c.args.setting.now.diagram.now.nodes c.args.setting.now.profile.now c.args.setting.now.left_out (c.args.before.now.node ∷ c.args.last.now.node ∷ c.args.last.now.utility ∷ []) c.args.product c.args.gains.now c.args.masses.now same_sum (pair_room c.args.setting.now.diagram.now.nodes c.args.setting.now.profile.now c.args.setting.now.left_out c.args.product c.args.utility c.args.gains.now c.args.masses.now c.args.last.now c.args.before.now c.requires.before c.requires.room)) c.loop-s.s (subst (λ k. c.loop-s.s < k) c.states-states.ensures.states c.loop-s-test.true))) c.factor.result c.factor.ensures ∙ ap (factor_at c.args.setting.now.diagram.now.nodes c.args.setting.now.profile.now c.args.setting.now.left_out c.args.before.now.node) (λ i. c.row.ensures i * c.states-states.ensures.states i + c.loop-s.s)) (pos 0) zero_is c.set_state-then-more-gt0.new.world c.set_state-then-more-gt0.ensures)

pub loop-s-preserved : goal.loop-s-preserved
loop-s-preserved c =
    let same_sum : to_z w128 (of_z w128 c.args.utility) ≡ c.args.utility = to_z-of_z w128 c.args.utility c.ranges.utility in
    let zero_is : pos 0 ≡ marked_value c.args.setting.now.diagram.now.nodes c.args.setting.now.marks.now c.args.before.now.node (world_of c.args.world.now) = no_value c.args.setting.now.diagram.now.nodes c.args.setting.now.marks.now c.requires.setting.marked c.args.before.now.node c.requires.order.0 (before_is c.args.setting.now.diagram.now.nodes c.args.setting.now.left_out c.args.setting.now.marks.now c.args.last.now c.args.before.now c.requires.before c.requires.last).weighs (world_of c.args.world.now) in
    elim c.if-more-gt0.branch [
      | then-more-gt0 w ↦
          moved (λ xs gains masses. WalkSoFar c.args.setting.now.diagram.now.nodes c.args.setting.now.profile.now c.args.setting.now.left_out c.args.setting.now.marks.now c.args.before.now.node (c.args.last.now.node ∷ c.args.last.now.utility ∷ []) c.args.product (to_z w128 (of_z w128 c.args.utility)) c.index-state.result.now c.args.world.now c.args.gains.now c.args.masses.now xs gains masses (c.loop-s.s + 1)) w.world-is w.gains-is w.masses-is
          (walk_step c.args.setting.now.diagram.now c.requires.setting.diagram c.args.setting.now.profile.now c.requires.setting.profile c.args.setting.now.left_out c.args.setting.now.marks.now c.requires.setting.marked c.args.before.now.node (c.args.last.now.node ∷ c.args.last.now.utility ∷ []) c.requires.order c.args.product (to_z w128 (of_z w128 c.args.utility)) c.index-state.result.now c.args.world.now c.requires.world c.args.gains.now c.args.masses.now (room_same c.args.setting.now.diagram.now.nodes c.args.setting.now.profile.now c.args.setting.now.left_out (c.args.before.now.node ∷ c.args.last.now.node ∷ c.args.last.now.utility ∷ []) c.args.product c.args.gains.now c.args.masses.now same_sum (pair_room c.args.setting.now.diagram.now.nodes c.args.setting.now.profile.now c.args.setting.now.left_out c.args.product c.args.utility c.args.gains.now c.args.masses.now c.args.last.now c.args.before.now c.requires.before c.requires.room)) c.loop-s.world c.loop-s.gains c.loop-s.masses c.loop-s.s c.loop-s.invariant (subst (λ k. c.loop-s.s < k) c.states-states.ensures.states c.loop-s-test.true) c.factor.result (factor_held c.args.setting.now.diagram.now.nodes c.args.setting.now.profile.now c.args.setting.now.left_out c.args.setting.now.factors.now c.requires.setting.factors c.args.before.now.node c.requires.order.0 (c.row.result * c.states-states.result + c.loop-s.s) (subst (λ k. k < rows_of c.args.setting.now.diagram.now.nodes c.args.before.now.node * states_of c.args.setting.now.diagram.now.nodes c.args.before.now.node) (sym (λ i. c.row.ensures i * c.states-states.ensures.states i + c.loop-s.s)) (cell_within c.args.setting.now.diagram.now c.requires.setting.diagram c.args.setting.now.profile.now c.requires.setting.profile c.args.setting.now.left_out c.args.setting.now.marks.now c.requires.setting.marked c.args.before.now.node (c.args.last.now.node ∷ c.args.last.now.utility ∷ []) c.requires.order c.args.product (to_z w128 (of_z w128 c.args.utility)) c.index-state.result.now c.args.world.now c.requires.world c.args.gains.now c.args.masses.now (room_same c.args.setting.now.diagram.now.nodes c.args.setting.now.profile.now c.args.setting.now.left_out (c.args.before.now.node ∷ c.args.last.now.node ∷ c.args.last.now.utility ∷ []) c.args.product c.args.gains.now c.args.masses.now same_sum (pair_room c.args.setting.now.diagram.now.nodes c.args.setting.now.profile.now c.args.setting.now.left_out c.args.product c.args.utility c.args.gains.now c.args.masses.now c.args.last.now c.args.before.now c.requires.before c.requires.room)) c.loop-s.s (subst (λ k. c.loop-s.s < k) c.states-states.ensures.states c.loop-s-test.true))) c.factor.result c.factor.ensures ∙ ap (factor_at c.args.setting.now.diagram.now.nodes c.args.setting.now.profile.now c.args.setting.now.left_out c.args.before.now.node) (λ i. c.row.ensures i * c.states-states.ensures.states i + c.loop-s.s)) (pos 0) zero_is w.set_state-then-more-gt0.new.world w.set_state-then-more-gt0.ensures w.set_state-then-more-gt0.new.world w.add_states.new.gains w.add_states.new.masses (λ i. w.set_state-then-more-gt0.new.world)
          (gains_same c.args.setting.now.diagram.now.nodes c.args.setting.now.profile.now c.args.setting.now.left_out c.args.setting.now.marks.now (c.args.last.now.node ∷ c.args.last.now.utility ∷ []) (c.args.product * c.factor.result) w.set_state-then-more-gt0.new.world c.loop-s.gains w.add_states.new.gains (sym (+ℤ_idr (to_z w128 (of_z w128 c.args.utility)))) w.add_states.ensures.gains)
          w.add_states.ensures.masses w.add_states.ensures.gain_count w.add_states.ensures.mass_count)
      | else-more-gt0 w ↦
          moved (λ xs gains masses. WalkSoFar c.args.setting.now.diagram.now.nodes c.args.setting.now.profile.now c.args.setting.now.left_out c.args.setting.now.marks.now c.args.before.now.node (c.args.last.now.node ∷ c.args.last.now.utility ∷ []) c.args.product (to_z w128 (of_z w128 c.args.utility)) c.index-state.result.now c.args.world.now c.args.gains.now c.args.masses.now xs gains masses (c.loop-s.s + 1)) w.world-is w.gains-is w.masses-is
          (walk_skip c.args.setting.now.diagram.now c.requires.setting.diagram c.args.setting.now.profile.now c.requires.setting.profile c.args.setting.now.left_out c.args.setting.now.marks.now c.requires.setting.marked c.args.before.now.node (c.args.last.now.node ∷ c.args.last.now.utility ∷ []) c.requires.order c.args.product (to_z w128 (of_z w128 c.args.utility)) c.index-state.result.now c.args.world.now c.requires.world c.args.gains.now c.args.masses.now (room_same c.args.setting.now.diagram.now.nodes c.args.setting.now.profile.now c.args.setting.now.left_out (c.args.before.now.node ∷ c.args.last.now.node ∷ c.args.last.now.utility ∷ []) c.args.product c.args.gains.now c.args.masses.now same_sum (pair_room c.args.setting.now.diagram.now.nodes c.args.setting.now.profile.now c.args.setting.now.left_out c.args.product c.args.utility c.args.gains.now c.args.masses.now c.args.last.now c.args.before.now c.requires.before c.requires.room)) c.loop-s.world c.loop-s.gains c.loop-s.masses c.loop-s.s c.loop-s.invariant (subst (λ k. c.loop-s.s < k) c.states-states.ensures.states c.loop-s-test.true) c.factor.result (factor_held c.args.setting.now.diagram.now.nodes c.args.setting.now.profile.now c.args.setting.now.left_out c.args.setting.now.factors.now c.requires.setting.factors c.args.before.now.node c.requires.order.0 (c.row.result * c.states-states.result + c.loop-s.s) (subst (λ k. k < rows_of c.args.setting.now.diagram.now.nodes c.args.before.now.node * states_of c.args.setting.now.diagram.now.nodes c.args.before.now.node) (sym (λ i. c.row.ensures i * c.states-states.ensures.states i + c.loop-s.s)) (cell_within c.args.setting.now.diagram.now c.requires.setting.diagram c.args.setting.now.profile.now c.requires.setting.profile c.args.setting.now.left_out c.args.setting.now.marks.now c.requires.setting.marked c.args.before.now.node (c.args.last.now.node ∷ c.args.last.now.utility ∷ []) c.requires.order c.args.product (to_z w128 (of_z w128 c.args.utility)) c.index-state.result.now c.args.world.now c.requires.world c.args.gains.now c.args.masses.now (room_same c.args.setting.now.diagram.now.nodes c.args.setting.now.profile.now c.args.setting.now.left_out (c.args.before.now.node ∷ c.args.last.now.node ∷ c.args.last.now.utility ∷ []) c.args.product c.args.gains.now c.args.masses.now same_sum (pair_room c.args.setting.now.diagram.now.nodes c.args.setting.now.profile.now c.args.setting.now.left_out c.args.product c.args.utility c.args.gains.now c.args.masses.now c.args.last.now c.args.before.now c.requires.before c.requires.room)) c.loop-s.s (subst (λ k. c.loop-s.s < k) c.states-states.ensures.states c.loop-s-test.true))) c.factor.result c.factor.ensures ∙ ap (factor_at c.args.setting.now.diagram.now.nodes c.args.setting.now.profile.now c.args.setting.now.left_out c.args.before.now.node) (λ i. c.row.ensures i * c.states-states.ensures.states i + c.loop-s.s)) (nought (c.args.product * c.factor.result) w.if-more-gt0.false))
    ]

pub set_state-requires-2 : goal.set_state-requires-2
set_state-requires-2 c =
    let same_sum : to_z w128 (of_z w128 c.args.utility) ≡ c.args.utility = to_z-of_z w128 c.args.utility c.ranges.utility in
    within c.args.setting.now.diagram.now c.requires.setting.diagram c.args.setting.now.profile.now c.requires.setting.profile c.args.setting.now.left_out c.args.setting.now.marks.now c.requires.setting.marked c.args.before.now.node (c.args.last.now.node ∷ c.args.last.now.utility ∷ []) c.requires.order c.args.product (to_z w128 (of_z w128 c.args.utility)) c.index-state.result.now c.args.world.now c.requires.world c.args.gains.now c.args.masses.now (room_same c.args.setting.now.diagram.now.nodes c.args.setting.now.profile.now c.args.setting.now.left_out (c.args.before.now.node ∷ c.args.last.now.node ∷ c.args.last.now.utility ∷ []) c.args.product c.args.gains.now c.args.masses.now same_sum (pair_room c.args.setting.now.diagram.now.nodes c.args.setting.now.profile.now c.args.setting.now.left_out c.args.product c.args.utility c.args.gains.now c.args.masses.now c.args.last.now c.args.before.now c.requires.before c.requires.room)) c.loop-s.world c.loop-s.gains c.loop-s.masses c.loop-s.s c.loop-s.invariant

pub returns-clause-again : goal.returns-clause-again
returns-clause-again c =
    c.set_state-2.ensures ∙ c.loop-s.invariant.back

pub returns-clause-gains : goal.returns-clause-gains
returns-clause-gains c =
    let same_sum : to_z w128 (of_z w128 c.args.utility) ≡ c.args.utility = to_z-of_z w128 c.args.utility c.ranges.utility in
    λ cell. walk_gains c.args.setting.now.diagram.now c.requires.setting.diagram c.args.setting.now.profile.now c.requires.setting.profile c.args.setting.now.left_out c.args.setting.now.marks.now c.requires.setting.marked c.args.before.now.node (c.args.last.now.node ∷ c.args.last.now.utility ∷ []) c.requires.order c.args.product (to_z w128 (of_z w128 c.args.utility)) c.index-state.result.now c.args.world.now c.requires.world c.args.gains.now c.args.masses.now (room_same c.args.setting.now.diagram.now.nodes c.args.setting.now.profile.now c.args.setting.now.left_out (c.args.before.now.node ∷ c.args.last.now.node ∷ c.args.last.now.utility ∷ []) c.args.product c.args.gains.now c.args.masses.now same_sum (pair_room c.args.setting.now.diagram.now.nodes c.args.setting.now.profile.now c.args.setting.now.left_out c.args.product c.args.utility c.args.gains.now c.args.masses.now c.args.last.now c.args.before.now c.requires.before c.requires.room)) c.loop-s.world c.loop-s.gains c.loop-s.masses c.loop-s.s c.loop-s.invariant (subst (λ k. k ≤ c.loop-s.s) c.states-states.ensures.states (omega (arith, c.loop-s-test.false))) (subst (λ k. c.loop-s.s ≤ k) c.states-states.ensures.states c.loop-s.auto.s-end) cell ∙ ap (λ z. slice_index_or c.args.gains.now cell (pos 0) +ℤ gain_with c.args.setting.now.diagram.now.nodes c.args.setting.now.profile.now c.args.setting.now.left_out c.args.setting.now.marks.now (c.args.before.now.node ∷ c.args.last.now.node ∷ c.args.last.now.utility ∷ []) c.args.product z cell (world_of c.args.world.now)) same_sum ∙ ap (λ vs. slice_index_or c.args.gains.now cell (pos 0) +ℤ gain_with c.args.setting.now.diagram.now.nodes c.args.setting.now.profile.now c.args.setting.now.left_out c.args.setting.now.marks.now vs c.args.product c.args.utility cell (world_of c.args.world.now)) (sym (pair_nodes c.args.last.now c.args.before.now c.requires.before))

pub returns-clause-masses : goal.returns-clause-masses
returns-clause-masses c =
    let same_sum : to_z w128 (of_z w128 c.args.utility) ≡ c.args.utility = to_z-of_z w128 c.args.utility c.ranges.utility in
    λ cell. walk_masses c.args.setting.now.diagram.now c.requires.setting.diagram c.args.setting.now.profile.now c.requires.setting.profile c.args.setting.now.left_out c.args.setting.now.marks.now c.requires.setting.marked c.args.before.now.node (c.args.last.now.node ∷ c.args.last.now.utility ∷ []) c.requires.order c.args.product (to_z w128 (of_z w128 c.args.utility)) c.index-state.result.now c.args.world.now c.requires.world c.args.gains.now c.args.masses.now (room_same c.args.setting.now.diagram.now.nodes c.args.setting.now.profile.now c.args.setting.now.left_out (c.args.before.now.node ∷ c.args.last.now.node ∷ c.args.last.now.utility ∷ []) c.args.product c.args.gains.now c.args.masses.now same_sum (pair_room c.args.setting.now.diagram.now.nodes c.args.setting.now.profile.now c.args.setting.now.left_out c.args.product c.args.utility c.args.gains.now c.args.masses.now c.args.last.now c.args.before.now c.requires.before c.requires.room)) c.loop-s.world c.loop-s.gains c.loop-s.masses c.loop-s.s c.loop-s.invariant (subst (λ k. k ≤ c.loop-s.s) c.states-states.ensures.states (omega (arith, c.loop-s-test.false))) (subst (λ k. c.loop-s.s ≤ k) c.states-states.ensures.states c.loop-s.auto.s-end) cell ∙ ap (λ vs. pos (slice_index c.args.masses.now cell) +ℤ mass_with c.args.setting.now.diagram.now.nodes c.args.setting.now.profile.now c.args.setting.now.left_out vs c.args.product cell (world_of c.args.world.now)) (sym (pair_nodes c.args.last.now c.args.before.now c.requires.before))

pub states-states-requires : goal.states-states-requires
states-states-requires c = c.requires.order.0

pub row-requires-clause-node : goal.row-requires-clause-node
row-requires-clause-node c = c.requires.order.0

pub row-requires-clause-world : goal.row-requires-clause-world
row-requires-clause-world c = c.requires.world

pub index-state-requires : goal.index-state-requires
index-state-requires c =
    let inside : c.args.before.now.node < length c.world.inside.states.items = subst (λ l. c.args.before.now.node < length l) (sym c.world.view_is) (subst (λ n. c.args.before.now.node < n) (sym (world_length c.args.setting.now.diagram.now.nodes c.args.world.now c.requires.world)) c.requires.order.0) in
    omega (arith, inside, c.world.inside.states.ok.0)

pub set_state-requires : goal.set_state-requires
set_state-requires c = subst (λ n. c.args.before.now.node < n) (sym (world_length c.args.setting.now.diagram.now.nodes c.args.world.now c.requires.world)) c.requires.order.0

pub places_at-places-requires-clause-setting : goal.places_at-places-requires-clause-setting
places_at-places-requires-clause-setting c = c.requires.setting

pub places_at-places-requires-clause-last : goal.places_at-places-requires-clause-last
places_at-places-requires-clause-last c = c.requires.last

pub places_at-places-requires-clause-node : goal.places_at-places-requires-clause-node
places_at-places-requires-clause-node c = c.requires.order.2.0

pub places_at-places-requires-clause-utility : goal.places_at-places-requires-clause-utility
places_at-places-requires-clause-utility c = c.requires.order.2.2.0

pub factor-requires-clause-node : goal.factor-requires-clause-node
factor-requires-clause-node c = factors_node c.args.setting.now.diagram.now.nodes c.args.setting.now.profile.now c.args.setting.now.left_out c.args.setting.now.factors.now c.requires.setting.factors c.args.before.now.node c.requires.order.0

pub add_states-requires-clause-setting : goal.add_states-requires-clause-setting
add_states-requires-clause-setting c = c.requires.setting

pub add_states-requires-clause-last : goal.add_states-requires-clause-last
add_states-requires-clause-last c = c.requires.last

pub add_states-requires-clause-order : goal.add_states-requires-clause-order
add_states-requires-clause-order c = c.requires.order.2

pub add_states-requires-clause-gains : goal.add_states-requires-clause-gains
add_states-requires-clause-gains c = c.loop-s.invariant.gain_count ∙ c.requires.gains

pub add_states-requires-clause-masses : goal.add_states-requires-clause-masses
add_states-requires-clause-masses c = c.loop-s.invariant.mass_count ∙ c.requires.masses

pub loop-s-smaller : goal.loop-s-smaller
loop-s-smaller c = omega (arith, c.loop-s-test.true)

pub returns-clause-gain_count : goal.returns-clause-gain_count
returns-clause-gain_count c = c.loop-s.invariant.gain_count

pub returns-clause-mass_count : goal.returns-clause-mass_count
returns-clause-mass_count c = c.loop-s.invariant.mass_count

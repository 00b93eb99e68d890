use Rattle.std.proofs.Common.{length, ◌≡◌, ◌∙◌, ◌+◌, ◌*◌, ◌<◌, ◌≤◌, [], ◌∷◌, subst, ap, sym, pos, ◌+ℤ◌, slice_index, slice_index_or, to_z, of_z, arith}
use Rattle.std.proofs.lemmas.Int.{to_z-of_z}
use Rattle.std.specs.Int.{w128}
use Rattle.maid_model.specs.Nodes.{rows_of, states_of}
use Rattle.maid_model.specs.Worlds.{world_of}
use Rattle.tree_checker.specs.Walks.{factor_at, gain_with}
use Rattle.tree_checker.proofs.WalkLasts.{gain_fits, mass_fits, picked_added, states_start, sum_fits}
use Rattle.tree_checker.proofs.WalkOpened.{moved, nought, room_same}
use Rattle.tree_checker.proofs.WalkPlaces.{cell_at, cell_below, cell_fits, cell_of_factor, row_at, row_below, row_fits}
use Rattle.tree_checker.proofs.WalkSteps.{WalkSoFar, cell_small, cell_within, product_fits, walk_gains, walk_masses, walk_skip}
use Rattle.tree_checker.proofs.WalkTails.{factor_held, factors_cell, factors_node}
use Rattle.tree_checker.proofs.lasts.add_states.Goals as goal
use Rattle.tree_checker.proofs.lasts.add_states.Goals.{then-more-gt0, else-more-gt0}

pub loop-s-init : goal.loop-s-init
loop-s-init c =
    let same_sum : to_z w128 (of_z w128 c.args.utility) ≡ c.args.utility = to_z-of_z w128 c.args.utility c.ranges.utility in
    states_start c.args.setting.now.diagram.now c.requires.setting.diagram c.args.setting.now.profile.now c.requires.setting.profile c.args.setting.now.left_out c.args.setting.now.marks.now c.requires.setting.marked c.args.last.now.node c.args.last.now.utility c.requires.order c.args.product (to_z w128 (of_z w128 c.args.utility)) c.args.world.now c.requires.world c.args.gains.now c.args.masses.now (room_same c.args.setting.now.diagram.now.nodes c.args.setting.now.profile.now c.args.setting.now.left_out (c.args.last.now.node ∷ c.args.last.now.utility ∷ []) c.args.product c.args.gains.now c.args.masses.now same_sum c.requires.room)

pub overflow_add-places : goal.overflow_add-places
overflow_add-places c =
    let same_sum : to_z w128 (of_z w128 c.args.utility) ≡ c.args.utility = to_z-of_z w128 c.args.utility c.ranges.utility in
    let small : c.args.places.factor + c.loop-s.s < 65536 = subst (λ k. k < 65536) (sym (cell_of_factor c.args.setting.now.diagram.now c.requires.setting.diagram c.args.world.now c.requires.world c.args.last.now.node c.requires.order.0 c.args.setting.now.left_out c.args.last.now.utility c.requires.setting.decision c.requires.order.2.0 c.args.places c.requires.places c.loop-s.s)) (cell_small c.args.setting.now.diagram.now c.requires.setting.diagram c.args.setting.now.profile.now c.requires.setting.profile c.args.setting.now.left_out c.args.setting.now.marks.now c.requires.setting.marked c.args.last.now.node (c.args.last.now.utility ∷ []) c.requires.order c.args.product (to_z w128 (of_z w128 c.args.utility)) (slice_index c.args.world.now c.args.last.now.node) c.args.world.now c.requires.world c.args.gains.now c.args.masses.now (room_same c.args.setting.now.diagram.now.nodes c.args.setting.now.profile.now c.args.setting.now.left_out (c.args.last.now.node ∷ c.args.last.now.utility ∷ []) c.args.product c.args.gains.now c.args.masses.now same_sum c.requires.room) c.loop-s.s (subst (λ k. c.loop-s.s < k) c.states-s-end.ensures.states c.loop-s-test.true)) in
    omega (arith, small)

pub factor-requires-clause-cell : goal.factor-requires-clause-cell
factor-requires-clause-cell c =
    let same_sum : to_z w128 (of_z w128 c.args.utility) ≡ c.args.utility = to_z-of_z w128 c.args.utility c.ranges.utility in
    factors_cell c.args.setting.now.diagram.now.nodes c.args.setting.now.profile.now c.args.setting.now.left_out c.args.setting.now.factors.now c.requires.setting.factors c.args.last.now.node c.requires.order.0 (c.args.places.factor + c.loop-s.s) (subst (λ k. k < rows_of c.args.setting.now.diagram.now.nodes c.args.last.now.node * states_of c.args.setting.now.diagram.now.nodes c.args.last.now.node) (sym (cell_of_factor c.args.setting.now.diagram.now c.requires.setting.diagram c.args.world.now c.requires.world c.args.last.now.node c.requires.order.0 c.args.setting.now.left_out c.args.last.now.utility c.requires.setting.decision c.requires.order.2.0 c.args.places c.requires.places c.loop-s.s)) (cell_within c.args.setting.now.diagram.now c.requires.setting.diagram c.args.setting.now.profile.now c.requires.setting.profile c.args.setting.now.left_out c.args.setting.now.marks.now c.requires.setting.marked c.args.last.now.node (c.args.last.now.utility ∷ []) c.requires.order c.args.product (to_z w128 (of_z w128 c.args.utility)) (slice_index c.args.world.now c.args.last.now.node) c.args.world.now c.requires.world c.args.gains.now c.args.masses.now (room_same c.args.setting.now.diagram.now.nodes c.args.setting.now.profile.now c.args.setting.now.left_out (c.args.last.now.node ∷ c.args.last.now.utility ∷ []) c.args.product c.args.gains.now c.args.masses.now same_sum c.requires.room) c.loop-s.s (subst (λ k. c.loop-s.s < k) c.states-s-end.ensures.states c.loop-s-test.true)))

pub overflow_mul-more : goal.overflow_mul-more
overflow_mul-more c =
    let same_sum : to_z w128 (of_z w128 c.args.utility) ≡ c.args.utility = to_z-of_z w128 c.args.utility c.ranges.utility in
    omega (arith, product_fits c.args.setting.now.diagram.now c.requires.setting.diagram c.args.setting.now.profile.now c.requires.setting.profile c.args.setting.now.left_out c.args.setting.now.marks.now c.requires.setting.marked c.args.last.now.node (c.args.last.now.utility ∷ []) c.requires.order c.args.product (to_z w128 (of_z w128 c.args.utility)) (slice_index c.args.world.now c.args.last.now.node) c.args.world.now c.requires.world c.args.gains.now c.args.masses.now (room_same c.args.setting.now.diagram.now.nodes c.args.setting.now.profile.now c.args.setting.now.left_out (c.args.last.now.node ∷ c.args.last.now.utility ∷ []) c.args.product c.args.gains.now c.args.masses.now same_sum c.requires.room) c.args.world.now c.loop-s.gains c.loop-s.masses c.loop-s.s c.loop-s.invariant (subst (λ k. c.loop-s.s < k) c.states-s-end.ensures.states c.loop-s-test.true) c.factor.result (factor_held c.args.setting.now.diagram.now.nodes c.args.setting.now.profile.now c.args.setting.now.left_out c.args.setting.now.factors.now c.requires.setting.factors c.args.last.now.node c.requires.order.0 (c.args.places.factor + c.loop-s.s) (subst (λ k. k < rows_of c.args.setting.now.diagram.now.nodes c.args.last.now.node * states_of c.args.setting.now.diagram.now.nodes c.args.last.now.node) (sym (cell_of_factor c.args.setting.now.diagram.now c.requires.setting.diagram c.args.world.now c.requires.world c.args.last.now.node c.requires.order.0 c.args.setting.now.left_out c.args.last.now.utility c.requires.setting.decision c.requires.order.2.0 c.args.places c.requires.places c.loop-s.s)) (cell_within c.args.setting.now.diagram.now c.requires.setting.diagram c.args.setting.now.profile.now c.requires.setting.profile c.args.setting.now.left_out c.args.setting.now.marks.now c.requires.setting.marked c.args.last.now.node (c.args.last.now.utility ∷ []) c.requires.order c.args.product (to_z w128 (of_z w128 c.args.utility)) (slice_index c.args.world.now c.args.last.now.node) c.args.world.now c.requires.world c.args.gains.now c.args.masses.now (room_same c.args.setting.now.diagram.now.nodes c.args.setting.now.profile.now c.args.setting.now.left_out (c.args.last.now.node ∷ c.args.last.now.utility ∷ []) c.args.product c.args.gains.now c.args.masses.now same_sum c.requires.room) c.loop-s.s (subst (λ k. c.loop-s.s < k) c.states-s-end.ensures.states c.loop-s-test.true))) c.factor.result c.factor.ensures ∙ ap (factor_at c.args.setting.now.diagram.now.nodes c.args.setting.now.profile.now c.args.setting.now.left_out c.args.last.now.node) (cell_of_factor c.args.setting.now.diagram.now c.requires.setting.diagram c.args.world.now c.requires.world c.args.last.now.node c.requires.order.0 c.args.setting.now.left_out c.args.last.now.utility c.requires.setting.decision c.requires.order.2.0 c.args.places c.requires.places c.loop-s.s)))

pub overflow_mul-s : goal.overflow_mul-s
overflow_mul-s c =
    omega (arith, row_fits c.args.setting.now.diagram.now c.requires.setting.diagram c.args.world.now c.requires.world c.args.last.now.node c.requires.order.0 c.args.setting.now.left_out c.args.last.now.utility c.requires.setting.decision c.requires.order.2.0 c.args.places c.requires.places c.args.last.now.row_step c.requires.last.row c.loop-s.s (subst (λ k. c.loop-s.s < k) c.states-s-end.ensures.states c.loop-s-test.true))

pub overflow_add-places-then-more-gt0 : goal.overflow_add-places-then-more-gt0
overflow_add-places-then-more-gt0 c =
    omega (arith, row_fits c.args.setting.now.diagram.now c.requires.setting.diagram c.args.world.now c.requires.world c.args.last.now.node c.requires.order.0 c.args.setting.now.left_out c.args.last.now.utility c.requires.setting.decision c.requires.order.2.0 c.args.places c.requires.places c.args.last.now.row_step c.requires.last.row c.loop-s.s (subst (λ k. c.loop-s.s < k) c.states-s-end.ensures.states c.loop-s-test.true))

pub overflow_mul-s-then-more-gt0 : goal.overflow_mul-s-then-more-gt0
overflow_mul-s-then-more-gt0 c =
    omega (arith, cell_fits c.args.setting.now.diagram.now c.requires.setting.diagram c.args.world.now c.requires.world c.args.last.now.node c.requires.order.0 c.args.setting.now.left_out c.args.last.now.utility c.requires.setting.decision c.requires.order.2.0 c.args.places c.requires.places c.args.last.now.cell_step c.requires.last.cell c.loop-s.s (subst (λ k. c.loop-s.s < k) c.states-s-end.ensures.states c.loop-s-test.true))

pub overflow_add-places-then-more-gt0-2 : goal.overflow_add-places-then-more-gt0-2
overflow_add-places-then-more-gt0-2 c =
    omega (arith, cell_fits c.args.setting.now.diagram.now c.requires.setting.diagram c.args.world.now c.requires.world c.args.last.now.node c.requires.order.0 c.args.setting.now.left_out c.args.last.now.utility c.requires.setting.decision c.requires.order.2.0 c.args.places c.requires.places c.args.last.now.cell_step c.requires.last.cell c.loop-s.s (subst (λ k. c.loop-s.s < k) c.states-s-end.ensures.states c.loop-s-test.true))

pub add_picked-requires-clause-row : goal.add_picked-requires-clause-row
add_picked-requires-clause-row c =
    let same_sum : to_z w128 (of_z w128 c.args.utility) ≡ c.args.utility = to_z-of_z w128 c.args.utility c.ranges.utility in
    subst (λ n. (c.args.places.row + c.loop-s.s * c.args.last.now.row_step) < n) (sym (ap length c.cells-values.ensures.cells ∙ c.cells-values.ensures.diagram.values.utility c.args.last.now.utility c.requires.order.2.0 c.requires.last.utility)) (row_below c.args.setting.now.diagram.now c.requires.setting.diagram c.args.world.now c.requires.world c.args.last.now.node c.requires.order.0 c.args.setting.now.left_out c.args.last.now.utility c.requires.setting.decision c.requires.order.2.0 c.args.places c.requires.places c.args.last.now.row_step c.requires.last.row c.loop-s.s (subst (λ k. c.loop-s.s < k) c.states-s-end.ensures.states c.loop-s-test.true))

pub add_picked-requires-clause-gains : goal.add_picked-requires-clause-gains
add_picked-requires-clause-gains c =
    subst (λ k. (c.args.places.cell + c.loop-s.s * c.args.last.now.cell_step) < k) (sym (c.loop-s.invariant.gain_count ∙ c.requires.gains)) (cell_below c.args.setting.now.diagram.now c.requires.setting.diagram c.args.world.now c.requires.world c.args.last.now.node c.requires.order.0 c.args.setting.now.left_out c.args.last.now.utility c.requires.setting.decision c.requires.order.2.0 c.args.places c.requires.places c.args.last.now.cell_step c.requires.last.cell c.loop-s.s (subst (λ k. c.loop-s.s < k) c.states-s-end.ensures.states c.loop-s-test.true))

pub add_picked-requires-clause-masses : goal.add_picked-requires-clause-masses
add_picked-requires-clause-masses c =
    subst (λ k. (c.args.places.cell + c.loop-s.s * c.args.last.now.cell_step) < k) (sym (c.loop-s.invariant.mass_count ∙ c.requires.masses)) (cell_below c.args.setting.now.diagram.now c.requires.setting.diagram c.args.world.now c.requires.world c.args.last.now.node c.requires.order.0 c.args.setting.now.left_out c.args.last.now.utility c.requires.setting.decision c.requires.order.2.0 c.args.places c.requires.places c.args.last.now.cell_step c.requires.last.cell c.loop-s.s (subst (λ k. c.loop-s.s < k) c.states-s-end.ensures.states c.loop-s-test.true))

pub add_picked-requires-clause-sum : goal.add_picked-requires-clause-sum
add_picked-requires-clause-sum c =
    let same_sum : to_z w128 (of_z w128 c.args.utility) ≡ c.args.utility = to_z-of_z w128 c.args.utility c.ranges.utility in
    sum_fits c.args.setting.now.diagram.now c.requires.setting.diagram c.args.setting.now.profile.now c.requires.setting.profile c.args.setting.now.left_out c.args.setting.now.marks.now c.requires.setting.marked c.args.last.now.node c.args.last.now.utility c.requires.order c.args.product (to_z w128 (of_z w128 c.args.utility)) c.args.world.now c.requires.world c.args.gains.now c.args.masses.now (room_same c.args.setting.now.diagram.now.nodes c.args.setting.now.profile.now c.args.setting.now.left_out (c.args.last.now.node ∷ c.args.last.now.utility ∷ []) c.args.product c.args.gains.now c.args.masses.now same_sum c.requires.room) c.requires.last.weighs c.requires.last.utility c.loop-s.gains c.loop-s.masses c.loop-s.s c.loop-s.invariant (subst (λ k. c.loop-s.s < k) c.states-s-end.ensures.states c.loop-s-test.true) c.factor.result (factor_held c.args.setting.now.diagram.now.nodes c.args.setting.now.profile.now c.args.setting.now.left_out c.args.setting.now.factors.now c.requires.setting.factors c.args.last.now.node c.requires.order.0 (c.args.places.factor + c.loop-s.s) (subst (λ k. k < rows_of c.args.setting.now.diagram.now.nodes c.args.last.now.node * states_of c.args.setting.now.diagram.now.nodes c.args.last.now.node) (sym (cell_of_factor c.args.setting.now.diagram.now c.requires.setting.diagram c.args.world.now c.requires.world c.args.last.now.node c.requires.order.0 c.args.setting.now.left_out c.args.last.now.utility c.requires.setting.decision c.requires.order.2.0 c.args.places c.requires.places c.loop-s.s)) (cell_within c.args.setting.now.diagram.now c.requires.setting.diagram c.args.setting.now.profile.now c.requires.setting.profile c.args.setting.now.left_out c.args.setting.now.marks.now c.requires.setting.marked c.args.last.now.node (c.args.last.now.utility ∷ []) c.requires.order c.args.product (to_z w128 (of_z w128 c.args.utility)) (slice_index c.args.world.now c.args.last.now.node) c.args.world.now c.requires.world c.args.gains.now c.args.masses.now (room_same c.args.setting.now.diagram.now.nodes c.args.setting.now.profile.now c.args.setting.now.left_out (c.args.last.now.node ∷ c.args.last.now.utility ∷ []) c.args.product c.args.gains.now c.args.masses.now same_sum c.requires.room) c.loop-s.s (subst (λ k. c.loop-s.s < k) c.states-s-end.ensures.states c.loop-s-test.true))) c.factor.result c.factor.ensures ∙ ap (factor_at c.args.setting.now.diagram.now.nodes c.args.setting.now.profile.now c.args.setting.now.left_out c.args.last.now.node) (cell_of_factor c.args.setting.now.diagram.now c.requires.setting.diagram c.args.world.now c.requires.world c.args.last.now.node c.requires.order.0 c.args.setting.now.left_out c.args.last.now.utility c.requires.setting.decision c.requires.order.2.0 c.args.places c.requires.places c.loop-s.s)) c.requires.last.marked c.cells-values.result.now c.cells-values.ensures.cells (c.args.places.row + c.loop-s.s * c.args.last.now.row_step)

pub add_picked-requires-clause-gain : goal.add_picked-requires-clause-gain
add_picked-requires-clause-gain c =
    let same_sum : to_z w128 (of_z w128 c.args.utility) ≡ c.args.utility = to_z-of_z w128 c.args.utility c.ranges.utility in
    gain_fits c.args.setting.now.diagram.now c.requires.setting.diagram c.args.setting.now.profile.now c.requires.setting.profile c.args.setting.now.left_out c.args.setting.now.marks.now c.requires.setting.marked c.args.last.now.node c.args.last.now.utility c.requires.order c.args.product (to_z w128 (of_z w128 c.args.utility)) c.args.world.now c.requires.world c.args.gains.now c.args.masses.now (room_same c.args.setting.now.diagram.now.nodes c.args.setting.now.profile.now c.args.setting.now.left_out (c.args.last.now.node ∷ c.args.last.now.utility ∷ []) c.args.product c.args.gains.now c.args.masses.now same_sum c.requires.room) c.requires.last.weighs c.requires.last.utility c.loop-s.gains c.loop-s.masses c.loop-s.s c.loop-s.invariant (subst (λ k. c.loop-s.s < k) c.states-s-end.ensures.states c.loop-s-test.true) c.factor.result (factor_held c.args.setting.now.diagram.now.nodes c.args.setting.now.profile.now c.args.setting.now.left_out c.args.setting.now.factors.now c.requires.setting.factors c.args.last.now.node c.requires.order.0 (c.args.places.factor + c.loop-s.s) (subst (λ k. k < rows_of c.args.setting.now.diagram.now.nodes c.args.last.now.node * states_of c.args.setting.now.diagram.now.nodes c.args.last.now.node) (sym (cell_of_factor c.args.setting.now.diagram.now c.requires.setting.diagram c.args.world.now c.requires.world c.args.last.now.node c.requires.order.0 c.args.setting.now.left_out c.args.last.now.utility c.requires.setting.decision c.requires.order.2.0 c.args.places c.requires.places c.loop-s.s)) (cell_within c.args.setting.now.diagram.now c.requires.setting.diagram c.args.setting.now.profile.now c.requires.setting.profile c.args.setting.now.left_out c.args.setting.now.marks.now c.requires.setting.marked c.args.last.now.node (c.args.last.now.utility ∷ []) c.requires.order c.args.product (to_z w128 (of_z w128 c.args.utility)) (slice_index c.args.world.now c.args.last.now.node) c.args.world.now c.requires.world c.args.gains.now c.args.masses.now (room_same c.args.setting.now.diagram.now.nodes c.args.setting.now.profile.now c.args.setting.now.left_out (c.args.last.now.node ∷ c.args.last.now.utility ∷ []) c.args.product c.args.gains.now c.args.masses.now same_sum c.requires.room) c.loop-s.s (subst (λ k. c.loop-s.s < k) c.states-s-end.ensures.states c.loop-s-test.true))) c.factor.result c.factor.ensures ∙ ap (factor_at c.args.setting.now.diagram.now.nodes c.args.setting.now.profile.now c.args.setting.now.left_out c.args.last.now.node) (cell_of_factor c.args.setting.now.diagram.now c.requires.setting.diagram c.args.world.now c.requires.world c.args.last.now.node c.requires.order.0 c.args.setting.now.left_out c.args.last.now.utility c.requires.setting.decision c.requires.order.2.0 c.args.places c.requires.places c.loop-s.s)) c.requires.last.marked c.cells-values.result.now c.cells-values.ensures.cells (c.args.places.row + c.loop-s.s * c.args.last.now.row_step) (c.args.places.cell + c.loop-s.s * c.args.last.now.cell_step)

pub add_picked-requires-clause-mass : goal.add_picked-requires-clause-mass
add_picked-requires-clause-mass c =
    let same_sum : to_z w128 (of_z w128 c.args.utility) ≡ c.args.utility = to_z-of_z w128 c.args.utility c.ranges.utility in
    mass_fits c.args.setting.now.diagram.now c.requires.setting.diagram c.args.setting.now.profile.now c.requires.setting.profile c.args.setting.now.left_out c.args.setting.now.marks.now c.requires.setting.marked c.args.last.now.node c.args.last.now.utility c.requires.order c.args.product (to_z w128 (of_z w128 c.args.utility)) c.args.world.now c.requires.world c.args.gains.now c.args.masses.now (room_same c.args.setting.now.diagram.now.nodes c.args.setting.now.profile.now c.args.setting.now.left_out (c.args.last.now.node ∷ c.args.last.now.utility ∷ []) c.args.product c.args.gains.now c.args.masses.now same_sum c.requires.room) c.requires.last.weighs c.requires.last.utility c.loop-s.gains c.loop-s.masses c.loop-s.s c.loop-s.invariant (subst (λ k. c.loop-s.s < k) c.states-s-end.ensures.states c.loop-s-test.true) c.factor.result (factor_held c.args.setting.now.diagram.now.nodes c.args.setting.now.profile.now c.args.setting.now.left_out c.args.setting.now.factors.now c.requires.setting.factors c.args.last.now.node c.requires.order.0 (c.args.places.factor + c.loop-s.s) (subst (λ k. k < rows_of c.args.setting.now.diagram.now.nodes c.args.last.now.node * states_of c.args.setting.now.diagram.now.nodes c.args.last.now.node) (sym (cell_of_factor c.args.setting.now.diagram.now c.requires.setting.diagram c.args.world.now c.requires.world c.args.last.now.node c.requires.order.0 c.args.setting.now.left_out c.args.last.now.utility c.requires.setting.decision c.requires.order.2.0 c.args.places c.requires.places c.loop-s.s)) (cell_within c.args.setting.now.diagram.now c.requires.setting.diagram c.args.setting.now.profile.now c.requires.setting.profile c.args.setting.now.left_out c.args.setting.now.marks.now c.requires.setting.marked c.args.last.now.node (c.args.last.now.utility ∷ []) c.requires.order c.args.product (to_z w128 (of_z w128 c.args.utility)) (slice_index c.args.world.now c.args.last.now.node) c.args.world.now c.requires.world c.args.gains.now c.args.masses.now (room_same c.args.setting.now.diagram.now.nodes c.args.setting.now.profile.now c.args.setting.now.left_out (c.args.last.now.node ∷ c.args.last.now.utility ∷ []) c.args.product c.args.gains.now c.args.masses.now same_sum c.requires.room) c.loop-s.s (subst (λ k. c.loop-s.s < k) c.states-s-end.ensures.states c.loop-s-test.true))) c.factor.result c.factor.ensures ∙ ap (factor_at c.args.setting.now.diagram.now.nodes c.args.setting.now.profile.now c.args.setting.now.left_out c.args.last.now.node) (cell_of_factor c.args.setting.now.diagram.now c.requires.setting.diagram c.args.world.now c.requires.world c.args.last.now.node c.requires.order.0 c.args.setting.now.left_out c.args.last.now.utility c.requires.setting.decision c.requires.order.2.0 c.args.places c.requires.places c.loop-s.s)) (c.args.places.cell + c.loop-s.s * c.args.last.now.cell_step)

pub loop-s-preserved : goal.loop-s-preserved
loop-s-preserved c =
    let same_sum : to_z w128 (of_z w128 c.args.utility) ≡ c.args.utility = to_z-of_z w128 c.args.utility c.ranges.utility in
    elim c.if-more-gt0.branch [
      | then-more-gt0 w ↦
          moved (λ xs gains masses. WalkSoFar c.args.setting.now.diagram.now.nodes c.args.setting.now.profile.now c.args.setting.now.left_out c.args.setting.now.marks.now c.args.last.now.node (c.args.last.now.utility ∷ []) c.args.product (to_z w128 (of_z w128 c.args.utility)) (slice_index c.args.world.now c.args.last.now.node) c.args.world.now c.args.gains.now c.args.masses.now c.args.world.now gains masses (c.loop-s.s + 1)) (λ i. c.args.world.now) w.gains-is w.masses-is
          (picked_added c.args.setting.now.diagram.now c.requires.setting.diagram c.args.setting.now.profile.now c.requires.setting.profile c.args.setting.now.left_out c.args.setting.now.marks.now c.requires.setting.marked c.args.last.now.node c.args.last.now.utility c.requires.order c.args.product (to_z w128 (of_z w128 c.args.utility)) c.args.world.now c.requires.world c.args.gains.now c.args.masses.now (room_same c.args.setting.now.diagram.now.nodes c.args.setting.now.profile.now c.args.setting.now.left_out (c.args.last.now.node ∷ c.args.last.now.utility ∷ []) c.args.product c.args.gains.now c.args.masses.now same_sum c.requires.room) c.requires.last.weighs c.requires.last.utility c.loop-s.gains c.loop-s.masses c.loop-s.s c.loop-s.invariant (subst (λ k. c.loop-s.s < k) c.states-s-end.ensures.states c.loop-s-test.true) c.factor.result (factor_held c.args.setting.now.diagram.now.nodes c.args.setting.now.profile.now c.args.setting.now.left_out c.args.setting.now.factors.now c.requires.setting.factors c.args.last.now.node c.requires.order.0 (c.args.places.factor + c.loop-s.s) (subst (λ k. k < rows_of c.args.setting.now.diagram.now.nodes c.args.last.now.node * states_of c.args.setting.now.diagram.now.nodes c.args.last.now.node) (sym (cell_of_factor c.args.setting.now.diagram.now c.requires.setting.diagram c.args.world.now c.requires.world c.args.last.now.node c.requires.order.0 c.args.setting.now.left_out c.args.last.now.utility c.requires.setting.decision c.requires.order.2.0 c.args.places c.requires.places c.loop-s.s)) (cell_within c.args.setting.now.diagram.now c.requires.setting.diagram c.args.setting.now.profile.now c.requires.setting.profile c.args.setting.now.left_out c.args.setting.now.marks.now c.requires.setting.marked c.args.last.now.node (c.args.last.now.utility ∷ []) c.requires.order c.args.product (to_z w128 (of_z w128 c.args.utility)) (slice_index c.args.world.now c.args.last.now.node) c.args.world.now c.requires.world c.args.gains.now c.args.masses.now (room_same c.args.setting.now.diagram.now.nodes c.args.setting.now.profile.now c.args.setting.now.left_out (c.args.last.now.node ∷ c.args.last.now.utility ∷ []) c.args.product c.args.gains.now c.args.masses.now same_sum c.requires.room) c.loop-s.s (subst (λ k. c.loop-s.s < k) c.states-s-end.ensures.states c.loop-s-test.true))) c.factor.result c.factor.ensures ∙ ap (factor_at c.args.setting.now.diagram.now.nodes c.args.setting.now.profile.now c.args.setting.now.left_out c.args.last.now.node) (cell_of_factor c.args.setting.now.diagram.now c.requires.setting.diagram c.args.world.now c.requires.world c.args.last.now.node c.requires.order.0 c.args.setting.now.left_out c.args.last.now.utility c.requires.setting.decision c.requires.order.2.0 c.args.places c.requires.places c.loop-s.s)) c.requires.last.marked c.cells-values.result.now c.cells-values.ensures.cells (c.args.places.row + c.loop-s.s * c.args.last.now.row_step) (c.args.places.cell + c.loop-s.s * c.args.last.now.cell_step)
          (row_at c.args.setting.now.diagram.now c.requires.setting.diagram c.args.world.now c.requires.world c.args.last.now.node c.requires.order.0 c.args.setting.now.left_out c.args.last.now.utility c.requires.setting.decision c.requires.order.2.0 c.args.places c.requires.places c.args.last.now.row_step c.requires.last.row c.loop-s.s) (cell_at c.args.setting.now.diagram.now c.requires.setting.diagram c.args.world.now c.requires.world c.args.last.now.node c.requires.order.0 c.args.setting.now.left_out c.args.last.now.utility c.requires.setting.decision c.requires.order.2.0 c.args.places c.requires.places c.args.last.now.cell_step c.requires.last.cell c.loop-s.s)
          w.add_picked.new.gains w.add_picked.new.masses w.add_picked.ensures.gains w.add_picked.ensures.masses w.add_picked.ensures.gain_count w.add_picked.ensures.mass_count)
      | else-more-gt0 w ↦
          moved (λ xs gains masses. WalkSoFar c.args.setting.now.diagram.now.nodes c.args.setting.now.profile.now c.args.setting.now.left_out c.args.setting.now.marks.now c.args.last.now.node (c.args.last.now.utility ∷ []) c.args.product (to_z w128 (of_z w128 c.args.utility)) (slice_index c.args.world.now c.args.last.now.node) c.args.world.now c.args.gains.now c.args.masses.now c.args.world.now gains masses (c.loop-s.s + 1)) (λ i. c.args.world.now) w.gains-is w.masses-is
          (walk_skip c.args.setting.now.diagram.now c.requires.setting.diagram c.args.setting.now.profile.now c.requires.setting.profile c.args.setting.now.left_out c.args.setting.now.marks.now c.requires.setting.marked c.args.last.now.node (c.args.last.now.utility ∷ []) c.requires.order c.args.product (to_z w128 (of_z w128 c.args.utility)) (slice_index c.args.world.now c.args.last.now.node) c.args.world.now c.requires.world c.args.gains.now c.args.masses.now (room_same c.args.setting.now.diagram.now.nodes c.args.setting.now.profile.now c.args.setting.now.left_out (c.args.last.now.node ∷ c.args.last.now.utility ∷ []) c.args.product c.args.gains.now c.args.masses.now same_sum c.requires.room) c.args.world.now c.loop-s.gains c.loop-s.masses c.loop-s.s c.loop-s.invariant (subst (λ k. c.loop-s.s < k) c.states-s-end.ensures.states c.loop-s-test.true) c.factor.result (factor_held c.args.setting.now.diagram.now.nodes c.args.setting.now.profile.now c.args.setting.now.left_out c.args.setting.now.factors.now c.requires.setting.factors c.args.last.now.node c.requires.order.0 (c.args.places.factor + c.loop-s.s) (subst (λ k. k < rows_of c.args.setting.now.diagram.now.nodes c.args.last.now.node * states_of c.args.setting.now.diagram.now.nodes c.args.last.now.node) (sym (cell_of_factor c.args.setting.now.diagram.now c.requires.setting.diagram c.args.world.now c.requires.world c.args.last.now.node c.requires.order.0 c.args.setting.now.left_out c.args.last.now.utility c.requires.setting.decision c.requires.order.2.0 c.args.places c.requires.places c.loop-s.s)) (cell_within c.args.setting.now.diagram.now c.requires.setting.diagram c.args.setting.now.profile.now c.requires.setting.profile c.args.setting.now.left_out c.args.setting.now.marks.now c.requires.setting.marked c.args.last.now.node (c.args.last.now.utility ∷ []) c.requires.order c.args.product (to_z w128 (of_z w128 c.args.utility)) (slice_index c.args.world.now c.args.last.now.node) c.args.world.now c.requires.world c.args.gains.now c.args.masses.now (room_same c.args.setting.now.diagram.now.nodes c.args.setting.now.profile.now c.args.setting.now.left_out (c.args.last.now.node ∷ c.args.last.now.utility ∷ []) c.args.product c.args.gains.now c.args.masses.now same_sum c.requires.room) c.loop-s.s (subst (λ k. c.loop-s.s < k) c.states-s-end.ensures.states c.loop-s-test.true))) c.factor.result c.factor.ensures ∙ ap (factor_at c.args.setting.now.diagram.now.nodes c.args.setting.now.profile.now c.args.setting.now.left_out c.args.last.now.node) (cell_of_factor c.args.setting.now.diagram.now c.requires.setting.diagram c.args.world.now c.requires.world c.args.last.now.node c.requires.order.0 c.args.setting.now.left_out c.args.last.now.utility c.requires.setting.decision c.requires.order.2.0 c.args.places c.requires.places c.loop-s.s)) (nought (c.args.product * c.factor.result) w.if-more-gt0.false))
    ]

pub returns-clause-gains : goal.returns-clause-gains
returns-clause-gains c =
    let same_sum : to_z w128 (of_z w128 c.args.utility) ≡ c.args.utility = to_z-of_z w128 c.args.utility c.ranges.utility in
    λ cell. walk_gains c.args.setting.now.diagram.now c.requires.setting.diagram c.args.setting.now.profile.now c.requires.setting.profile c.args.setting.now.left_out c.args.setting.now.marks.now c.requires.setting.marked c.args.last.now.node (c.args.last.now.utility ∷ []) c.requires.order c.args.product (to_z w128 (of_z w128 c.args.utility)) (slice_index c.args.world.now c.args.last.now.node) c.args.world.now c.requires.world c.args.gains.now c.args.masses.now (room_same c.args.setting.now.diagram.now.nodes c.args.setting.now.profile.now c.args.setting.now.left_out (c.args.last.now.node ∷ c.args.last.now.utility ∷ []) c.args.product c.args.gains.now c.args.masses.now same_sum c.requires.room) c.args.world.now c.loop-s.gains c.loop-s.masses c.loop-s.s c.loop-s.invariant (subst (λ k. k ≤ c.loop-s.s) c.states-s-end.ensures.states (omega (arith, c.loop-s-test.false))) (subst (λ k. c.loop-s.s ≤ k) c.states-s-end.ensures.states c.loop-s.auto.s-end) cell ∙ ap (λ z. slice_index_or c.args.gains.now cell (pos 0) +ℤ gain_with c.args.setting.now.diagram.now.nodes c.args.setting.now.profile.now c.args.setting.now.left_out c.args.setting.now.marks.now (c.args.last.now.node ∷ c.args.last.now.utility ∷ []) c.args.product z cell (world_of c.args.world.now)) same_sum

pub returns-clause-masses : goal.returns-clause-masses
returns-clause-masses c =
    let same_sum : to_z w128 (of_z w128 c.args.utility) ≡ c.args.utility = to_z-of_z w128 c.args.utility c.ranges.utility in
    λ cell. walk_masses c.args.setting.now.diagram.now c.requires.setting.diagram c.args.setting.now.profile.now c.requires.setting.profile c.args.setting.now.left_out c.args.setting.now.marks.now c.requires.setting.marked c.args.last.now.node (c.args.last.now.utility ∷ []) c.requires.order c.args.product (to_z w128 (of_z w128 c.args.utility)) (slice_index c.args.world.now c.args.last.now.node) c.args.world.now c.requires.world c.args.gains.now c.args.masses.now (room_same c.args.setting.now.diagram.now.nodes c.args.setting.now.profile.now c.args.setting.now.left_out (c.args.last.now.node ∷ c.args.last.now.utility ∷ []) c.args.product c.args.gains.now c.args.masses.now same_sum c.requires.room) c.args.world.now c.loop-s.gains c.loop-s.masses c.loop-s.s c.loop-s.invariant (subst (λ k. k ≤ c.loop-s.s) c.states-s-end.ensures.states (omega (arith, c.loop-s-test.false))) (subst (λ k. c.loop-s.s ≤ k) c.states-s-end.ensures.states c.loop-s.auto.s-end) cell

pub cells-values-requires : goal.cells-values-requires
cells-values-requires c = c.requires.order.2.0

pub states-s-end-requires : goal.states-s-end-requires
states-s-end-requires c = c.requires.order.0

pub factor-requires-clause-node : goal.factor-requires-clause-node
factor-requires-clause-node c = factors_node c.args.setting.now.diagram.now.nodes c.args.setting.now.profile.now c.args.setting.now.left_out c.args.setting.now.factors.now c.requires.setting.factors c.args.last.now.node c.requires.order.0

pub loop-s-smaller : goal.loop-s-smaller
loop-s-smaller c = omega (arith, c.loop-s-test.true)

pub returns-clause-gain_count : goal.returns-clause-gain_count
returns-clause-gain_count c = c.loop-s.invariant.gain_count

pub returns-clause-mass_count : goal.returns-clause-mass_count
returns-clause-mass_count c = c.loop-s.invariant.mass_count

use Rattle.std.proofs.Common.{rules, ◌≡◌, ◌∙◌, ◌+◌, ◌-◌, ◌*◌, ◌<◌, ◌≤◌, ◌++◌, length, take, drop, sym, ap, subst, arith, slice_index, slice_index_or, pos, ◌+ℤ◌, FitsSigned, to_z, of_z}
use Rattle.std.proofs.lemmas.Int.{to_z-of_z}
use Rattle.std.proofs.Math.IntN.{+ℤ_idr}
use Rattle.std.specs.Int.{w128}
use Rattle.maid_model.specs.Worlds.{world_of}
use Rattle.maid_model.specs.Nodes.{rows_of, states_of}
use Rattle.maid_model.specs.Private.{marked_value}
use Rattle.maid_model.proofs.Picked.{cell_times_fits, world_length}
use Rattle.tree_checker.specs.Walks.{HasRoomToWalk, IsDownward, ending, factor_at, gain_with, mass_with, value_at}
use Rattle.tree_checker.proofs.WalkTables.{no_value}
use Rattle.tree_checker.proofs.WalkOpened.{down_with, none_before, room_with, whole_opened, shorter, small_fits, room_same, gains_same, moved, nought}
use Rattle.tree_checker.proofs.WalkSteps.{WalkSoFar, row_within, utility_gain, utility_mass, utility_room, cell_within, cell_small, walk_start, within, walk_gains, walk_masses, next_world, product_fits, walk_skip, sum_fits, next_room, walk_step}
use Rattle.tree_checker.proofs.WalkTails.{factor_held, factors_cell, factors_node}
use Rattle.tree_checker.proofs.walks.+walk.Goals as goal
use Rattle.tree_checker.proofs.walks.+walk.Goals.{then-more-gt0, else-more-gt0}

pub loop-s-init : goal.loop-s-init
loop-s-init t c =
    let some : 0 < length c.args.order.now = c.in-len1-up.len_at_least in
    let same_sum : to_z w128 (of_z w128 c.args.utility) ≡ c.args.utility = to_z-of_z w128 c.args.utility c.ranges.utility in
    walk_start c.args.setting.now.diagram.now c.requires.setting.diagram c.args.setting.now.profile.now c.requires.setting.profile c.args.setting.now.left_out c.args.setting.now.marks.now c.requires.setting.marked (slice_index_or c.args.order.now 0 0) (take (length c.args.order.now - 1) (drop 1 c.args.order.now) ++ (ending c.args.setting.now.last c.args.setting.now.tail.now)) (down_with c.args.setting.now.diagram.now.nodes c.args.order.now (ending c.args.setting.now.last c.args.setting.now.tail.now) some c.requires.order) c.args.product (to_z w128 (of_z w128 c.args.utility)) c.index-before.result.now c.args.world.now c.requires.world c.args.gains.now c.args.masses.now (room_with c.args.setting.now.diagram.now.nodes c.args.setting.now.profile.now c.args.setting.now.left_out c.args.order.now (ending c.args.setting.now.last c.args.setting.now.tail.now) some c.args.product (to_z w128 (of_z w128 c.args.utility)) c.args.utility same_sum c.args.gains.now c.args.masses.now c.requires.room) c.args.world.now (c.index-before.ensures ∙ ap (λ l. slice_index_or l (slice_index_or c.args.order.now 0 0) c.index-before.result.now) c.world.view_is) (λ i. c.args.world.now)

pub set_state-requires : goal.set_state-requires
set_state-requires t c =
    let some : 0 < length c.args.order.now = c.in-len1-up.len_at_least in
    let same_sum : to_z w128 (of_z w128 c.args.utility) ≡ c.args.utility = to_z-of_z w128 c.args.utility c.ranges.utility in
    within c.args.setting.now.diagram.now c.requires.setting.diagram c.args.setting.now.profile.now c.requires.setting.profile c.args.setting.now.left_out c.args.setting.now.marks.now c.requires.setting.marked (slice_index_or c.args.order.now 0 0) (take (length c.args.order.now - 1) (drop 1 c.args.order.now) ++ (ending c.args.setting.now.last c.args.setting.now.tail.now)) (down_with c.args.setting.now.diagram.now.nodes c.args.order.now (ending c.args.setting.now.last c.args.setting.now.tail.now) some c.requires.order) c.args.product (to_z w128 (of_z w128 c.args.utility)) c.index-before.result.now c.args.world.now c.requires.world c.args.gains.now c.args.masses.now (room_with c.args.setting.now.diagram.now.nodes c.args.setting.now.profile.now c.args.setting.now.left_out c.args.order.now (ending c.args.setting.now.last c.args.setting.now.tail.now) some c.args.product (to_z w128 (of_z w128 c.args.utility)) c.args.utility same_sum c.args.gains.now c.args.masses.now c.requires.room) c.loop-s.world c.loop-s.gains c.loop-s.masses c.loop-s.s c.loop-s.invariant

pub factor-requires : goal.factor-requires
factor-requires t c =
    let some : 0 < length c.args.order.now = c.in-len1-up.len_at_least in
    let same_sum : to_z w128 (of_z w128 c.args.utility) ≡ c.args.utility = to_z-of_z w128 c.args.utility c.ranges.utility in
    record {
      node = factors_node c.args.setting.now.diagram.now.nodes c.args.setting.now.profile.now c.args.setting.now.left_out c.args.setting.now.factors.now c.requires.setting.factors (slice_index_or c.args.order.now 0 0) ((down_with c.args.setting.now.diagram.now.nodes c.args.order.now (ending c.args.setting.now.last c.args.setting.now.tail.now) some c.requires.order).0);
      cell = factors_cell c.args.setting.now.diagram.now.nodes c.args.setting.now.profile.now c.args.setting.now.left_out c.args.setting.now.factors.now c.requires.setting.factors (slice_index_or c.args.order.now 0 0) ((down_with c.args.setting.now.diagram.now.nodes c.args.order.now (ending c.args.setting.now.last c.args.setting.now.tail.now) some c.requires.order).0) (c.row-row.result * c.states-states.result + c.loop-s.s) (subst (λ k. k < rows_of c.args.setting.now.diagram.now.nodes (slice_index_or c.args.order.now 0 0) * states_of c.args.setting.now.diagram.now.nodes (slice_index_or c.args.order.now 0 0)) (sym (λ i. c.row-row.ensures i * c.states-states.ensures.states i + c.loop-s.s)) (cell_within c.args.setting.now.diagram.now c.requires.setting.diagram c.args.setting.now.profile.now c.requires.setting.profile c.args.setting.now.left_out c.args.setting.now.marks.now c.requires.setting.marked (slice_index_or c.args.order.now 0 0) (take (length c.args.order.now - 1) (drop 1 c.args.order.now) ++ (ending c.args.setting.now.last c.args.setting.now.tail.now)) (down_with c.args.setting.now.diagram.now.nodes c.args.order.now (ending c.args.setting.now.last c.args.setting.now.tail.now) some c.requires.order) c.args.product (to_z w128 (of_z w128 c.args.utility)) c.index-before.result.now c.args.world.now c.requires.world c.args.gains.now c.args.masses.now (room_with c.args.setting.now.diagram.now.nodes c.args.setting.now.profile.now c.args.setting.now.left_out c.args.order.now (ending c.args.setting.now.last c.args.setting.now.tail.now) some c.args.product (to_z w128 (of_z w128 c.args.utility)) c.args.utility same_sum c.args.gains.now c.args.masses.now c.requires.room) c.loop-s.s (subst (λ k. c.loop-s.s < k) c.states-states.ensures.states c.loop-s-test.true)));
    }

pub value-requires-clause-row : goal.value-requires-clause-row
value-requires-clause-row t c =
    let some : 0 < length c.args.order.now = c.in-len1-up.len_at_least in
    let same_sum : to_z w128 (of_z w128 c.args.utility) ≡ c.args.utility = to_z-of_z w128 c.args.utility c.ranges.utility in
    subst (λ k. k < rows_of c.args.setting.now.diagram.now.nodes (slice_index_or c.args.order.now 0 0)) (sym c.row-row.ensures) (row_within c.args.setting.now.diagram.now c.requires.setting.diagram c.args.setting.now.profile.now c.requires.setting.profile c.args.setting.now.left_out c.args.setting.now.marks.now c.requires.setting.marked (slice_index_or c.args.order.now 0 0) (take (length c.args.order.now - 1) (drop 1 c.args.order.now) ++ (ending c.args.setting.now.last c.args.setting.now.tail.now)) (down_with c.args.setting.now.diagram.now.nodes c.args.order.now (ending c.args.setting.now.last c.args.setting.now.tail.now) some c.requires.order) c.args.product (to_z w128 (of_z w128 c.args.utility)) 0 c.args.world.now c.requires.world c.args.gains.now c.args.masses.now (room_with c.args.setting.now.diagram.now.nodes c.args.setting.now.profile.now c.args.setting.now.left_out c.args.order.now (ending c.args.setting.now.last c.args.setting.now.tail.now) some c.args.product (to_z w128 (of_z w128 c.args.utility)) c.args.utility same_sum c.args.gains.now c.args.masses.now c.requires.room))

pub overflow_mul-first : goal.overflow_mul-first
overflow_mul-first t c =
    let some : 0 < length c.args.order.now = c.in-len1-up.len_at_least in
    let same_sum : to_z w128 (of_z w128 c.args.utility) ≡ c.args.utility = to_z-of_z w128 c.args.utility c.ranges.utility in
    omega (arith, cell_times_fits c.args.setting.now.diagram.now c.requires.setting.diagram c.args.world.now c.requires.world (slice_index_or c.args.order.now 0 0) (down_with c.args.setting.now.diagram.now.nodes c.args.order.now (ending c.args.setting.now.last c.args.setting.now.tail.now) some c.requires.order).0 c.row-row.result c.states-states.result c.row-row.ensures c.states-states.ensures.states)

pub overflow_add-first : goal.overflow_add-first
overflow_add-first t c =
    let some : 0 < length c.args.order.now = c.in-len1-up.len_at_least in
    let same_sum : to_z w128 (of_z w128 c.args.utility) ≡ c.args.utility = to_z-of_z w128 c.args.utility c.ranges.utility in
    let small : c.row-row.result * c.states-states.result + c.loop-s.s < 65536 = subst (λ k. k < 65536) (sym (λ i. c.row-row.ensures i * c.states-states.ensures.states i + c.loop-s.s)) (cell_small c.args.setting.now.diagram.now c.requires.setting.diagram c.args.setting.now.profile.now c.requires.setting.profile c.args.setting.now.left_out c.args.setting.now.marks.now c.requires.setting.marked (slice_index_or c.args.order.now 0 0) (take (length c.args.order.now - 1) (drop 1 c.args.order.now) ++ (ending c.args.setting.now.last c.args.setting.now.tail.now)) (down_with c.args.setting.now.diagram.now.nodes c.args.order.now (ending c.args.setting.now.last c.args.setting.now.tail.now) some c.requires.order) c.args.product (to_z w128 (of_z w128 c.args.utility)) c.index-before.result.now c.args.world.now c.requires.world c.args.gains.now c.args.masses.now (room_with c.args.setting.now.diagram.now.nodes c.args.setting.now.profile.now c.args.setting.now.left_out c.args.order.now (ending c.args.setting.now.last c.args.setting.now.tail.now) some c.args.product (to_z w128 (of_z w128 c.args.utility)) c.args.utility same_sum c.args.gains.now c.args.masses.now c.requires.room) c.loop-s.s (subst (λ k. c.loop-s.s < k) c.states-states.ensures.states c.loop-s-test.true)) in
    omega (arith, small)

pub overflow_mul-more : goal.overflow_mul-more
overflow_mul-more t c =
    let some : 0 < length c.args.order.now = c.in-len1-up.len_at_least in
    let same_sum : to_z w128 (of_z w128 c.args.utility) ≡ c.args.utility = to_z-of_z w128 c.args.utility c.ranges.utility in
    omega (arith, product_fits c.args.setting.now.diagram.now c.requires.setting.diagram c.args.setting.now.profile.now c.requires.setting.profile c.args.setting.now.left_out c.args.setting.now.marks.now c.requires.setting.marked (slice_index_or c.args.order.now 0 0) (take (length c.args.order.now - 1) (drop 1 c.args.order.now) ++ (ending c.args.setting.now.last c.args.setting.now.tail.now)) (down_with c.args.setting.now.diagram.now.nodes c.args.order.now (ending c.args.setting.now.last c.args.setting.now.tail.now) some c.requires.order) c.args.product (to_z w128 (of_z w128 c.args.utility)) c.index-before.result.now c.args.world.now c.requires.world c.args.gains.now c.args.masses.now (room_with c.args.setting.now.diagram.now.nodes c.args.setting.now.profile.now c.args.setting.now.left_out c.args.order.now (ending c.args.setting.now.last c.args.setting.now.tail.now) some c.args.product (to_z w128 (of_z w128 c.args.utility)) c.args.utility same_sum c.args.gains.now c.args.masses.now c.requires.room) c.loop-s.world c.loop-s.gains c.loop-s.masses c.loop-s.s c.loop-s.invariant (subst (λ k. c.loop-s.s < k) c.states-states.ensures.states c.loop-s-test.true) c.factor.result (factor_held c.args.setting.now.diagram.now.nodes c.args.setting.now.profile.now c.args.setting.now.left_out c.args.setting.now.factors.now c.requires.setting.factors (slice_index_or c.args.order.now 0 0) ((down_with c.args.setting.now.diagram.now.nodes c.args.order.now (ending c.args.setting.now.last c.args.setting.now.tail.now) some c.requires.order).0) (c.row-row.result * c.states-states.result + c.loop-s.s) (subst (λ k. k < rows_of c.args.setting.now.diagram.now.nodes (slice_index_or c.args.order.now 0 0) * states_of c.args.setting.now.diagram.now.nodes (slice_index_or c.args.order.now 0 0)) (sym (λ i. c.row-row.ensures i * c.states-states.ensures.states i + c.loop-s.s)) (cell_within c.args.setting.now.diagram.now c.requires.setting.diagram c.args.setting.now.profile.now c.requires.setting.profile c.args.setting.now.left_out c.args.setting.now.marks.now c.requires.setting.marked (slice_index_or c.args.order.now 0 0) (take (length c.args.order.now - 1) (drop 1 c.args.order.now) ++ (ending c.args.setting.now.last c.args.setting.now.tail.now)) (down_with c.args.setting.now.diagram.now.nodes c.args.order.now (ending c.args.setting.now.last c.args.setting.now.tail.now) some c.requires.order) c.args.product (to_z w128 (of_z w128 c.args.utility)) c.index-before.result.now c.args.world.now c.requires.world c.args.gains.now c.args.masses.now (room_with c.args.setting.now.diagram.now.nodes c.args.setting.now.profile.now c.args.setting.now.left_out c.args.order.now (ending c.args.setting.now.last c.args.setting.now.tail.now) some c.args.product (to_z w128 (of_z w128 c.args.utility)) c.args.utility same_sum c.args.gains.now c.args.masses.now c.requires.room) c.loop-s.s (subst (λ k. c.loop-s.s < k) c.states-states.ensures.states c.loop-s-test.true))) c.factor.result c.factor.ensures ∙ ap (factor_at c.args.setting.now.diagram.now.nodes c.args.setting.now.profile.now c.args.setting.now.left_out (slice_index_or c.args.order.now 0 0)) (λ i. c.row-row.ensures i * c.states-states.ensures.states i + c.loop-s.s)))

pub overflow_add-sum : goal.overflow_add-sum
overflow_add-sum t c =
    let some : 0 < length c.args.order.now = c.in-len1-up.len_at_least in
    let same_sum : to_z w128 (of_z w128 c.args.utility) ≡ c.args.utility = to_z-of_z w128 c.args.utility c.ranges.utility in
    small_fits (to_z w128 (of_z w128 c.args.utility) +ℤ to_z w128 (of_z w128 c.value.result)) (sum_fits c.args.setting.now.diagram.now c.requires.setting.diagram c.args.setting.now.profile.now c.requires.setting.profile c.args.setting.now.left_out c.args.setting.now.marks.now c.requires.setting.marked (slice_index_or c.args.order.now 0 0) (take (length c.args.order.now - 1) (drop 1 c.args.order.now) ++ (ending c.args.setting.now.last c.args.setting.now.tail.now)) (down_with c.args.setting.now.diagram.now.nodes c.args.order.now (ending c.args.setting.now.last c.args.setting.now.tail.now) some c.requires.order) c.args.product (to_z w128 (of_z w128 c.args.utility)) 0 c.args.world.now c.requires.world c.args.gains.now c.args.masses.now (room_with c.args.setting.now.diagram.now.nodes c.args.setting.now.profile.now c.args.setting.now.left_out c.args.order.now (ending c.args.setting.now.last c.args.setting.now.tail.now) some c.args.product (to_z w128 (of_z w128 c.args.utility)) c.args.utility same_sum c.args.gains.now c.args.masses.now c.requires.room) (to_z w128 (of_z w128 c.value.result)) (to_z-of_z w128 c.value.result (search rules) ∙ c.value.ensures ∙ ap (value_at c.args.setting.now.diagram.now.nodes c.args.setting.now.marks.now (slice_index_or c.args.order.now 0 0)) c.row-row.ensures))

pub walk-requires-then-more-gt0 : goal.walk-requires-then-more-gt0
walk-requires-then-more-gt0 t c =
    let some : 0 < length c.args.order.now = c.in-len1-up.len_at_least in
    let same_sum : to_z w128 (of_z w128 c.args.utility) ≡ c.args.utility = to_z-of_z w128 c.args.utility c.ranges.utility in
    let zero_is : pos 0 ≡ marked_value c.args.setting.now.diagram.now.nodes c.args.setting.now.marks.now (slice_index_or c.args.order.now 0 0) (world_of c.args.world.now) = no_value c.args.setting.now.diagram.now.nodes c.args.setting.now.marks.now c.requires.setting.marked (slice_index_or c.args.order.now 0 0) ((down_with c.args.setting.now.diagram.now.nodes c.args.order.now (ending c.args.setting.now.last c.args.setting.now.tail.now) some c.requires.order).0) (λ e. c.in_default.not-Utility (c.kind.ensures.kind ∙ e)) (world_of c.args.world.now) in
    let less : length (take (length c.args.order.now - 1) (drop 1 c.args.order.now)) < length c.args.order.now = shorter c.args.order.now some in (search rules, (c.requires.setting, (c.requires.ending, ((down_with c.args.setting.now.diagram.now.nodes c.args.order.now (ending c.args.setting.now.last c.args.setting.now.tail.now) some c.requires.order).2, (next_world c.args.setting.now.diagram.now c.requires.setting.diagram c.args.setting.now.profile.now c.requires.setting.profile c.args.setting.now.left_out c.args.setting.now.marks.now c.requires.setting.marked (slice_index_or c.args.order.now 0 0) (take (length c.args.order.now - 1) (drop 1 c.args.order.now) ++ (ending c.args.setting.now.last c.args.setting.now.tail.now)) (down_with c.args.setting.now.diagram.now.nodes c.args.order.now (ending c.args.setting.now.last c.args.setting.now.tail.now) some c.requires.order) c.args.product (to_z w128 (of_z w128 c.args.utility)) c.index-before.result.now c.args.world.now c.requires.world c.args.gains.now c.args.masses.now (room_with c.args.setting.now.diagram.now.nodes c.args.setting.now.profile.now c.args.setting.now.left_out c.args.order.now (ending c.args.setting.now.last c.args.setting.now.tail.now) some c.args.product (to_z w128 (of_z w128 c.args.utility)) c.args.utility same_sum c.args.gains.now c.args.masses.now c.requires.room) c.loop-s.world c.loop-s.gains c.loop-s.masses c.loop-s.s c.loop-s.invariant (subst (λ k. c.loop-s.s < k) c.states-states.ensures.states c.loop-s-test.true) c.factor.result (factor_held c.args.setting.now.diagram.now.nodes c.args.setting.now.profile.now c.args.setting.now.left_out c.args.setting.now.factors.now c.requires.setting.factors (slice_index_or c.args.order.now 0 0) ((down_with c.args.setting.now.diagram.now.nodes c.args.order.now (ending c.args.setting.now.last c.args.setting.now.tail.now) some c.requires.order).0) (c.row-row.result * c.states-states.result + c.loop-s.s) (subst (λ k. k < rows_of c.args.setting.now.diagram.now.nodes (slice_index_or c.args.order.now 0 0) * states_of c.args.setting.now.diagram.now.nodes (slice_index_or c.args.order.now 0 0)) (sym (λ i. c.row-row.ensures i * c.states-states.ensures.states i + c.loop-s.s)) (cell_within c.args.setting.now.diagram.now c.requires.setting.diagram c.args.setting.now.profile.now c.requires.setting.profile c.args.setting.now.left_out c.args.setting.now.marks.now c.requires.setting.marked (slice_index_or c.args.order.now 0 0) (take (length c.args.order.now - 1) (drop 1 c.args.order.now) ++ (ending c.args.setting.now.last c.args.setting.now.tail.now)) (down_with c.args.setting.now.diagram.now.nodes c.args.order.now (ending c.args.setting.now.last c.args.setting.now.tail.now) some c.requires.order) c.args.product (to_z w128 (of_z w128 c.args.utility)) c.index-before.result.now c.args.world.now c.requires.world c.args.gains.now c.args.masses.now (room_with c.args.setting.now.diagram.now.nodes c.args.setting.now.profile.now c.args.setting.now.left_out c.args.order.now (ending c.args.setting.now.last c.args.setting.now.tail.now) some c.args.product (to_z w128 (of_z w128 c.args.utility)) c.args.utility same_sum c.args.gains.now c.args.masses.now c.requires.room) c.loop-s.s (subst (λ k. c.loop-s.s < k) c.states-states.ensures.states c.loop-s-test.true))) c.factor.result c.factor.ensures ∙ ap (factor_at c.args.setting.now.diagram.now.nodes c.args.setting.now.profile.now c.args.setting.now.left_out (slice_index_or c.args.order.now 0 0)) (λ i. c.row-row.ensures i * c.states-states.ensures.states i + c.loop-s.s)) (pos 0) zero_is c.set_state.new.world c.set_state.ensures, (c.loop-s.invariant.gain_count ∙ c.requires.gains, (c.loop-s.invariant.mass_count ∙ c.requires.masses, room_same c.args.setting.now.diagram.now.nodes c.args.setting.now.profile.now c.args.setting.now.left_out (take (length c.args.order.now - 1) (drop 1 c.args.order.now) ++ (ending c.args.setting.now.last c.args.setting.now.tail.now)) (c.args.product * c.factor.result) c.loop-s.gains c.loop-s.masses (sym (+ℤ_idr (to_z w128 (of_z w128 c.args.utility)))) (next_room c.args.setting.now.diagram.now c.requires.setting.diagram c.args.setting.now.profile.now c.requires.setting.profile c.args.setting.now.left_out c.args.setting.now.marks.now c.requires.setting.marked (slice_index_or c.args.order.now 0 0) (take (length c.args.order.now - 1) (drop 1 c.args.order.now) ++ (ending c.args.setting.now.last c.args.setting.now.tail.now)) (down_with c.args.setting.now.diagram.now.nodes c.args.order.now (ending c.args.setting.now.last c.args.setting.now.tail.now) some c.requires.order) c.args.product (to_z w128 (of_z w128 c.args.utility)) c.index-before.result.now c.args.world.now c.requires.world c.args.gains.now c.args.masses.now (room_with c.args.setting.now.diagram.now.nodes c.args.setting.now.profile.now c.args.setting.now.left_out c.args.order.now (ending c.args.setting.now.last c.args.setting.now.tail.now) some c.args.product (to_z w128 (of_z w128 c.args.utility)) c.args.utility same_sum c.args.gains.now c.args.masses.now c.requires.room) c.loop-s.world c.loop-s.gains c.loop-s.masses c.loop-s.s c.loop-s.invariant (subst (λ k. c.loop-s.s < k) c.states-states.ensures.states c.loop-s-test.true) c.factor.result (factor_held c.args.setting.now.diagram.now.nodes c.args.setting.now.profile.now c.args.setting.now.left_out c.args.setting.now.factors.now c.requires.setting.factors (slice_index_or c.args.order.now 0 0) ((down_with c.args.setting.now.diagram.now.nodes c.args.order.now (ending c.args.setting.now.last c.args.setting.now.tail.now) some c.requires.order).0) (c.row-row.result * c.states-states.result + c.loop-s.s) (subst (λ k. k < rows_of c.args.setting.now.diagram.now.nodes (slice_index_or c.args.order.now 0 0) * states_of c.args.setting.now.diagram.now.nodes (slice_index_or c.args.order.now 0 0)) (sym (λ i. c.row-row.ensures i * c.states-states.ensures.states i + c.loop-s.s)) (cell_within c.args.setting.now.diagram.now c.requires.setting.diagram c.args.setting.now.profile.now c.requires.setting.profile c.args.setting.now.left_out c.args.setting.now.marks.now c.requires.setting.marked (slice_index_or c.args.order.now 0 0) (take (length c.args.order.now - 1) (drop 1 c.args.order.now) ++ (ending c.args.setting.now.last c.args.setting.now.tail.now)) (down_with c.args.setting.now.diagram.now.nodes c.args.order.now (ending c.args.setting.now.last c.args.setting.now.tail.now) some c.requires.order) c.args.product (to_z w128 (of_z w128 c.args.utility)) c.index-before.result.now c.args.world.now c.requires.world c.args.gains.now c.args.masses.now (room_with c.args.setting.now.diagram.now.nodes c.args.setting.now.profile.now c.args.setting.now.left_out c.args.order.now (ending c.args.setting.now.last c.args.setting.now.tail.now) some c.args.product (to_z w128 (of_z w128 c.args.utility)) c.args.utility same_sum c.args.gains.now c.args.masses.now c.requires.room) c.loop-s.s (subst (λ k. c.loop-s.s < k) c.states-states.ensures.states c.loop-s-test.true))) c.factor.result c.factor.ensures ∙ ap (factor_at c.args.setting.now.diagram.now.nodes c.args.setting.now.profile.now c.args.setting.now.left_out (slice_index_or c.args.order.now 0 0)) (λ i. c.row-row.ensures i * c.states-states.ensures.states i + c.loop-s.s)) (pos 0) zero_is c.set_state.new.world c.set_state.ensures))))))))

pub walk-requires : goal.walk-requires
walk-requires t c =
    let some : 0 < length c.args.order.now = c.in-len1-up.len_at_least in
    let same_sum : to_z w128 (of_z w128 c.args.utility) ≡ c.args.utility = to_z-of_z w128 c.args.utility c.ranges.utility in
    let sum_small : FitsSigned w128 (to_z w128 (of_z w128 c.args.utility) +ℤ to_z w128 (of_z w128 c.value.result)) = small_fits (to_z w128 (of_z w128 c.args.utility) +ℤ to_z w128 (of_z w128 c.value.result)) (sum_fits c.args.setting.now.diagram.now c.requires.setting.diagram c.args.setting.now.profile.now c.requires.setting.profile c.args.setting.now.left_out c.args.setting.now.marks.now c.requires.setting.marked (slice_index_or c.args.order.now 0 0) (take (length c.args.order.now - 1) (drop 1 c.args.order.now) ++ (ending c.args.setting.now.last c.args.setting.now.tail.now)) (down_with c.args.setting.now.diagram.now.nodes c.args.order.now (ending c.args.setting.now.last c.args.setting.now.tail.now) some c.requires.order) c.args.product (to_z w128 (of_z w128 c.args.utility)) 0 c.args.world.now c.requires.world c.args.gains.now c.args.masses.now (room_with c.args.setting.now.diagram.now.nodes c.args.setting.now.profile.now c.args.setting.now.left_out c.args.order.now (ending c.args.setting.now.last c.args.setting.now.tail.now) some c.args.product (to_z w128 (of_z w128 c.args.utility)) c.args.utility same_sum c.args.gains.now c.args.masses.now c.requires.room) (to_z w128 (of_z w128 c.value.result)) (to_z-of_z w128 c.value.result (search rules) ∙ c.value.ensures ∙ ap (value_at c.args.setting.now.diagram.now.nodes c.args.setting.now.marks.now (slice_index_or c.args.order.now 0 0)) c.row-row.ensures)) in
    let less : length (take (length c.args.order.now - 1) (drop 1 c.args.order.now)) < length c.args.order.now = shorter c.args.order.now some in (search rules, (c.requires.setting, (c.requires.ending, ((down_with c.args.setting.now.diagram.now.nodes c.args.order.now (ending c.args.setting.now.last c.args.setting.now.tail.now) some c.requires.order).2, (c.requires.world, (c.requires.gains, (c.requires.masses, room_same c.args.setting.now.diagram.now.nodes c.args.setting.now.profile.now c.args.setting.now.left_out (take (length c.args.order.now - 1) (drop 1 c.args.order.now) ++ (ending c.args.setting.now.last c.args.setting.now.tail.now)) c.args.product c.args.gains.now c.args.masses.now (to_z-of_z w128 (to_z w128 (of_z w128 c.args.utility) +ℤ to_z w128 (of_z w128 c.value.result)) sum_small) (utility_room c.args.setting.now.diagram.now c.requires.setting.diagram c.args.setting.now.profile.now c.requires.setting.profile c.args.setting.now.left_out c.args.setting.now.marks.now c.requires.setting.marked (slice_index_or c.args.order.now 0 0) (take (length c.args.order.now - 1) (drop 1 c.args.order.now) ++ (ending c.args.setting.now.last c.args.setting.now.tail.now)) (down_with c.args.setting.now.diagram.now.nodes c.args.order.now (ending c.args.setting.now.last c.args.setting.now.tail.now) some c.requires.order) c.args.product (to_z w128 (of_z w128 c.args.utility)) 0 c.args.world.now c.requires.world c.args.gains.now c.args.masses.now (room_with c.args.setting.now.diagram.now.nodes c.args.setting.now.profile.now c.args.setting.now.left_out c.args.order.now (ending c.args.setting.now.last c.args.setting.now.tail.now) some c.args.product (to_z w128 (of_z w128 c.args.utility)) c.args.utility same_sum c.args.gains.now c.args.masses.now c.requires.room) (sym c.in-Utility.ensures.kind) (to_z w128 (of_z w128 c.value.result)) (to_z-of_z w128 c.value.result (search rules) ∙ c.value.ensures ∙ ap (value_at c.args.setting.now.diagram.now.nodes c.args.setting.now.marks.now (slice_index_or c.args.order.now 0 0)) c.row-row.ensures)))))))))

pub returns-in-Utility-clause-gains : goal.returns-in-Utility-clause-gains
returns-in-Utility-clause-gains t c =
    let some : 0 < length c.args.order.now = c.in-len1-up.len_at_least in
    let same_sum : to_z w128 (of_z w128 c.args.utility) ≡ c.args.utility = to_z-of_z w128 c.args.utility c.ranges.utility in
    let sum_small : FitsSigned w128 (to_z w128 (of_z w128 c.args.utility) +ℤ to_z w128 (of_z w128 c.value.result)) = small_fits (to_z w128 (of_z w128 c.args.utility) +ℤ to_z w128 (of_z w128 c.value.result)) (sum_fits c.args.setting.now.diagram.now c.requires.setting.diagram c.args.setting.now.profile.now c.requires.setting.profile c.args.setting.now.left_out c.args.setting.now.marks.now c.requires.setting.marked (slice_index_or c.args.order.now 0 0) (take (length c.args.order.now - 1) (drop 1 c.args.order.now) ++ (ending c.args.setting.now.last c.args.setting.now.tail.now)) (down_with c.args.setting.now.diagram.now.nodes c.args.order.now (ending c.args.setting.now.last c.args.setting.now.tail.now) some c.requires.order) c.args.product (to_z w128 (of_z w128 c.args.utility)) 0 c.args.world.now c.requires.world c.args.gains.now c.args.masses.now (room_with c.args.setting.now.diagram.now.nodes c.args.setting.now.profile.now c.args.setting.now.left_out c.args.order.now (ending c.args.setting.now.last c.args.setting.now.tail.now) some c.args.product (to_z w128 (of_z w128 c.args.utility)) c.args.utility same_sum c.args.gains.now c.args.masses.now c.requires.room) (to_z w128 (of_z w128 c.value.result)) (to_z-of_z w128 c.value.result (search rules) ∙ c.value.ensures ∙ ap (value_at c.args.setting.now.diagram.now.nodes c.args.setting.now.marks.now (slice_index_or c.args.order.now 0 0)) c.row-row.ensures)) in
    λ cell. gains_same c.args.setting.now.diagram.now.nodes c.args.setting.now.profile.now c.args.setting.now.left_out c.args.setting.now.marks.now (take (length c.args.order.now - 1) (drop 1 c.args.order.now) ++ (ending c.args.setting.now.last c.args.setting.now.tail.now)) c.args.product c.args.world.now c.args.gains.now c.walk.new.gains (to_z-of_z w128 (to_z w128 (of_z w128 c.args.utility) +ℤ to_z w128 (of_z w128 c.value.result)) sum_small) c.walk.ensures.gains cell
    ∙ ap (λ z. slice_index_or c.args.gains.now cell (pos 0) +ℤ z) (sym (utility_gain c.args.setting.now.diagram.now c.requires.setting.diagram c.args.setting.now.profile.now c.requires.setting.profile c.args.setting.now.left_out c.args.setting.now.marks.now c.requires.setting.marked (slice_index_or c.args.order.now 0 0) (take (length c.args.order.now - 1) (drop 1 c.args.order.now) ++ (ending c.args.setting.now.last c.args.setting.now.tail.now)) (down_with c.args.setting.now.diagram.now.nodes c.args.order.now (ending c.args.setting.now.last c.args.setting.now.tail.now) some c.requires.order) c.args.product (to_z w128 (of_z w128 c.args.utility)) 0 c.args.world.now c.requires.world c.args.gains.now c.args.masses.now (room_with c.args.setting.now.diagram.now.nodes c.args.setting.now.profile.now c.args.setting.now.left_out c.args.order.now (ending c.args.setting.now.last c.args.setting.now.tail.now) some c.args.product (to_z w128 (of_z w128 c.args.utility)) c.args.utility same_sum c.args.gains.now c.args.masses.now c.requires.room) (sym c.in-Utility.ensures.kind) (to_z w128 (of_z w128 c.value.result)) (to_z-of_z w128 c.value.result (search rules) ∙ c.value.ensures ∙ ap (value_at c.args.setting.now.diagram.now.nodes c.args.setting.now.marks.now (slice_index_or c.args.order.now 0 0)) c.row-row.ensures) cell))
    ∙ (λ i. slice_index_or c.args.gains.now cell (pos 0) +ℤ gain_with c.args.setting.now.diagram.now.nodes c.args.setting.now.profile.now c.args.setting.now.left_out c.args.setting.now.marks.now (sym (whole_opened c.args.order.now (ending c.args.setting.now.last c.args.setting.now.tail.now) some) i) c.args.product (same_sum i) cell (world_of c.args.world.now))

pub returns-in-Utility-clause-masses : goal.returns-in-Utility-clause-masses
returns-in-Utility-clause-masses t c =
    let some : 0 < length c.args.order.now = c.in-len1-up.len_at_least in
    let same_sum : to_z w128 (of_z w128 c.args.utility) ≡ c.args.utility = to_z-of_z w128 c.args.utility c.ranges.utility in
    λ cell. c.walk.ensures.masses cell
    ∙ ap (λ z. pos (slice_index c.args.masses.now cell) +ℤ z) (sym (utility_mass c.args.setting.now.diagram.now c.requires.setting.diagram c.args.setting.now.profile.now c.requires.setting.profile c.args.setting.now.left_out c.args.setting.now.marks.now c.requires.setting.marked (slice_index_or c.args.order.now 0 0) (take (length c.args.order.now - 1) (drop 1 c.args.order.now) ++ (ending c.args.setting.now.last c.args.setting.now.tail.now)) (down_with c.args.setting.now.diagram.now.nodes c.args.order.now (ending c.args.setting.now.last c.args.setting.now.tail.now) some c.requires.order) c.args.product (to_z w128 (of_z w128 c.args.utility)) 0 c.args.world.now c.requires.world c.args.gains.now c.args.masses.now (room_with c.args.setting.now.diagram.now.nodes c.args.setting.now.profile.now c.args.setting.now.left_out c.args.order.now (ending c.args.setting.now.last c.args.setting.now.tail.now) some c.args.product (to_z w128 (of_z w128 c.args.utility)) c.args.utility same_sum c.args.gains.now c.args.masses.now c.requires.room) (sym c.in-Utility.ensures.kind) (to_z w128 (of_z w128 c.value.result)) (to_z-of_z w128 c.value.result (search rules) ∙ c.value.ensures ∙ ap (value_at c.args.setting.now.diagram.now.nodes c.args.setting.now.marks.now (slice_index_or c.args.order.now 0 0)) c.row-row.ensures) cell))
    ∙ (λ i. pos (slice_index c.args.masses.now cell) +ℤ mass_with c.args.setting.now.diagram.now.nodes c.args.setting.now.profile.now c.args.setting.now.left_out (sym (whole_opened c.args.order.now (ending c.args.setting.now.last c.args.setting.now.tail.now) some) i) c.args.product cell (world_of c.args.world.now))

pub loop-s-preserved : goal.loop-s-preserved
loop-s-preserved t c =
    let some : 0 < length c.args.order.now = c.in-len1-up.len_at_least in
    let same_sum : to_z w128 (of_z w128 c.args.utility) ≡ c.args.utility = to_z-of_z w128 c.args.utility c.ranges.utility in
    let zero_is : pos 0 ≡ marked_value c.args.setting.now.diagram.now.nodes c.args.setting.now.marks.now (slice_index_or c.args.order.now 0 0) (world_of c.args.world.now) = no_value c.args.setting.now.diagram.now.nodes c.args.setting.now.marks.now c.requires.setting.marked (slice_index_or c.args.order.now 0 0) ((down_with c.args.setting.now.diagram.now.nodes c.args.order.now (ending c.args.setting.now.last c.args.setting.now.tail.now) some c.requires.order).0) (λ e. c.in_default.not-Utility (c.kind.ensures.kind ∙ e)) (world_of c.args.world.now) in
    elim c.if-more-gt0.branch [
      | then-more-gt0 w ↦
          moved (λ xs gains masses. WalkSoFar c.args.setting.now.diagram.now.nodes c.args.setting.now.profile.now c.args.setting.now.left_out c.args.setting.now.marks.now (slice_index_or c.args.order.now 0 0) (take (length c.args.order.now - 1) (drop 1 c.args.order.now) ++ (ending c.args.setting.now.last c.args.setting.now.tail.now)) c.args.product (to_z w128 (of_z w128 c.args.utility)) c.index-before.result.now c.args.world.now c.args.gains.now c.args.masses.now xs gains masses (c.loop-s.s + 1)) w.world-is w.gains-is w.masses-is
          (walk_step c.args.setting.now.diagram.now c.requires.setting.diagram c.args.setting.now.profile.now c.requires.setting.profile c.args.setting.now.left_out c.args.setting.now.marks.now c.requires.setting.marked (slice_index_or c.args.order.now 0 0) (take (length c.args.order.now - 1) (drop 1 c.args.order.now) ++ (ending c.args.setting.now.last c.args.setting.now.tail.now)) (down_with c.args.setting.now.diagram.now.nodes c.args.order.now (ending c.args.setting.now.last c.args.setting.now.tail.now) some c.requires.order) c.args.product (to_z w128 (of_z w128 c.args.utility)) c.index-before.result.now c.args.world.now c.requires.world c.args.gains.now c.args.masses.now (room_with c.args.setting.now.diagram.now.nodes c.args.setting.now.profile.now c.args.setting.now.left_out c.args.order.now (ending c.args.setting.now.last c.args.setting.now.tail.now) some c.args.product (to_z w128 (of_z w128 c.args.utility)) c.args.utility same_sum c.args.gains.now c.args.masses.now c.requires.room) c.loop-s.world c.loop-s.gains c.loop-s.masses c.loop-s.s c.loop-s.invariant (subst (λ k. c.loop-s.s < k) c.states-states.ensures.states c.loop-s-test.true) c.factor.result (factor_held c.args.setting.now.diagram.now.nodes c.args.setting.now.profile.now c.args.setting.now.left_out c.args.setting.now.factors.now c.requires.setting.factors (slice_index_or c.args.order.now 0 0) ((down_with c.args.setting.now.diagram.now.nodes c.args.order.now (ending c.args.setting.now.last c.args.setting.now.tail.now) some c.requires.order).0) (c.row-row.result * c.states-states.result + c.loop-s.s) (subst (λ k. k < rows_of c.args.setting.now.diagram.now.nodes (slice_index_or c.args.order.now 0 0) * states_of c.args.setting.now.diagram.now.nodes (slice_index_or c.args.order.now 0 0)) (sym (λ i. c.row-row.ensures i * c.states-states.ensures.states i + c.loop-s.s)) (cell_within c.args.setting.now.diagram.now c.requires.setting.diagram c.args.setting.now.profile.now c.requires.setting.profile c.args.setting.now.left_out c.args.setting.now.marks.now c.requires.setting.marked (slice_index_or c.args.order.now 0 0) (take (length c.args.order.now - 1) (drop 1 c.args.order.now) ++ (ending c.args.setting.now.last c.args.setting.now.tail.now)) (down_with c.args.setting.now.diagram.now.nodes c.args.order.now (ending c.args.setting.now.last c.args.setting.now.tail.now) some c.requires.order) c.args.product (to_z w128 (of_z w128 c.args.utility)) c.index-before.result.now c.args.world.now c.requires.world c.args.gains.now c.args.masses.now (room_with c.args.setting.now.diagram.now.nodes c.args.setting.now.profile.now c.args.setting.now.left_out c.args.order.now (ending c.args.setting.now.last c.args.setting.now.tail.now) some c.args.product (to_z w128 (of_z w128 c.args.utility)) c.args.utility same_sum c.args.gains.now c.args.masses.now c.requires.room) c.loop-s.s (subst (λ k. c.loop-s.s < k) c.states-states.ensures.states c.loop-s-test.true))) c.factor.result c.factor.ensures ∙ ap (factor_at c.args.setting.now.diagram.now.nodes c.args.setting.now.profile.now c.args.setting.now.left_out (slice_index_or c.args.order.now 0 0)) (λ i. c.row-row.ensures i * c.states-states.ensures.states i + c.loop-s.s)) (pos 0) zero_is w.set_state.new.world w.set_state.ensures w.walk-then-more-gt0.new.world w.walk-then-more-gt0.new.gains w.walk-then-more-gt0.new.masses w.walk-then-more-gt0.ensures.again
          (gains_same c.args.setting.now.diagram.now.nodes c.args.setting.now.profile.now c.args.setting.now.left_out c.args.setting.now.marks.now (take (length c.args.order.now - 1) (drop 1 c.args.order.now) ++ (ending c.args.setting.now.last c.args.setting.now.tail.now)) (c.args.product * c.factor.result) w.set_state.new.world c.loop-s.gains w.walk-then-more-gt0.new.gains (sym (+ℤ_idr (to_z w128 (of_z w128 c.args.utility)))) w.walk-then-more-gt0.ensures.gains)
          w.walk-then-more-gt0.ensures.masses w.walk-then-more-gt0.ensures.gain_count w.walk-then-more-gt0.ensures.mass_count)
      | else-more-gt0 w ↦
          moved (λ xs gains masses. WalkSoFar c.args.setting.now.diagram.now.nodes c.args.setting.now.profile.now c.args.setting.now.left_out c.args.setting.now.marks.now (slice_index_or c.args.order.now 0 0) (take (length c.args.order.now - 1) (drop 1 c.args.order.now) ++ (ending c.args.setting.now.last c.args.setting.now.tail.now)) c.args.product (to_z w128 (of_z w128 c.args.utility)) c.index-before.result.now c.args.world.now c.args.gains.now c.args.masses.now xs gains masses (c.loop-s.s + 1)) w.world-is w.gains-is w.masses-is
          (walk_skip c.args.setting.now.diagram.now c.requires.setting.diagram c.args.setting.now.profile.now c.requires.setting.profile c.args.setting.now.left_out c.args.setting.now.marks.now c.requires.setting.marked (slice_index_or c.args.order.now 0 0) (take (length c.args.order.now - 1) (drop 1 c.args.order.now) ++ (ending c.args.setting.now.last c.args.setting.now.tail.now)) (down_with c.args.setting.now.diagram.now.nodes c.args.order.now (ending c.args.setting.now.last c.args.setting.now.tail.now) some c.requires.order) c.args.product (to_z w128 (of_z w128 c.args.utility)) c.index-before.result.now c.args.world.now c.requires.world c.args.gains.now c.args.masses.now (room_with c.args.setting.now.diagram.now.nodes c.args.setting.now.profile.now c.args.setting.now.left_out c.args.order.now (ending c.args.setting.now.last c.args.setting.now.tail.now) some c.args.product (to_z w128 (of_z w128 c.args.utility)) c.args.utility same_sum c.args.gains.now c.args.masses.now c.requires.room) c.loop-s.world c.loop-s.gains c.loop-s.masses c.loop-s.s c.loop-s.invariant (subst (λ k. c.loop-s.s < k) c.states-states.ensures.states c.loop-s-test.true) c.factor.result (factor_held c.args.setting.now.diagram.now.nodes c.args.setting.now.profile.now c.args.setting.now.left_out c.args.setting.now.factors.now c.requires.setting.factors (slice_index_or c.args.order.now 0 0) ((down_with c.args.setting.now.diagram.now.nodes c.args.order.now (ending c.args.setting.now.last c.args.setting.now.tail.now) some c.requires.order).0) (c.row-row.result * c.states-states.result + c.loop-s.s) (subst (λ k. k < rows_of c.args.setting.now.diagram.now.nodes (slice_index_or c.args.order.now 0 0) * states_of c.args.setting.now.diagram.now.nodes (slice_index_or c.args.order.now 0 0)) (sym (λ i. c.row-row.ensures i * c.states-states.ensures.states i + c.loop-s.s)) (cell_within c.args.setting.now.diagram.now c.requires.setting.diagram c.args.setting.now.profile.now c.requires.setting.profile c.args.setting.now.left_out c.args.setting.now.marks.now c.requires.setting.marked (slice_index_or c.args.order.now 0 0) (take (length c.args.order.now - 1) (drop 1 c.args.order.now) ++ (ending c.args.setting.now.last c.args.setting.now.tail.now)) (down_with c.args.setting.now.diagram.now.nodes c.args.order.now (ending c.args.setting.now.last c.args.setting.now.tail.now) some c.requires.order) c.args.product (to_z w128 (of_z w128 c.args.utility)) c.index-before.result.now c.args.world.now c.requires.world c.args.gains.now c.args.masses.now (room_with c.args.setting.now.diagram.now.nodes c.args.setting.now.profile.now c.args.setting.now.left_out c.args.order.now (ending c.args.setting.now.last c.args.setting.now.tail.now) some c.args.product (to_z w128 (of_z w128 c.args.utility)) c.args.utility same_sum c.args.gains.now c.args.masses.now c.requires.room) c.loop-s.s (subst (λ k. c.loop-s.s < k) c.states-states.ensures.states c.loop-s-test.true))) c.factor.result c.factor.ensures ∙ ap (factor_at c.args.setting.now.diagram.now.nodes c.args.setting.now.profile.now c.args.setting.now.left_out (slice_index_or c.args.order.now 0 0)) (λ i. c.row-row.ensures i * c.states-states.ensures.states i + c.loop-s.s)) (nought (c.args.product * c.factor.result) w.if-more-gt0.false))
    ]

pub set_state-requires-in-len1-up : goal.set_state-requires-in-len1-up
set_state-requires-in-len1-up t c =
    let some : 0 < length c.args.order.now = c.in-len1-up.len_at_least in
    let same_sum : to_z w128 (of_z w128 c.args.utility) ≡ c.args.utility = to_z-of_z w128 c.args.utility c.ranges.utility in
    within c.args.setting.now.diagram.now c.requires.setting.diagram c.args.setting.now.profile.now c.requires.setting.profile c.args.setting.now.left_out c.args.setting.now.marks.now c.requires.setting.marked (slice_index_or c.args.order.now 0 0) (take (length c.args.order.now - 1) (drop 1 c.args.order.now) ++ (ending c.args.setting.now.last c.args.setting.now.tail.now)) (down_with c.args.setting.now.diagram.now.nodes c.args.order.now (ending c.args.setting.now.last c.args.setting.now.tail.now) some c.requires.order) c.args.product (to_z w128 (of_z w128 c.args.utility)) c.index-before.result.now c.args.world.now c.requires.world c.args.gains.now c.args.masses.now (room_with c.args.setting.now.diagram.now.nodes c.args.setting.now.profile.now c.args.setting.now.left_out c.args.order.now (ending c.args.setting.now.last c.args.setting.now.tail.now) some c.args.product (to_z w128 (of_z w128 c.args.utility)) c.args.utility same_sum c.args.gains.now c.args.masses.now c.requires.room) c.loop-s.world c.loop-s.gains c.loop-s.masses c.loop-s.s c.loop-s.invariant

pub returns-after-loop-s-clause-again : goal.returns-after-loop-s-clause-again
returns-after-loop-s-clause-again t c =
    let some : 0 < length c.args.order.now = c.in-len1-up.len_at_least in
    let same_sum : to_z w128 (of_z w128 c.args.utility) ≡ c.args.utility = to_z-of_z w128 c.args.utility c.ranges.utility in
    c.set_state-in-len1-up.ensures ∙ c.loop-s.invariant.back

pub returns-after-loop-s-clause-gains : goal.returns-after-loop-s-clause-gains
returns-after-loop-s-clause-gains t c =
    let some : 0 < length c.args.order.now = c.in-len1-up.len_at_least in
    let same_sum : to_z w128 (of_z w128 c.args.utility) ≡ c.args.utility = to_z-of_z w128 c.args.utility c.ranges.utility in
    λ cell. walk_gains c.args.setting.now.diagram.now c.requires.setting.diagram c.args.setting.now.profile.now c.requires.setting.profile c.args.setting.now.left_out c.args.setting.now.marks.now c.requires.setting.marked (slice_index_or c.args.order.now 0 0) (take (length c.args.order.now - 1) (drop 1 c.args.order.now) ++ (ending c.args.setting.now.last c.args.setting.now.tail.now)) (down_with c.args.setting.now.diagram.now.nodes c.args.order.now (ending c.args.setting.now.last c.args.setting.now.tail.now) some c.requires.order) c.args.product (to_z w128 (of_z w128 c.args.utility)) c.index-before.result.now c.args.world.now c.requires.world c.args.gains.now c.args.masses.now (room_with c.args.setting.now.diagram.now.nodes c.args.setting.now.profile.now c.args.setting.now.left_out c.args.order.now (ending c.args.setting.now.last c.args.setting.now.tail.now) some c.args.product (to_z w128 (of_z w128 c.args.utility)) c.args.utility same_sum c.args.gains.now c.args.masses.now c.requires.room) c.loop-s.world c.loop-s.gains c.loop-s.masses c.loop-s.s c.loop-s.invariant (subst (λ k. k ≤ c.loop-s.s) c.states-states.ensures.states (omega (arith, c.loop-s-test.false))) (subst (λ k. c.loop-s.s ≤ k) c.states-states.ensures.states c.loop-s.auto.s-end) cell ∙ (λ i. slice_index_or c.args.gains.now cell (pos 0) +ℤ gain_with c.args.setting.now.diagram.now.nodes c.args.setting.now.profile.now c.args.setting.now.left_out c.args.setting.now.marks.now (sym (whole_opened c.args.order.now (ending c.args.setting.now.last c.args.setting.now.tail.now) some) i) c.args.product (same_sum i) cell (world_of c.args.world.now))

pub returns-after-loop-s-clause-masses : goal.returns-after-loop-s-clause-masses
returns-after-loop-s-clause-masses t c =
    let some : 0 < length c.args.order.now = c.in-len1-up.len_at_least in
    let same_sum : to_z w128 (of_z w128 c.args.utility) ≡ c.args.utility = to_z-of_z w128 c.args.utility c.ranges.utility in
    λ cell. walk_masses c.args.setting.now.diagram.now c.requires.setting.diagram c.args.setting.now.profile.now c.requires.setting.profile c.args.setting.now.left_out c.args.setting.now.marks.now c.requires.setting.marked (slice_index_or c.args.order.now 0 0) (take (length c.args.order.now - 1) (drop 1 c.args.order.now) ++ (ending c.args.setting.now.last c.args.setting.now.tail.now)) (down_with c.args.setting.now.diagram.now.nodes c.args.order.now (ending c.args.setting.now.last c.args.setting.now.tail.now) some c.requires.order) c.args.product (to_z w128 (of_z w128 c.args.utility)) c.index-before.result.now c.args.world.now c.requires.world c.args.gains.now c.args.masses.now (room_with c.args.setting.now.diagram.now.nodes c.args.setting.now.profile.now c.args.setting.now.left_out c.args.order.now (ending c.args.setting.now.last c.args.setting.now.tail.now) some c.args.product (to_z w128 (of_z w128 c.args.utility)) c.args.utility same_sum c.args.gains.now c.args.masses.now c.requires.room) c.loop-s.world c.loop-s.gains c.loop-s.masses c.loop-s.s c.loop-s.invariant (subst (λ k. k ≤ c.loop-s.s) c.states-states.ensures.states (omega (arith, c.loop-s-test.false))) (subst (λ k. c.loop-s.s ≤ k) c.states-states.ensures.states c.loop-s.auto.s-end) cell ∙ (λ i. pos (slice_index c.args.masses.now cell) +ℤ mass_with c.args.setting.now.diagram.now.nodes c.args.setting.now.profile.now c.args.setting.now.left_out (sym (whole_opened c.args.order.now (ending c.args.setting.now.last c.args.setting.now.tail.now) some) i) c.args.product cell (world_of c.args.world.now))

pub add_ending-requires-clause-order : goal.add_ending-requires-clause-order
add_ending-requires-clause-order t c = subst (IsDownward c.args.setting.now.diagram.now.nodes) (none_before c.args.order.now (ending c.args.setting.now.last c.args.setting.now.tail.now) c.in-empty.len_below) c.requires.order

pub add_ending-requires-clause-room : goal.add_ending-requires-clause-room
add_ending-requires-clause-room t c =
    let same_sum : to_z w128 (of_z w128 c.args.utility) ≡ c.args.utility = to_z-of_z w128 c.args.utility c.ranges.utility in
    subst (λ vs. HasRoomToWalk c.args.setting.now.diagram.now.nodes c.args.setting.now.profile.now c.args.setting.now.left_out vs c.args.product (to_z w128 (of_z w128 c.args.utility)) c.args.gains.now c.args.masses.now) (none_before c.args.order.now (ending c.args.setting.now.last c.args.setting.now.tail.now) c.in-empty.len_below)
    (room_same c.args.setting.now.diagram.now.nodes c.args.setting.now.profile.now c.args.setting.now.left_out (c.args.order.now ++ (ending c.args.setting.now.last c.args.setting.now.tail.now)) c.args.product c.args.gains.now c.args.masses.now same_sum c.requires.room)

pub returns-in-empty-clause-gains : goal.returns-in-empty-clause-gains
returns-in-empty-clause-gains t c =
    let same_sum : to_z w128 (of_z w128 c.args.utility) ≡ c.args.utility = to_z-of_z w128 c.args.utility c.ranges.utility in
    λ cell. c.add_ending.ensures.gains cell ∙ (λ i. slice_index_or c.args.gains.now cell (pos 0) +ℤ gain_with c.args.setting.now.diagram.now.nodes c.args.setting.now.profile.now c.args.setting.now.left_out c.args.setting.now.marks.now (sym (none_before c.args.order.now (ending c.args.setting.now.last c.args.setting.now.tail.now) c.in-empty.len_below) i) c.args.product (same_sum i) cell (world_of c.args.world.now))

pub returns-in-empty-clause-masses : goal.returns-in-empty-clause-masses
returns-in-empty-clause-masses t c =
    λ cell. c.add_ending.ensures.masses cell ∙ (λ i. pos (slice_index c.args.masses.now cell) +ℤ mass_with c.args.setting.now.diagram.now.nodes c.args.setting.now.profile.now c.args.setting.now.left_out (sym (none_before c.args.order.now (ending c.args.setting.now.last c.args.setting.now.tail.now) c.in-empty.len_below) i) c.args.product cell (world_of c.args.world.now))

pub add_ending-requires-clause-setting : goal.add_ending-requires-clause-setting
add_ending-requires-clause-setting t c = c.requires.setting

pub add_ending-requires-clause-ending : goal.add_ending-requires-clause-ending
add_ending-requires-clause-ending t c = c.requires.ending

pub add_ending-requires-clause-world : goal.add_ending-requires-clause-world
add_ending-requires-clause-world t c = c.requires.world

pub add_ending-requires-clause-gains : goal.add_ending-requires-clause-gains
add_ending-requires-clause-gains t c = c.requires.gains

pub add_ending-requires-clause-masses : goal.add_ending-requires-clause-masses
add_ending-requires-clause-masses t c = c.requires.masses

pub bounds-order-0 : goal.bounds-order-0
bounds-order-0 t c = c.in-len1-up.len_at_least

pub states-states-requires : goal.states-states-requires
states-states-requires t c = (down_with c.args.setting.now.diagram.now.nodes c.args.order.now (ending c.args.setting.now.last c.args.setting.now.tail.now) c.in-len1-up.len_at_least c.requires.order).0

pub row-row-requires-clause-node : goal.row-row-requires-clause-node
row-row-requires-clause-node t c = (down_with c.args.setting.now.diagram.now.nodes c.args.order.now (ending c.args.setting.now.last c.args.setting.now.tail.now) c.in-len1-up.len_at_least c.requires.order).0

pub row-row-requires-clause-world : goal.row-row-requires-clause-world
row-row-requires-clause-world t c = c.requires.world

pub kind-requires : goal.kind-requires
kind-requires t c = (down_with c.args.setting.now.diagram.now.nodes c.args.order.now (ending c.args.setting.now.last c.args.setting.now.tail.now) c.in-len1-up.len_at_least c.requires.order).0

pub value-requires-clause-node : goal.value-requires-clause-node
value-requires-clause-node t c = (down_with c.args.setting.now.diagram.now.nodes c.args.order.now (ending c.args.setting.now.last c.args.setting.now.tail.now) c.in-len1-up.len_at_least c.requires.order).0

pub value-requires-clause-marks : goal.value-requires-clause-marks
value-requires-clause-marks t c = c.requires.setting.marked

pub returns-in-Utility-clause-again : goal.returns-in-Utility-clause-again
returns-in-Utility-clause-again t c = c.walk.ensures.again

pub returns-in-Utility-clause-gain_count : goal.returns-in-Utility-clause-gain_count
returns-in-Utility-clause-gain_count t c = c.walk.ensures.gain_count

pub returns-in-Utility-clause-mass_count : goal.returns-in-Utility-clause-mass_count
returns-in-Utility-clause-mass_count t c = c.walk.ensures.mass_count

pub index-before-requires : goal.index-before-requires
index-before-requires t c =
    let inside : slice_index_or c.args.order.now 0 0 < length c.world.inside.states.items = subst (λ l. slice_index_or c.args.order.now 0 0 < length l) (sym c.world.view_is) (subst (λ n. slice_index_or c.args.order.now 0 0 < n) (sym (world_length c.args.setting.now.diagram.now.nodes c.args.world.now c.requires.world)) (down_with c.args.setting.now.diagram.now.nodes c.args.order.now (ending c.args.setting.now.last c.args.setting.now.tail.now) c.in-len1-up.len_at_least c.requires.order).0) in
    omega (arith, inside, c.world.inside.states.ok.0)

pub loop-s-smaller : goal.loop-s-smaller
loop-s-smaller t c = omega (arith, c.loop-s-test.true)

pub returns-after-loop-s-clause-gain_count : goal.returns-after-loop-s-clause-gain_count
returns-after-loop-s-clause-gain_count t c = c.loop-s.invariant.gain_count

pub returns-after-loop-s-clause-mass_count : goal.returns-after-loop-s-clause-mass_count
returns-after-loop-s-clause-mass_count t c = c.loop-s.invariant.mass_count

pub returns-in-empty-clause-again : goal.returns-in-empty-clause-again
returns-in-empty-clause-again t c = c.add_ending.ensures.again

pub returns-in-empty-clause-gain_count : goal.returns-in-empty-clause-gain_count
returns-in-empty-clause-gain_count t c = c.add_ending.ensures.gain_count

pub returns-in-empty-clause-mass_count : goal.returns-in-empty-clause-mass_count
returns-in-empty-clause-mass_count t c = c.add_ending.ensures.mass_count

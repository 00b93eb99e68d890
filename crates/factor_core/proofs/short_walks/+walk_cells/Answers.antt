use Rattle.std.proofs.Common.{rules, length, arith, refl}
use Rattle.factor_core.proofs.Walking.{three_axes, can_walk, one_row, begun, place_fits, advance_fits, advanced, can_next, reached_next, all_added, still_enough}
use Rattle.factor_core.proofs.FewAxes.{more_than, first_and_rest, rest_shorter, can_as, adds_as}
use Rattle.factor_core.proofs.short_walks.+walk_cells.Goals as goal

pub walk_flat-requires : goal.walk_flat-requires
walk_flat-requires g t c = (omega arith, (c.if-axes-lt3.true, c.requires))

pub returns-then-axes-lt3 : goal.returns-then-axes-lt3
returns-then-axes-lt3 g t c = c.walk_flat.ensures

pub bounds-axes-0 : goal.bounds-axes-0
bounds-axes-0 g t c = more_than c.args.axes.now 2 c.if-axes-lt3.false

pub bounds-axes-2 : goal.bounds-axes-2
bounds-axes-2 g t c = omega (arith, c.if-axes-eq3.true)

pub bounds-axes-1 : goal.bounds-axes-1
bounds-axes-1 g t c = omega (arith, c.if-axes-eq3.true)

pub bounds-axes-2-then-is_pair : goal.bounds-axes-2-then-is_pair
bounds-axes-2-then-is_pair g t c = omega (arith, c.if-axes-eq3.true)

pub add_planes-requires : goal.add_planes-requires
add_planes-requires g t c = (
  omega arith,
  (c.if-is_pair.ensures.0 refl, can_as c.requires (three_axes c.args.axes.now (record { states = 0; out = 0 }) c.if-axes-eq3.true)),
)

pub returns-then-is_pair : goal.returns-then-is_pair
returns-then-is_pair g t c =
    adds_as c.requires (three_axes c.args.axes.now (record { states = 0; out = 0 }) c.if-axes-eq3.true) c.add_planes.ensures

pub after-rest-requires : goal.after-rest-requires
after-rest-requires g t c =
    more_than c.args.axes.now 2 c.if-axes-lt3.false

pub rows_below-below-requires : goal.rows_below-below-requires
rows_below-below-requires g t c =
    let some = more_than c.args.axes.now 2 c.if-axes-lt3.false in
    one_row (length c.args.axes.now) (length c.args.places.now) (length c.args.strides.now) some c.requires.count

pub loop-init : goal.loop-init
loop-init g t c =
    let some = more_than c.args.axes.now 2 c.if-axes-lt3.false in
    let can = can_walk c.requires some c.after-rest.ensures in
    begun can g.met.C.Cell.laws g.met.C.Cell.sizes

pub walk_cells-requires : goal.walk_cells-requires
walk_cells-requires g t c κs within =
    let some = more_than c.args.axes.now 2 c.if-axes-lt3.false in
    let can = can_walk c.requires some c.after-rest.ensures in
    let shorter = rest_shorter c.args.axes.now c.after-rest.result.now some c.after-rest.ensures in (omega arith, (search rules, (search rules, (omega arith, can_next can c.rows_below-below.ensures g.met.C.Cell.laws g.met.C.Cell.sizes c.loop-test.true c.loop.invariant))))

pub overflow_add-place : goal.overflow_add-place
overflow_add-place g t c =
    let some = more_than c.args.axes.now 2 c.if-axes-lt3.false in
    let can = can_walk c.requires some c.after-rest.ensures in
    omega (arith, place_fits can c.loop-test.true c.loop.invariant)

pub advance-requires-clause-strides : goal.advance-requires-clause-strides
advance-requires-clause-strides g t c =
    let some = more_than c.args.axes.now 2 c.if-axes-lt3.false in
    let can = can_walk c.requires some c.after-rest.ensures in
    still_enough can c.loop.counter c.loop.invariant.moved

pub advance-requires-clause-fits : goal.advance-requires-clause-fits
advance-requires-clause-fits g t c =
    let some = more_than c.args.axes.now 2 c.if-axes-lt3.false in
    let can = can_walk c.requires some c.after-rest.ensures in
    advance_fits can c.loop.counter c.loop-test.true c.loop.invariant.moved

pub loop-smaller : goal.loop-smaller
loop-smaller g t c = omega (arith, c.loop-test.true)

pub loop-preserved : goal.loop-preserved
loop-preserved g t c =
    let some = more_than c.args.axes.now 2 c.if-axes-lt3.false in
    let can = can_walk c.requires some c.after-rest.ensures in
    let there = advanced can c.loop.counter c.loop.invariant.moved c.advance.auto.places c.advance.ensures in
    reached_next can c.rows_below-below.ensures g.met.C.Cell.laws g.met.C.Cell.sizes c.loop.invariant there c.walk_cells.auto.out c.walk_cells.ensures

pub returns : goal.returns
returns g t c =
    let some = more_than c.args.axes.now 2 c.if-axes-lt3.false in
    let can = can_walk c.requires some c.after-rest.ensures in
    adds_as c.requires (first_and_rest c.args.axes.now c.after-rest.result.now some c.after-rest.ensures) (all_added can c.loop.invariant c.loop-test.false c.loop.auto.counter-end)

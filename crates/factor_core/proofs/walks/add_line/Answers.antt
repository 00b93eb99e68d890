use Rattle.std.proofs.Common.{arith, refl}
use Rattle.factor_core.proofs.Walking.{begun, place_fits, advance_fits, advanced, can_next, reached_next, all_added, retreat_fits, retreated, still_enough}
use Rattle.factor_core.proofs.FewAxes.{met_here, room_here, adds_here}
use Rattle.factor_core.proofs.walks.add_line.Goals as goal

pub loop-init : goal.loop-init
loop-init g c =
    let m = g.met.C.Cell in
    begun c.requires m.laws m.sizes

pub product-requires-clause-within : goal.product-requires-clause-within
product-requires-clause-within g c =
    let m = g.met.C.Cell in
    let next = can_next c.requires refl m.laws m.sizes c.loop-test.true c.loop.invariant in
    (met_here next refl).within

pub product-requires-clause-fits : goal.product-requires-clause-fits
product-requires-clause-fits g c =
    let m = g.met.C.Cell in
    let next = can_next c.requires refl m.laws m.sizes c.loop-test.true c.loop.invariant in
    (met_here next refl).fits

pub add_at-requires-clause-at : goal.add_at-requires-clause-at
add_at-requires-clause-at g c =
    let m = g.met.C.Cell in
    let next = can_next c.requires refl m.laws m.sizes c.loop-test.true c.loop.invariant in
    (met_here next refl).out

pub add_at-requires-clause-fits : goal.add_at-requires-clause-fits
add_at-requires-clause-fits g c =
    let m = g.met.C.Cell in
    let next = can_next c.requires refl m.laws m.sizes c.loop-test.true c.loop.invariant in
    room_here next refl c.product.ensures.size

pub overflow_add-place : goal.overflow_add-place
overflow_add-place g c = omega (arith, place_fits c.requires c.loop-test.true c.loop.invariant)

pub advance-requires-clause-strides : goal.advance-requires-clause-strides
advance-requires-clause-strides g c = still_enough c.requires c.loop.counter c.loop.invariant.moved

pub advance-requires-clause-fits : goal.advance-requires-clause-fits
advance-requires-clause-fits g c = advance_fits c.requires c.loop.counter c.loop-test.true c.loop.invariant.moved

pub loop-smaller : goal.loop-smaller
loop-smaller g c = omega (arith, c.loop-test.true)

pub loop-preserved : goal.loop-preserved
loop-preserved g c =
    let m = g.met.C.Cell in
    let next = can_next c.requires refl m.laws m.sizes c.loop-test.true c.loop.invariant in
    let there = advanced c.requires c.loop.counter c.loop.invariant.moved c.advance.auto.places c.advance.ensures in
    reached_next c.requires refl m.laws m.sizes c.loop.invariant there c.add_at.auto.out (adds_here next refl c.product.ensures.product c.add_at.ensures)

pub retreat-requires-clause-strides : goal.retreat-requires-clause-strides
retreat-requires-clause-strides g c = still_enough c.requires c.loop.counter c.loop.invariant.moved

pub retreat-requires-clause-fits : goal.retreat-requires-clause-fits
retreat-requires-clause-fits g c = retreat_fits c.requires c.loop.invariant c.loop-test.false c.loop.auto.counter-end

pub returns-clause-adds : goal.returns-clause-adds
returns-clause-adds g c = all_added c.requires c.loop.invariant c.loop-test.false c.loop.auto.counter-end

pub returns-clause-places : goal.returns-clause-places
returns-clause-places g c = retreated c.requires c.loop.invariant c.loop-test.false c.loop.auto.counter-end {new = c.retreat.new.places} c.retreat.auto.places c.retreat.ensures

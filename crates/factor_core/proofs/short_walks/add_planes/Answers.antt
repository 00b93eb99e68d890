use Rattle.std.proofs.Common.{rules, arith}
use Rattle.factor_core.proofs.Walking.{begun, place_fits, advance_fits, advanced, can_next, reached_next, all_added, still_enough}
use Rattle.factor_core.proofs.short_walks.add_planes.Goals as goal

pub loop-init : goal.loop-init
loop-init g c = begun c.requires.can g.met.C.Cell.laws g.met.C.Cell.sizes

pub add_pairs-requires : goal.add_pairs-requires
add_pairs-requires g c = (search rules, (c.requires.pair, can_next c.requires.can c.rows_below-below.ensures g.met.C.Cell.laws g.met.C.Cell.sizes c.loop-test.true c.loop.invariant))

pub overflow_add-place : goal.overflow_add-place
overflow_add-place g c = omega (arith, place_fits c.requires.can c.loop-test.true c.loop.invariant)

pub advance-requires-clause-strides : goal.advance-requires-clause-strides
advance-requires-clause-strides g c = still_enough c.requires.can c.loop.counter c.loop.invariant.moved

pub advance-requires-clause-fits : goal.advance-requires-clause-fits
advance-requires-clause-fits g c = advance_fits c.requires.can c.loop.counter c.loop-test.true c.loop.invariant.moved

pub loop-smaller : goal.loop-smaller
loop-smaller g c = omega (arith, c.loop-test.true)

pub loop-preserved : goal.loop-preserved
loop-preserved g c =
    let there = advanced c.requires.can c.loop.counter c.loop.invariant.moved c.advance.auto.places c.advance.ensures in
    reached_next c.requires.can c.rows_below-below.ensures g.met.C.Cell.laws g.met.C.Cell.sizes c.loop.invariant there c.add_pairs.auto.out c.add_pairs.ensures

pub returns : goal.returns
returns g c = all_added c.requires.can c.loop.invariant c.loop-test.false c.loop.auto.counter-end

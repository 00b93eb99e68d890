use Rattle.std.proofs.Common.{◌≡◌, sym, arith}
use Rattle.cell_rings.specs.Sums.{ring_sum, product_at}
use Rattle.factor_core.specs.Walks.{shifted}
use Rattle.factor_core.proofs.Shifts.{shifted_none}
use Rattle.factor_core.proofs.Sums.{sum_room_at, met_at, pair_first, sum_more_at, sum_fits, sum_adds}
use Rattle.factor_core.proofs.Walking.{still_enough, advance_fits, advanced}
use Rattle.factor_core.proofs.Ends.{at_end}
use Rattle.factor_core.proofs.short_walks.add_sum.Goals as goal

pub loop-init : goal.loop-init
loop-init g c = record { here = sym (shifted_none c.args.strides.now c.args.places.now); sum = c.zero-sum.ensures }

pub product-requires-clause-within : goal.product-requires-clause-within
product-requires-clause-within g c =
    let m = g.met.C.Cell in
    (met_at m.laws m.sizes c.requires.stands c.requires.can c.loop.counter c.loop.here c.loop-test.true c.loop.invariant.here).within

pub product-requires-clause-fits : goal.product-requires-clause-fits
product-requires-clause-fits g c =
    let m = g.met.C.Cell in
    (met_at m.laws m.sizes c.requires.stands c.requires.can c.loop.counter c.loop.here c.loop-test.true c.loop.invariant.here).fits

pub add-sum-requires : goal.add-sum-requires
add-sum-requires g c =
    let m = g.met.C.Cell in
    sum_room_at m.laws m.sizes c.requires.stands c.requires.can c.loop.counter c.loop.here c.loop.sum c.product.result c.loop-test.true c.loop.invariant.here c.loop.invariant.sum c.product.ensures.size

pub advance-requires-clause-strides : goal.advance-requires-clause-strides
advance-requires-clause-strides g c =
    still_enough c.requires.can c.loop.counter c.loop.invariant.here

pub advance-requires-clause-fits : goal.advance-requires-clause-fits
advance-requires-clause-fits g c =
    advance_fits c.requires.can c.loop.counter c.loop-test.true c.loop.invariant.here

pub loop-smaller : goal.loop-smaller
loop-smaller g c = omega (arith, c.loop-test.true)

pub loop-preserved : goal.loop-preserved
loop-preserved g c =
    let m = g.met.C.Cell in
    record {
      here = advanced c.requires.can c.loop.counter c.loop.invariant.here c.advance.auto.places c.advance.ensures;
      sum = sum_more_at m.laws m.sizes c.requires.stands c.requires.can c.loop.counter c.loop.here c.loop.sum c.product.result c.add-sum.result c.loop.invariant.here c.loop.invariant.sum c.product.ensures.product c.add-sum.ensures;
    }

pub add_at-requires-clause-at : goal.add_at-requires-clause-at
add_at-requires-clause-at g c =
    let m = g.met.C.Cell in
    (pair_first m.laws m.sizes c.requires.stands c.requires.can).out

pub add_at-requires-clause-fits : goal.add_at-requires-clause-fits
add_at-requires-clause-fits g c =
    let m = g.met.C.Cell in
    let sum = at_end (λ k. c.loop.sum ≡ ring_sum g.C.Cell.ring k (λ s. product_at g.C.Cell.ring c.args.cells.now (shifted s c.args.strides.now c.args.places.now))) c.loop.counter c.args.axis.states c.loop-test.false c.loop.auto.counter-end c.loop.invariant.sum in
    sum_fits m.laws m.sizes c.requires.stands c.requires.can c.loop.sum sum

pub returns : goal.returns
returns g c =
    let m = g.met.C.Cell in
    let sum = at_end (λ k. c.loop.sum ≡ ring_sum g.C.Cell.ring k (λ s. product_at g.C.Cell.ring c.args.cells.now (shifted s c.args.strides.now c.args.places.now))) c.loop.counter c.args.axis.states c.loop-test.false c.loop.auto.counter-end c.loop.invariant.sum in
    sum_adds m.laws m.sizes c.requires.stands c.requires.can c.loop.sum c.add_at.new.out sum c.add_at.ensures

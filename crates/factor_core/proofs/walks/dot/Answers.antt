use Rattle.std.proofs.Common.{◌≡◌, ◌≤◌, get_or, arith, sym, ap, subst, ◌∙◌}
use Rattle.cell_rings.specs.Rings.{mass_ring}
use Rattle.cell_rings.specs.Sums.{ring_sum, product_from, sizes_of, ProductFits}
use Rattle.factor_core.specs.Walks.{further, sum_along}
use Rattle.factor_core.proofs.Dots.{two_places, room_of_two, along_fits}
use Rattle.factor_core.proofs.Ends.{at_end, one_more}
use Rattle.factor_core.proofs.walks.dot.Goals as goal

pub bounds-places-0 : goal.bounds-places-0
bounds-places-0 g c = omega (arith, c.if-places-eq2.true)

pub bounds-places-1 : goal.bounds-places-1
bounds-places-1 g c = omega (arith, c.if-places-eq2.true)

pub dot-requires-clause-cells : goal.dot-requires-clause-cells
dot-requires-clause-cells g c =
    (c.requires.within 0 0 (omega (arith, c.if-places-eq2.true)), c.requires.within 1 0 (omega (arith, c.if-places-eq2.true)))

pub dot-requires-clause-first : goal.dot-requires-clause-first
dot-requires-clause-first g c = λ i h.
    let r = g.C.Cell.ring in
    let two = c.if-places-eq2.true in
    let fits = subst (λ ps. ProductFits r c.args.cells.now (r.size c.args.factor) (further i ps)) (two_places c.args.places.now two) (c.requires.fits i h) in
    fits.0

pub dot-requires-clause-room : goal.dot-requires-clause-room
dot-requires-clause-room g c =
    let r = g.C.Cell.ring in
    let m = g.met.C.Cell in
    let two = c.if-places-eq2.true in
    let room = subst (λ ps. ring_sum mass_ring c.args.n (λ s. product_from mass_ring (sizes_of r c.args.cells.now) (r.size c.args.factor) (further s ps)) ≤ r.most) (two_places c.args.places.now two) c.requires.room in
    room_of_two m.laws m.sizes c.args.cells.now c.args.n (r.size c.args.factor) (get_or c.args.places.now 0 0) (get_or c.args.places.now 1 0) room

pub returns-then-places-eq2 : goal.returns-then-places-eq2
returns-then-places-eq2 g c =
    c.dot.ensures ∙ ap (sum_along g.C.Cell.ring c.args.n c.args.cells.now c.args.factor) (sym (two_places c.args.places.now c.if-places-eq2.true))

pub loop-s-init : goal.loop-s-init
loop-s-init g c = c.zero-sum.ensures

pub product_along-product-requires-clause-within : goal.product_along-product-requires-clause-within
product_along-product-requires-clause-within g c =
    λ k d l. omega (arith, c.requires.within k d l, c.loop-s-test.true)

pub product_along-product-requires-clause-fits : goal.product_along-product-requires-clause-fits
product_along-product-requires-clause-fits g c = c.requires.fits c.loop-s.s c.loop-s-test.true

pub add-sum-requires : goal.add-sum-requires
add-sum-requires g c =
    let m = g.met.C.Cell in
    along_fits m.laws m.sizes c.args.cells.now c.args.places.now c.args.factor c.args.n c.requires.room c.loop-s.s c.loop-s.sum c.product_along-product.result c.loop-s-test.true c.loop-s.invariant c.product_along-product.ensures

pub loop-s-smaller : goal.loop-s-smaller
loop-s-smaller g c = omega (arith, c.loop-s-test.true)

pub loop-s-preserved : goal.loop-s-preserved
loop-s-preserved g c =
    let r = g.C.Cell.ring in
    one_more r c.loop-s.s (λ s. product_from r c.args.cells.now c.args.factor (further s c.args.places.now)) c.loop-s.sum c.product_along-product.result c.add-sum.result c.loop-s.invariant c.product_along-product.ensures c.add-sum.ensures

pub returns : goal.returns
returns g c =
    let r = g.C.Cell.ring in
    at_end (λ k. c.loop-s.sum ≡ ring_sum r k (λ s. product_from r c.args.cells.now c.args.factor (further s c.args.places.now))) c.loop-s.s c.args.n c.loop-s-test.false c.loop-s.auto.s-end c.loop-s.invariant

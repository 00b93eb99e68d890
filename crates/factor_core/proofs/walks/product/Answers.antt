use Rattle.std.proofs.Common.{◌≤◌, get_or, arith, ap, sym, subst}
use Rattle.std.proofs.lemmas.List.{get_or_read}
use Rattle.cell_rings.specs.Rings.{mass_ring}
use Rattle.cell_rings.specs.Sums.{product_from, product_at, sizes_of}
use Rattle.cell_rings.proofs.Adding.{fits_less, size_product}
use Rattle.factor_core.proofs.ProductSteps.{next_fits, next_product, fits_behind, whole_product}
use Rattle.factor_core.proofs.walks.product.Goals as goal

pub loop-place-init : goal.loop-place-init
loop-place-init g c =
    let r = g.C.Cell.ring in
    let m = g.met.C.Cell in
    (ap (λ x. product_from r c.args.cells.now x c.args.places.now) c.one-product.ensures, fits_less m.laws m.sizes c.args.cells.now c.args.places.now (r.size c.one-product.result) 1 (omega (arith, m.sizes.unit, ap r.size c.one-product.ensures)) c.requires.fits)

pub bounds-places-place-index : goal.bounds-places-place-index
bounds-places-place-index g c = c.loop-place-test.true

pub bounds-cells-place : goal.bounds-cells-place
bounds-cells-place g c = c.requires.within c.loop-place.place-index 0 c.loop-place-test.true

pub mul-product-requires : goal.mul-product-requires
mul-product-requires g c =
    let m = g.met.C.Cell in
    let place = get_or c.args.places.now c.loop-place.place-index 0 in
    let read = get_or_read c.args.cells.now place c.index-cells-place.result (c.requires.within c.loop-place.place-index 0 c.loop-place-test.true) c.index-cells-place.is g.C.Cell.ring.nought in
    next_fits m.laws m.sizes c.args.cells.now c.args.places.now c.loop-place.place-index c.loop-place.product c.index-cells-place.result c.loop-place-test.true read c.loop-place.invariant.1

pub loop-place-smaller : goal.loop-place-smaller
loop-place-smaller g c = omega (arith, c.loop-place-test.true)

pub loop-place-preserved : goal.loop-place-preserved
loop-place-preserved g c =
    let m = g.met.C.Cell in
    let place = get_or c.args.places.now c.loop-place.place-index 0 in
    let read = get_or_read c.args.cells.now place c.index-cells-place.result (c.requires.within c.loop-place.place-index 0 c.loop-place-test.true) c.index-cells-place.is g.C.Cell.ring.nought in (
      next_product m.laws m.sizes c.args.cells.now c.args.places.now c.loop-place.place-index c.loop-place.product c.index-cells-place.result c.mul-product.result c.loop-place-test.true read c.mul-product.ensures c.loop-place.invariant.0,
      fits_behind m.laws m.sizes c.args.cells.now c.args.places.now c.loop-place.place-index c.loop-place.product c.index-cells-place.result c.mul-product.result c.loop-place-test.true read c.mul-product.ensures c.loop-place.invariant.1,
    )

pub returns-clause-product : goal.returns-clause-product
returns-clause-product g c =
    let m = g.met.C.Cell in
    whole_product m.laws m.sizes c.args.cells.now c.args.places.now c.loop-place.place-index c.loop-place.product c.loop-place-test.false c.loop-place.invariant.0

pub returns-clause-size : goal.returns-clause-size
returns-clause-size g c =
    let r = g.C.Cell.ring in
    let m = g.met.C.Cell in
    let is = whole_product m.laws m.sizes c.args.cells.now c.args.places.now c.loop-place.place-index c.loop-place.product c.loop-place-test.false c.loop-place.invariant.0 in
    subst (λ x. r.size x ≤ product_at mass_ring (sizes_of r c.args.cells.now) c.args.places.now) (sym is)
    (size_product m.laws m.sizes c.args.cells.now c.args.places.now r.unit 1 (omega (arith, m.sizes.unit)))

use Rattle.std.proofs.Common.{rules, ◌≡◌, ◌≤◌, sym, subst, arith}
use Rattle.cell_rings.specs.Rings.{mass_ring}
use Rattle.cell_rings.specs.Sums.{product_at, sizes_of}
use Rattle.factor_core.specs.Walks.{shifted}
use Rattle.factor_core.proofs.Shifts.{shifted_none}
use Rattle.factor_core.proofs.Sums.{pair_first, pair_second, one_term, pair_sum, sum_room, sum_fits, sum_adds}
use Rattle.factor_core.proofs.Walking.{advance_fits, advanced}
use Rattle.factor_core.proofs.short_walks.add_pair.Goals as goal

pub product-first-requires-clause-within : goal.product-first-requires-clause-within
product-first-requires-clause-within g c =
    let m = g.met.C.Cell in
    let met = pair_first m.laws m.sizes c.requires.pair.out c.requires.can in
    met.within

pub product-first-requires-clause-fits : goal.product-first-requires-clause-fits
product-first-requires-clause-fits g c =
    let m = g.met.C.Cell in
    let met = pair_first m.laws m.sizes c.requires.pair.out c.requires.can in
    met.fits

pub advance-requires-clause-fits : goal.advance-requires-clause-fits
advance-requires-clause-fits g c =
    advance_fits c.requires.can 0 (omega (arith, c.requires.pair.two)) (sym (shifted_none c.args.strides.now c.args.places.now))

pub product-second-requires-clause-within : goal.product-second-requires-clause-within
product-second-requires-clause-within g c =
    let m = g.met.C.Cell in
    let there : c.advance.new.places ≡ shifted 1 c.args.strides.now c.args.places.now = advanced c.requires.can 0 (sym (shifted_none c.args.strides.now c.args.places.now)) (search rules) c.advance.ensures in
    let met = pair_second m.laws m.sizes c.requires.pair.out c.requires.can c.advance.new.places c.requires.pair.two there in
    met.within

pub product-second-requires-clause-fits : goal.product-second-requires-clause-fits
product-second-requires-clause-fits g c =
    let m = g.met.C.Cell in
    let there : c.advance.new.places ≡ shifted 1 c.args.strides.now c.args.places.now = advanced c.requires.can 0 (sym (shifted_none c.args.strides.now c.args.places.now)) (search rules) c.advance.ensures in
    let met = pair_second m.laws m.sizes c.requires.pair.out c.requires.can c.advance.new.places c.requires.pair.two there in
    met.fits

pub add-requires : goal.add-requires
add-requires g c =
    let m = g.met.C.Cell in
    let there : c.advance.new.places ≡ shifted 1 c.args.strides.now c.args.places.now = advanced c.requires.can 0 (sym (shifted_none c.args.strides.now c.args.places.now)) (search rules) c.advance.ensures in
    let size = subst (λ ps. g.C.Cell.ring.size c.product-second.result ≤ product_at mass_ring (sizes_of g.C.Cell.ring c.args.cells.now) ps) there c.product-second.ensures.size in
    sum_room m.laws m.sizes c.requires.pair.out c.requires.can 1 c.product-first.result c.product-second.result (omega (arith, c.requires.pair.two)) (one_term m.laws m.sizes c.requires.pair.out c.requires.can c.product-first.result c.product-first.ensures.product) size

pub add_at-requires-clause-at : goal.add_at-requires-clause-at
add_at-requires-clause-at g c =
    let m = g.met.C.Cell in
    let met = pair_first m.laws m.sizes c.requires.pair.out c.requires.can in
    met.out

pub add_at-requires-clause-fits : goal.add_at-requires-clause-fits
add_at-requires-clause-fits g c =
    let m = g.met.C.Cell in
    let there : c.advance.new.places ≡ shifted 1 c.args.strides.now c.args.places.now = advanced c.requires.can 0 (sym (shifted_none c.args.strides.now c.args.places.now)) (search rules) c.advance.ensures in
    sum_fits m.laws m.sizes c.requires.pair.out c.requires.can c.add.result (pair_sum m.laws m.sizes c.requires.pair.out c.requires.can c.product-first.result c.product-second.result c.add.result c.advance.new.places c.requires.pair.two there c.product-first.ensures.product c.product-second.ensures.product c.add.ensures)

pub returns : goal.returns
returns g c =
    let m = g.met.C.Cell in
    let there : c.advance.new.places ≡ shifted 1 c.args.strides.now c.args.places.now = advanced c.requires.can 0 (sym (shifted_none c.args.strides.now c.args.places.now)) (search rules) c.advance.ensures in
    sum_adds m.laws m.sizes c.requires.pair.out c.requires.can c.add.result c.add_at.new.out (pair_sum m.laws m.sizes c.requires.pair.out c.requires.can c.product-first.result c.product-second.result c.add.result c.advance.new.places c.requires.pair.two there c.product-first.ensures.product c.product-second.ensures.product c.add.ensures) c.add_at.ensures

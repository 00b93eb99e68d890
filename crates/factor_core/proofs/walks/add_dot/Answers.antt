use Rattle.std.proofs.Common.{◌≡◌, ◌+◌, ◌<◌, ◌≤◌, All, take, length, sym, ap, subst, ◌∙◌, arith}
use Rattle.cell_rings.specs.Rings.{mass_ring}
use Rattle.cell_rings.specs.Sums.{ring_sum, product_from, product_at, sizes_of, ProductFits}
use Rattle.factor_core.specs.Walks.{further}
use Rattle.factor_core.proofs.Dots.{dot_front_within, dot_front_fits, dot_within, dot_fits, dot_sizes, dot_size, dot_adds, dot_at}
use Rattle.factor_core.proofs.walks.add_dot.Goals as goal

pub product-factor-requires-clause-within : goal.product-factor-requires-clause-within
product-factor-requires-clause-within g c =
    let m = g.met.C.Cell in
    subst (λ ps. All (λ p. p < length c.args.cells.now) ps) (sym c.before-front.ensures) (dot_front_within m.laws m.sizes c.args.cells.now c.args.axis c.args.stand c.args.strides.now c.args.places.now c.args.out.now c.args.at c.requires.dot c.requires.can)

pub product-factor-requires-clause-fits : goal.product-factor-requires-clause-fits
product-factor-requires-clause-fits g c =
    let m = g.met.C.Cell in
    subst (ProductFits g.C.Cell.ring c.args.cells.now 1) (sym c.before-front.ensures) (dot_front_fits m.laws m.sizes c.args.cells.now c.args.axis c.args.stand c.args.strides.now c.args.places.now c.args.out.now c.args.at c.requires.dot c.requires.can)

pub dot-sum-requires-clause-within : goal.dot-sum-requires-clause-within
dot-sum-requires-clause-within g c =
    let m = g.met.C.Cell in
    subst (λ ps. All (λ p. p + c.args.axis.states ≤ length c.args.cells.now) ps) (sym c.after-moving.ensures) (dot_within m.laws m.sizes c.args.cells.now c.args.axis c.args.stand c.args.strides.now c.args.places.now c.args.out.now c.args.at c.requires.dot c.requires.can)

pub dot-sum-requires-clause-fits : goal.dot-sum-requires-clause-fits
dot-sum-requires-clause-fits g c =
    let r = g.C.Cell.ring in
    let m = g.met.C.Cell in
    let size : r.size c.product-factor.result ≤ product_at mass_ring (sizes_of r c.args.cells.now) (take c.args.stand c.args.places.now) = subst (λ ps. r.size c.product-factor.result ≤ product_at mass_ring (sizes_of r c.args.cells.now) ps) c.before-front.ensures c.product-factor.ensures.size in
    subst (λ ps. (s : _) → s < c.args.axis.states → ProductFits r c.args.cells.now (r.size c.product-factor.result) (further s ps)) (sym c.after-moving.ensures)
    (dot_fits m.laws m.sizes c.args.cells.now c.args.axis c.args.stand c.args.strides.now c.args.places.now c.args.out.now c.args.at c.requires.dot c.requires.can c.product-factor.result size)

pub dot-sum-requires-clause-room : goal.dot-sum-requires-clause-room
dot-sum-requires-clause-room g c =
    let r = g.C.Cell.ring in
    let m = g.met.C.Cell in
    let size : r.size c.product-factor.result ≤ product_at mass_ring (sizes_of r c.args.cells.now) (take c.args.stand c.args.places.now) = subst (λ ps. r.size c.product-factor.result ≤ product_at mass_ring (sizes_of r c.args.cells.now) ps) c.before-front.ensures c.product-factor.ensures.size in
    subst (λ ps. ring_sum mass_ring c.args.axis.states (λ s. product_from mass_ring (sizes_of r c.args.cells.now) (r.size c.product-factor.result) (further s ps)) ≤ r.most) (sym c.after-moving.ensures)
    (let room = dot_sizes m.laws m.sizes c.args.cells.now c.args.axis c.args.stand c.args.strides.now c.args.places.now c.args.out.now c.args.at c.requires.dot c.requires.can c.product-factor.result size in omega (arith, room))

pub add_at-requires-clause-at : goal.add_at-requires-clause-at
add_at-requires-clause-at g c =
    let m = g.met.C.Cell in
    dot_at m.laws m.sizes c.args.cells.now c.args.axis c.args.stand c.args.strides.now c.args.places.now c.args.out.now c.args.at c.requires.dot c.requires.can

pub add_at-requires-clause-fits : goal.add_at-requires-clause-fits
add_at-requires-clause-fits g c =
    let r = g.C.Cell.ring in
    let m = g.met.C.Cell in
    let size : r.size c.product-factor.result ≤ product_at mass_ring (sizes_of r c.args.cells.now) (take c.args.stand c.args.places.now) = subst (λ ps. r.size c.product-factor.result ≤ product_at mass_ring (sizes_of r c.args.cells.now) ps) c.before-front.ensures c.product-factor.ensures.size in
    let is = subst (λ ps. c.dot-sum.result ≡ ring_sum r c.args.axis.states (λ s. product_from r c.args.cells.now c.product-factor.result (further s ps))) c.after-moving.ensures c.dot-sum.ensures in
    dot_size m.laws m.sizes c.args.cells.now c.args.axis c.args.stand c.args.strides.now c.args.places.now c.args.out.now c.args.at c.requires.dot c.requires.can c.product-factor.result c.dot-sum.result size is

pub returns : goal.returns
returns g c =
    let r = g.C.Cell.ring in
    let m = g.met.C.Cell in
    let is = subst (λ ps. c.dot-sum.result ≡ ring_sum r c.args.axis.states (λ s. product_from r c.args.cells.now c.product-factor.result (further s ps))) c.after-moving.ensures c.dot-sum.ensures in
    let factor = c.product-factor.ensures.product ∙ ap (product_at r c.args.cells.now) c.before-front.ensures in
    dot_adds m.laws m.sizes c.args.cells.now c.args.axis c.args.stand c.args.strides.now c.args.places.now c.args.out.now c.args.at c.requires.dot c.requires.can c.product-factor.result c.dot-sum.result factor is c.add_at.new.out c.add_at.ensures

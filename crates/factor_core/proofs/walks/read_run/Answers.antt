use Rattle.std.proofs.Common.{take, length, ◌-◌, [], ◌∷◌, get_or, arith, sym, subst}
use Rattle.cell_rings.specs.Sums.{ProductFits}
use Rattle.factor_core.specs.Walks.{IsCount}
use Rattle.factor_core.proofs.RunLemmas.{fits_before, split_last}
use Rattle.factor_core.proofs.walks.read_run.Goals as goal

pub bounds-places-1 : goal.bounds-places-1
bounds-places-1 g c =
    let two = subst (λ b. IsCount b (length c.args.places.now)) c.if-turned.true c.requires.count in
    omega (arith, two)

pub bounds-cells-places : goal.bounds-cells-places
bounds-cells-places g c =
    let two = subst (λ b. IsCount b (length c.args.places.now)) c.if-turned.true c.requires.count in
    c.requires.within 1 0 (omega (arith, two))

pub bounds-places-0 : goal.bounds-places-0
bounds-places-0 g c =
    let two = subst (λ b. IsCount b (length c.args.places.now)) c.if-turned.true c.requires.count in
    omega (arith, two)

pub overflow_sub-last : goal.overflow_sub-last
overflow_sub-last g c =
    let some = subst (λ b. IsCount b (length c.args.places.now)) c.if-turned.false c.requires.count in
    omega (arith, some)

pub before-requires : goal.before-requires
before-requires g c =
    let some = subst (λ b. IsCount b (length c.args.places.now)) c.if-turned.false c.requires.count in
    omega (arith, some)

pub product-requires-clause-fits : goal.product-requires-clause-fits
product-requires-clause-fits g c =
    let r = g.C.Cell.ring in
    let cells = c.args.cells.now in
    let places = c.args.places.now in
    let some = subst (λ b. IsCount b (length places)) c.if-turned.false c.requires.count in
    subst (ProductFits r cells 1) (sym c.before-2.ensures)
    (fits_before r cells 1 (take (length places - 1) places) (get_or places (length places - 1) 0 ∷ []) (subst (ProductFits r cells 1) (split_last places some) c.requires.fits))

pub bounds-places-last : goal.bounds-places-last
bounds-places-last g c =
    let some = subst (λ b. IsCount b (length c.args.places.now)) c.if-turned.false c.requires.count in
    omega (arith, some)

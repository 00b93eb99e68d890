use lib.Dec.{T}
use lib.Signed.{non_neg}
use mir.Val.{Fits}
use Rattle.std.proofs.Common.{rules, ℤ, pos, negsuc, nat_abs, ◌≤ℤ◌, ◌∙◌, ◌*◌, ◌<◌, ◌≤◌, get_or, length, sym, ap, subst, arith}
use Rattle.std.proofs.lemmas.List.{get_or-map, length-map}
use Rattle.std.proofs.lemmas.Int.{ints, to_z-of_z}
use Rattle.std.specs.Int.{w128}
use Rattle.std.specs.Int.RustNames.{FitsSigned}
use Rattle.factor_core.proofs.sources.ChanceCellsSource.read.Goals as goal

cast_fits : (z : ℤ) → FitsSigned w128 z → pos 0 ≤ℤ z → T (non_neg z) × Fits w128 (nat_abs z)
cast_fits (pos n) fits some = (tt, record { fits = omega (arith, fits.sfits) })
cast_fits (negsuc n) fits some = absurd (omega (arith, ints, some))

pub overflow_cast-self : goal.overflow_cast-self
overflow_cast-self g c =
    let cells = c.args.self.now.cells.now in
    let z = get_or cells c.args.place (pos 0) in
    let fits : FitsSigned w128 z = search rules in
    let within : c.args.place < length cells = omega (arith, c.requires.within, length-map cells (λ y. g.C.Cell.of_weight (nat_abs y))) in
    rw (to_z-of_z w128 z fits) (cast_fits z fits (c.requires.fit c.args.place (pos 0) within).0)

pub bounds-self-place : goal.bounds-self-place
bounds-self-place g c = omega (arith, c.requires.within, length-map c.args.self.now.cells.now (λ z. g.C.Cell.of_weight (nat_abs z)))

pub weight-requires : goal.weight-requires
weight-requires g c =
    let cells = c.args.self.now.cells.now in
    let z = get_or cells c.args.place (pos 0) in
    let fits : FitsSigned w128 z = search rules in
    let within : c.args.place < length cells = omega (arith, c.requires.within, length-map cells (λ y. g.C.Cell.of_weight (nat_abs y))) in
    subst (λ x. 2 * nat_abs x ≤ g.C.Cell.ring.most) (sym (to_z-of_z w128 z fits)) (c.requires.fit c.args.place (pos 0) within).1

pub returns : goal.returns
returns g c =
    let cells = c.args.self.now.cells.now in
    let z = get_or cells c.args.place (pos 0) in
    let fits : FitsSigned w128 z = search rules in
    let within : c.args.place < length cells = omega (arith, c.requires.within, length-map cells (λ y. g.C.Cell.of_weight (nat_abs y))) in
    c.weight.ensures
    ∙ ap (λ x. g.C.Cell.of_weight (nat_abs x)) (to_z-of_z w128 z fits)
    ∙ sym (get_or-map (λ y. g.C.Cell.of_weight (nat_abs y)) cells c.args.place (pos 0) g.C.Cell.ring.nought within)

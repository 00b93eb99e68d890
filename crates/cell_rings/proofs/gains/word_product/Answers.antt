use Rattle.std.proofs.Common.{rules, ◌%◌, ◌*◌, ◌*ℤ◌, arith, ap, ◌∙◌, FitsSigned, to_z, of_z}
use Rattle.std.specs.Int.{w64, w128}
use Rattle.std.proofs.lemmas.Int.{to_z-of_z, fits_signed_from_abs, int_wrap_fits, wrapping_mul_is}
use Rattle.cell_rings.specs.RingLaws.{abs_mul}
use Rattle.cell_rings.specs.Kinds.{as_gain}
use Rattle.cell_rings.proofs.gains.word_product.Goals as goal

pub overflow_cast-result : goal.overflow_cast-result
overflow_cast-result c =
    let fa : FitsSigned w64 c.args.a.value = search rules in
    rw (to_z-of_z w64 c.args.a.value fa) (record { sfits = omega (arith, fa.sfits) })

pub overflow_cast-result-2 : goal.overflow_cast-result-2
overflow_cast-result-2 c =
    let fb : FitsSigned w128 c.args.b.0 = search rules in
    rw (to_z-of_z w128 c.args.b.0 fb) (fits_signed_from_abs w64 c.args.b.0 c.requires.word)

pub overflow_cast-result-3 : goal.overflow_cast-result-3
overflow_cast-result-3 c =
    let fb : FitsSigned w128 c.args.b.0 = search rules in
    let nb = fits_signed_from_abs w64 c.args.b.0 c.requires.word in
    rw (to_z-of_z w128 c.args.b.0 fb, to_z-of_z w64 c.args.b.0 nb) fb

pub returns : goal.returns
returns c =
    let fa : FitsSigned w64 c.args.a.value = search rules in
    let fb : FitsSigned w128 c.args.b.0 = search rules in
    let nb = fits_signed_from_abs w64 c.args.b.0 c.requires.word in
    let wide : FitsSigned w128 c.args.a.value = record { sfits = omega (arith, fa.sfits) } in
    let fits : FitsSigned w128 (c.args.a.value *ℤ c.args.b.0) =
    fits_signed_from_abs w128 _ (omega (arith, c.requires.room, abs_mul c.args.a.value c.args.b.0)) in
    let word = to_z-of_z w64 c.args.a.value fa in
    let cell = ap (λ z. to_z w64 (of_z w64 z)) (to_z-of_z w128 c.args.b.0 fb) ∙ to_z-of_z w64 c.args.b.0 nb in
    ap as_gain
    ((λ i. to_z w128 (of_z w128 (word i) * of_z w128 (cell i) % 340282366920938463463374607431768211456))
    ∙ wrapping_mul_is w128 c.args.a.value c.args.b.0 wide fb
    ∙ int_wrap_fits w128 (c.args.a.value *ℤ c.args.b.0) fits)

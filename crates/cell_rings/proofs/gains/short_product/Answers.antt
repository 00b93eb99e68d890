use Rattle.std.proofs.Common.{rules, ◌≡◌, ◌*◌, ◌-◌, ◌%◌, ◌^◌, ◌<◌, ◌≤◌, ℕ, ℤ, pos, nat_abs, ◌*ℤ◌, arith, ap, ◌∙◌, FitsSigned, to_z, of_z}
use Rattle.std.specs.Int.{w128, cast_signed, cast_unsigned, int_wrap}
use Rattle.std.proofs.lemmas.Int.{to_z-of_z, to_z_pos, fits_signed_from_abs, int_wrap_fits, wrapping_mul_onto}
use Rattle.cell_rings.specs.RingLaws.{abs_mul}
use Rattle.cell_rings.specs.Kinds.{as_gain}
use Rattle.cell_rings.proofs.gains.short_product.Goals as goal

-- the product of the bits is the product
product_is : (a u s : ℕ) (b z : ℤ) → a < 2 ^ 64 → FitsSigned w128 b → a * nat_abs b ≤ 2 ^ 127 - 1 → u ≡ cast_unsigned w128 b → s ≡ a * u % 2 ^ 128 → z ≡ cast_signed w128 s → to_z w128 (of_z w128 z) ≡ pos a *ℤ b
product_is a u s b z short fb room e f g =
    let fits : FitsSigned w128 (pos a *ℤ b) = fits_signed_from_abs w128 (pos a *ℤ b) (omega (arith, room, abs_mul (pos a) b)) in
    let bits = wrapping_mul_onto w128 a b (let wide : a < 2 ^ 128 = omega arith in wide) fb in
    let positive : cast_signed w128 a ≡ pos a = to_z_pos w128 a (let half : a < 2 ^ 127 = omega arith in half) in
    let is : z ≡ pos a *ℤ b =
    g ∙ ap (cast_signed w128) (f ∙ ap (λ k. a * k % 2 ^ 128) e)
    ∙ bits ∙ ap (λ k. int_wrap w128 (k *ℤ b)) positive ∙ int_wrap_fits w128 (pos a *ℤ b) fits in
    ap (λ k. to_z w128 (of_z w128 k)) is ∙ to_z-of_z w128 (pos a *ℤ b) fits

pub returns : goal.returns
returns c =
    let fb : FitsSigned w128 c.args.b.0 = search rules in
    let short : c.args.a < 2 ^ 64 = search rules in
    ap as_gain (product_is c.args.a c.cast_unsigned.result c.short_times.result c.args.b.0 c.cast_signed.result short fb c.requires (c.cast_unsigned.ensures ∙ ap (of_z w128) (to_z-of_z w128 c.args.b.0 fb)) c.short_times.ensures c.cast_signed.ensures)

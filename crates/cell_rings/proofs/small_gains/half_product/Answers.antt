use Rattle.std.proofs.Common.{rules, ◌≡◌, ◌*◌, ◌-◌, ◌^◌, ◌<◌, ◌≤◌, ℕ, ℤ, pos, nat_abs, ◌*ℤ◌, arith, ap, sym, ◌∙◌, FitsSigned, to_z, of_z}
use Rattle.std.specs.Int.{w64, cast_signed, cast_unsigned}
use Rattle.std.proofs.Math.IntN.{pos-*ℤ-pos}
use Rattle.std.proofs.lemmas.Int.{to_z-of_z, to_z_pos, fits_signed_from_abs}
use Rattle.cell_rings.specs.RingLaws.{abs_mul}
use Rattle.cell_rings.specs.Kinds.{small_gain_of}
use Rattle.cell_rings.proofs.small_gains.half_product.Goals as goal

-- a number of few bits is that of its bits
plain : (u : ℕ) (b : ℤ) → FitsSigned w64 b → u ≡ cast_unsigned w64 b → u < 2 ^ 32 → b ≡ pos u
plain u b fb e few =
    let half : u < 2 ^ 63 = omega (arith, few) in
    sym (to_z-of_z w64 b fb) ∙ ap (to_z w64) (sym e) ∙ to_z_pos w64 u half

product_is : (u v s : ℕ) (a b z : ℤ) → a ≡ pos u → b ≡ pos v → nat_abs a * nat_abs b ≤ 2 ^ 63 - 1 → s ≡ u * v → z ≡ cast_signed w64 s → to_z w64 (of_z w64 z) ≡ a *ℤ b
product_is u v s a b z e f room g h =
    let same : nat_abs a * nat_abs b ≡ u * v = ap (λ k. nat_abs k * nat_abs b) e ∙ ap (λ k. u * nat_abs k) f in
    let small : u * v < 2 ^ 63 = omega (arith, room, same) in
    let fits : FitsSigned w64 (a *ℤ b) = fits_signed_from_abs w64 (a *ℤ b) (omega (arith, room, abs_mul a b)) in
    let is : z ≡ a *ℤ b = h ∙ ap (cast_signed w64) g ∙ to_z_pos w64 (u * v) small ∙ sym (pos-*ℤ-pos u v) ∙ ap (λ k. k *ℤ pos v) (sym e) ∙ ap (λ k. a *ℤ k) (sym f) in
    ap (λ k. to_z w64 (of_z w64 k)) is ∙ to_z-of_z w64 (a *ℤ b) fits

pub returns : goal.returns
returns c =
    let fa : FitsSigned w64 c.args.a.0 = search rules in
    let fb : FitsSigned w64 c.args.b.0 = search rules in
    let first = plain c.bits_of.result c.args.a.0 fa c.bits_of.ensures (omega (arith, c.requires.0, c.bits_of.ensures)) in
    let second = plain c.bits_of-2.result c.args.b.0 fb c.bits_of-2.ensures (omega (arith, c.requires.1, c.bits_of-2.ensures)) in
    ap small_gain_of (product_is c.bits_of.result c.bits_of-2.result c.half_times.result c.args.a.0 c.args.b.0 c.cast_signed.result first second c.requires.2 c.half_times.ensures c.cast_signed.ensures)

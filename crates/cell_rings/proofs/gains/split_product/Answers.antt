use Rattle.std.proofs.Common.{rules, ◌≡◌, ◌*◌, ◌-◌, ◌%◌, ◌^◌, ◌<◌, ◌≤◌, ◌+◌, ℕ, ℤ, pos, nat_abs, ◌+ℤ◌, ◌*ℤ◌, arith, sym, ap, ◌∙◌, FitsSigned, to_z, of_z}
use Rattle.std.specs.Int.{w64, w128, int_wrap}
use Rattle.std.proofs.lemmas.Int.{ints, to_z-of_z, fits_signed_from_abs, int_wrap_fits, wrapping_add-bits, wrapping_mul-bits, wrapping_mul_is, int_wrap-add_left, int_wrap-add_right, int_wrap-mul_left}
use Rattle.finite_sums.proofs.Ints.{mul_assoc, mul_comm, add_mul}
use Rattle.cell_rings.specs.RingLaws.{abs_mul}
use Rattle.cell_rings.specs.Kinds.{as_gain}
use Rattle.cell_rings.proofs.gains.split_product.Goals as goal

-- the upper word's product stands 64 bits higher
regroup : (l h b t : ℤ) → (l *ℤ b) +ℤ ((h *ℤ b) *ℤ t) ≡ (l +ℤ (h *ℤ t)) *ℤ b
regroup l h b t = ap (λ z. (l *ℤ b) +ℤ z) (mul_assoc h b t ∙ ap (λ z. h *ℤ z) (mul_comm b t) ∙ sym (mul_assoc h t b)) ∙ sym (add_mul b l (h *ℤ t))

-- the bits of both products, the upper one 64 bits higher, added in 128 bits
abbrev bits : (l h b : ℤ) → ℕ
bits l h b =
    (of_z w128 l * of_z w128 b % 340282366920938463463374607431768211456
    + of_z w128 h * of_z w128 b % 340282366920938463463374607431768211456 * 18446744073709551616 % 340282366920938463463374607431768211456)
    % 340282366920938463463374607431768211456

-- what wraps on the way wraps at the end
wraps_once : (l h b : ℤ) → FitsSigned w128 l → FitsSigned w128 h → FitsSigned w128 b
    → to_z w128 (bits l h b) ≡ int_wrap w128 ((l +ℤ (h *ℤ pos 18446744073709551616)) *ℤ b)
wraps_once l h b fl fh fb =
    let t = pos 18446744073709551616 in
    let m = of_z w128 l * of_z w128 b % 340282366920938463463374607431768211456 in
    let n = of_z w128 h * of_z w128 b % 340282366920938463463374607431768211456 in
    let o = n * 18446744073709551616 % 340282366920938463463374607431768211456 in
    let m_few : m < 340282366920938463463374607431768211456 = omega arith in
    let n_few : n < 340282366920938463463374607431768211456 = omega arith in
    let o_few : o < 340282366920938463463374607431768211456 = omega arith in
    let one : 18446744073709551616 < 340282366920938463463374607431768211456 = omega arith in
    let low : to_z w128 m ≡ int_wrap w128 (l *ℤ b) = wrapping_mul_is w128 l b fl fb in
    let high : to_z w128 n ≡ int_wrap w128 (h *ℤ b) = wrapping_mul_is w128 h b fh fb in
    let above : to_z w128 o ≡ int_wrap w128 ((h *ℤ b) *ℤ t) =
    wrapping_mul-bits w128 n 18446744073709551616 n_few one ∙ ap (λ z. int_wrap w128 (z *ℤ t)) high ∙ int_wrap-mul_left w128 (h *ℤ b) t in
    wrapping_add-bits w128 m o m_few o_few
    ∙ (λ i. int_wrap w128 (low i +ℤ above i))
    ∙ int_wrap-add_left w128 (l *ℤ b) (int_wrap w128 ((h *ℤ b) *ℤ t))
    ∙ int_wrap-add_right w128 (l *ℤ b) ((h *ℤ b) *ℤ t)
    ∙ ap (int_wrap w128) (regroup l h b t)

wider : (z : ℤ) → FitsSigned w64 z → FitsSigned w128 z
wider z f = fits_signed_from_abs w128 z (let few : nat_abs z ≤ 2 ^ 63 = grind (arith, ints) in omega (arith, few))

product_is : (l h b : ℤ) → FitsSigned w64 l → FitsSigned w64 h → FitsSigned w64 b → nat_abs (int_wrap w128 (l +ℤ (h *ℤ pos 18446744073709551616))) * nat_abs b ≤ 2 ^ 127 - 1
    → to_z w128 (bits l h b) ≡ int_wrap w128 (l +ℤ (h *ℤ pos 18446744073709551616)) *ℤ b
product_is l h b fl fh fb room =
    let t = pos 18446744073709551616 in
    let w = int_wrap w128 (l +ℤ (h *ℤ t)) in
    let fits : FitsSigned w128 (w *ℤ b) = fits_signed_from_abs w128 (w *ℤ b) (omega (arith, room, abs_mul w b)) in
    wraps_once l h b (wider l fl) (wider h fh) (wider b fb)
    ∙ sym (int_wrap-mul_left w128 (l +ℤ (h *ℤ t)) b) ∙ int_wrap_fits w128 (w *ℤ b) fits

pub returns : goal.returns
returns c =
    let fl : FitsSigned w64 c.args.a.low = search rules in
    let fh : FitsSigned w64 c.args.a.high = search rules in
    let fb : FitsSigned w128 c.args.b.0 = search rules in
    let nb : FitsSigned w64 c.args.b.0 = fits_signed_from_abs w64 c.args.b.0 (omega (arith, c.requires.word)) in
    let low = to_z-of_z w64 c.args.a.low fl in
    let high = to_z-of_z w64 c.args.a.high fh in
    let cell = ap (λ z. to_z w64 (of_z w64 z)) (to_z-of_z w128 c.args.b.0 fb) ∙ to_z-of_z w64 c.args.b.0 nb in
    ap as_gain
    ((λ i. to_z w128 (bits (low i) (high i) (cell i)))
    ∙ product_is c.args.a.low c.args.a.high c.args.b.0 fl fh nb c.requires.room)

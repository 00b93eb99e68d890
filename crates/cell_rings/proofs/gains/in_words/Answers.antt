use Rattle.std.proofs.Common.{rules, ◌≡◌, ◌*◌, ◌/◌, ◌%◌, ◌<◌, ◌+◌, ℕ, pos, ◌+ℤ◌, ◌*ℤ◌, bit_and, arith, refl, sym, ap, ◌∙◌, FitsSigned, to_z, of_z}
use Rattle.std.specs.Int.{w64, w128, int_wrap, cast_signed}
use Rattle.std.proofs.lemmas.Int.{ints, to_z-of_z, int_wrap-add_right, wrapping_add-bits, wrapping_mul-bits}
use Rattle.std.proofs.lemmas.Nat.Bits.{and_high}
use Rattle.cell_rings.specs.Words.{whole}
use Rattle.cell_rings.proofs.gains.in_words.Goals as goal

low_word : (b : ℕ) → bit_and b 18446744073709551615 ≡ b % 18446744073709551616
low_word b = and_high b 64 0 ∙ omega arith

-- a word with a sign is so many bits of 128
abbrev wide : ℕ → ℕ
wide n = n + n / 9223372036854775808 * 340282366920938463444927863358058659840

wide_is : (n : ℕ) → n < 18446744073709551616 → cast_signed w128 (wide n) ≡ cast_signed w64 n
wide_is n h = grind (arith, ints)

wide_few : (n : ℕ) → n < 18446744073709551616 → wide n < 340282366920938463463374607431768211456
wide_few n h = omega arith

raised : (y : ℕ) → y < 18446744073709551616 → wide y * 18446744073709551616 % 340282366920938463463374607431768211456 ≡ y * 18446744073709551616
raised y h = omega arith

joined : (b l y : ℕ) → l ≡ b % 18446744073709551616 → b < 340282366920938463463374607431768211456 → y ≡ (b / 18446744073709551616 + l / 9223372036854775808) % 18446744073709551616
    → (wide l + y * 18446744073709551616) % 340282366920938463463374607431768211456 ≡ b
joined b l y e h f = omega arith

whole_is : (b l y : ℕ) → l ≡ b % 18446744073709551616 → b < 340282366920938463463374607431768211456 → y ≡ (b / 18446744073709551616 + l / 9223372036854775808) % 18446744073709551616
    → int_wrap w128 (cast_signed w64 l +ℤ (cast_signed w64 y *ℤ pos 18446744073709551616)) ≡ cast_signed w128 b
whole_is b l y e h f =
    let few : l < 18446744073709551616 = omega arith in
    let small : y < 18446744073709551616 = omega arith in
    let high_few : y * 18446744073709551616 < 340282366920938463463374607431768211456 = omega arith in
    let one : 18446744073709551616 < 340282366920938463463374607431768211456 = omega arith in
    let t : cast_signed w128 18446744073709551616 ≡ pos 18446744073709551616 = refl in
    let high : cast_signed w128 (y * 18446744073709551616) ≡ int_wrap w128 (cast_signed w64 y *ℤ pos 18446744073709551616) =
    ap (cast_signed w128) (sym (raised y small)) ∙ wrapping_mul-bits w128 (wide y) 18446744073709551616 (wide_few y small) one ∙ ap (λ z. int_wrap w128 (z *ℤ pos 18446744073709551616)) (wide_is y small) in
    sym (int_wrap-add_right w128 (cast_signed w64 l) (cast_signed w64 y *ℤ pos 18446744073709551616))
    ∙ ap (λ z. int_wrap w128 (cast_signed w64 l +ℤ z)) (sym high)
    ∙ ap (λ z. int_wrap w128 (z +ℤ cast_signed w128 (y * 18446744073709551616))) (sym (wide_is l few))
    ∙ sym (wrapping_add-bits w128 (wide l) (y * 18446744073709551616) (wide_few l few) high_few)
    ∙ ap (cast_signed w128) (joined b l y e h f)

pub returns : goal.returns
returns c =
    let a = c.args.a.0 in
    let b = c.cast_unsigned-bits.result in
    let l = bit_and b 18446744073709551615 in
    let y = (b / 18446744073709551616 + l / 9223372036854775808) % 18446744073709551616 in
    let fits : FitsSigned w128 a = search rules in
    let low_fits : FitsSigned w64 c.cast_signed.result = search rules in
    let high_fits : FitsSigned w64 c.cast_signed-2.result = search rules in
    let low = to_z-of_z w64 c.cast_signed.result low_fits ∙ c.cast_signed.ensures in
    let high = to_z-of_z w64 c.cast_signed-2.result high_fits ∙ c.cast_signed-2.ensures in
    let is : b ≡ of_z w128 a = c.cast_unsigned-bits.ensures ∙ ap (of_z w128) (to_z-of_z w128 a fits) in
    (λ i. whole (record { low = low i; high = high i }))
    ∙ whole_is b l y (low_word b) c.cast_unsigned-bits.type_inv refl
    ∙ ap (to_z w128) is ∙ to_z-of_z w128 a fits

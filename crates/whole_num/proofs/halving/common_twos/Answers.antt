use Rattle.std.proofs.Common.{rules, arith, ◌≡◌, ◌<◌, ◌≤◌, ◌^◌, ◌⊎◌, ◌/◌, ◌%◌, ℕ, inl, inr, min, sym, subst, ◌∙◌}
use Rattle.std.specs.Int.{bit_at, trailing_zeros, w64}
use Rattle.std.proofs.Math.Nat.{min-eq_left, min-eq_right, min-le_left, min-le_right}
use Rattle.std.proofs.Math.Decide.{dec_le}
use Rattle.std.proofs.lemmas.Nat.Bits.{bit_at-trailing_zeros}
use Rattle.whole_num.proofs.Halves.{shift_divides}
use Rattle.whole_num.proofs.halving.common_twos.Goals as goal

-- below the lesser of two places the digits are those below each
below_min : (n t x y : ℕ) → t ≡ min x y → ((i : ℕ) → i < x → bit_at n i ≡ 0) → (i : ℕ) → i < t → bit_at n i ≡ 0
below_min n t x y e none i h = none i (omega (arith, h, e, min-le_left x y))

below_min' : (n t x y : ℕ) → t ≡ min x y → ((i : ℕ) → i < y → bit_at n i ≡ 0) → (i : ℕ) → i < t → bit_at n i ≡ 0
below_min' n t x y e none i h = none i (omega (arith, h, e, min-le_right x y))

-- at the lesser place one of the numbers has its lowest 1
one_there : (n m t x y : ℕ) → t ≡ min x y → bit_at n x ≡ 1 → bit_at m y ≡ 1 → (n / 2 ^ t % 2 ≡ 1) ⊎ (m / 2 ^ t % 2 ≡ 1)
one_there n m t x y e i j = go (dec_le x y)
  where
    go : Dec (x ≤ y) → (n / 2 ^ t % 2 ≡ 1) ⊎ (m / 2 ^ t % 2 ≡ 1)
    go (yes l) = inl (subst (λ k. n / 2 ^ k % 2 ≡ 1) (sym (e ∙ min-eq_left l)) i)
    go (no k) = inr (subst (λ k. m / 2 ^ k % 2 ≡ 1) (sym (e ∙ min-eq_right (less k))) j)
      where
        less : ¬ (x ≤ y) → y ≤ x
        less k = omega arith

pub returns-clause-in_a : goal.returns-clause-in_a
returns-clause-in_a c =
    let low = bit_at-trailing_zeros w64 c.args.a c.requires.a_positive (search rules) in
    shift_divides c.min.result c.args.a (below_min c.args.a c.min.result _ _ c.min.ensures low.2)

pub returns-clause-in_b : goal.returns-clause-in_b
returns-clause-in_b c =
    let low = bit_at-trailing_zeros w64 c.args.b c.requires.b_positive (search rules) in
    shift_divides c.min.result c.args.b (below_min' c.args.b c.min.result _ _ c.min.ensures low.2)

pub returns-clause-odd : goal.returns-clause-odd
returns-clause-odd c =
    let low = bit_at-trailing_zeros w64 c.args.a c.requires.a_positive (search rules) in
    let low_b = bit_at-trailing_zeros w64 c.args.b c.requires.b_positive (search rules) in
    one_there c.args.a c.args.b c.min.result _ _ c.min.ensures low.1 low_b.1

pub returns-clause-within : goal.returns-clause-within
returns-clause-within c =
    let low = bit_at-trailing_zeros w64 c.args.a c.requires.a_positive (search rules) in
    omega (arith, low.0, c.min.ensures, min-le_left (trailing_zeros w64 c.args.a) (trailing_zeros w64 c.args.b))

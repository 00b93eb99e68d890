-- Laws of the order of two fractions: whole parts decide where they differ, and else the rests.
use Rattle.std.proofs.Common.{◌≡◌, ◌≢◌, ◌<◌, ◌≤◌, ◌+◌, ◌*◌, ◌/◌, ◌%◌, ◌⊎◌, inl, inr, ℕ, zero, suc, sym, ◌∙◌, arith, ap, subst}
use Rattle.std.specs.Ordering.{MatchOrdering, nat_cmp}
use Rattle.std.specs.declared.cmp.Ordering.{Ordering}
use Rattle.std.specs.declared.cmp.Ordering.TheVariants.{Less, Equal, Greater}
use Rattle.std.specs.Cmp.{ranks, nat_cmp_is}
use Rattle.std.proofs.Math.Nat.{mul-le-mul_left, mul-le-mul_right}
use Rattle.whole_num.specs.Fractions.{fraction_order}

-- the two numbers stand in that order
abbrev Ranks : ℕ → ℕ → Ordering → Type 0
Ranks x y order = MatchOrdering order (x < y) (x ≡ y) (y < x)

-- both grow by the same
beside : (k x y : ℕ) (r : Ordering) → Ranks x y r → Ranks (k + x) (k + y) r
beside k x y Less h = omega arith
beside k x y Equal h = omega arith
beside k x y Greater h = omega arith

same_beside : (k x y : ℕ) → nat_cmp (k + x) (k + y) ≡ nat_cmp x y
same_beside k x y = sym (nat_cmp_is (k + x) (k + y) (nat_cmp x y) (beside k x y (nat_cmp x y) (ranks x y)))

-- a smaller whole part: a is less than one more whole part of b, and c no less than its own of d
less_across : (a b c d : ℕ) → 0 < b → 0 < d → a / b < c / d → a * d < c * b
less_across a b c d hb hd less =
    let above : suc a ≤ b * suc (a / b) = omega arith in
    let up : suc a * d ≤ (b * suc (a / b)) * d = mul-le-mul_right d above in
    let more : b * d * suc (a / b) ≤ b * d * (c / d) = mul-le-mul_left (b * d) less in
    let below : b * (d * (c / d)) ≤ b * c = mul-le-mul_left b (omega arith) in
    omega arith

across : (a b c d : ℕ) (r : Ordering) → 0 < b → 0 < d → a / b ≢ c / d → Ranks (a / b) (c / d) r → Ranks (a * d) (c * b) r
across a b c d Less hb hd ne h = less_across a b c d hb hd h
across a b c d Equal hb hd ne h = absurd (ne h)
across a b c d Greater hb hd ne h = less_across c d a b hd hb h

pub whole_parts_decide : (a b c d : ℕ) → 0 < b → 0 < d → a / b ≢ c / d → nat_cmp (a / b) (c / d) ≡ fraction_order a b c d
whole_parts_decide a b c d hb hd ne = nat_cmp_is (a * d) (c * b) (nat_cmp (a / b) (c / d)) (across a b c d (nat_cmp (a / b) (c / d)) hb hd ne (ranks (a / b) (c / d)))

-- the products across are those of the rests and as many whole parts of both
split : (a b d : ℕ) → 0 < b → a * d ≡ (a / b) * (b * d) + (a % b) * d
split a b d hb =
    let parts : b * (a / b) + a % b ≡ a = omega arith in
    ap (λ z. z * d) (sym parts) ∙ omega arith

rests_decide : (a b c d : ℕ) → 0 < b → 0 < d → a / b ≡ c / d → fraction_order a b c d ≡ nat_cmp ((a % b) * d) ((c % d) * b)
rests_decide a b c d hb hd same =
    let right : c * b ≡ (a / b) * (b * d) + (c % d) * b = split c d b hd ∙ ap (λ z. z * (d * b) + (c % d) * b) (sym same) ∙ omega arith in
    ap (λ x. nat_cmp x (c * b)) (split a b d hb) ∙ ap (λ y. nat_cmp ((a / b) * (b * d) + (a % b) * d) y) right ∙ same_beside ((a / b) * (b * d)) ((a % b) * d) ((c % d) * b)

pub turned_rests_decide : (a b c d : ℕ) → 0 < b → 0 < d → a / b ≡ c / d → fraction_order d (c % d) b (a % b) ≡ fraction_order a b c d
turned_rests_decide a b c d hb hd same =
    let left : d * (a % b) ≡ (a % b) * d = omega arith in
    let right : b * (c % d) ≡ (c % d) * b = omega arith in
    ap (λ x. nat_cmp x (b * (c % d))) left ∙ ap (λ y. nat_cmp ((a % b) * d) y) right ∙ sym (rests_decide a b c d hb hd same)

nought_decides : (r s b d : ℕ) → 0 < b → 0 < d → (r ≡ 0) ⊎ (s ≡ 0) → Ranks (r * d) (s * b) (nat_cmp r s)
nought_decides zero zero b d hb hd nought = omega arith
nought_decides zero (suc s) b d hb hd nought = subst (Ranks (0 * d) (suc s * b)) (nat_cmp_is 0 (suc s) Less (omega arith)) (omega arith)
nought_decides (suc r) zero b d hb hd nought = subst (Ranks (suc r * d) (0 * b)) (nat_cmp_is (suc r) 0 Greater (omega arith)) (omega arith)
nought_decides (suc r) (suc s) b d hb hd (inl e) = absurd (omega arith)
nought_decides (suc r) (suc s) b d hb hd (inr e) = absurd (omega arith)

pub nought_rest_decides : (a b c d : ℕ) → 0 < b → 0 < d → a / b ≡ c / d → (a % b ≡ 0) ⊎ (c % d ≡ 0) → nat_cmp (a % b) (c % d) ≡ fraction_order a b c d
nought_rest_decides a b c d hb hd same nought = nat_cmp_is ((a % b) * d) ((c % d) * b) (nat_cmp (a % b) (c % d)) (nought_decides (a % b) (c % d) b d hb hd nought) ∙ sym (rests_decide a b c d hb hd same)

-- Fractions in lowest terms: the denominator divides every denominator of the value (Euclid's
-- lemma).
use Rattle.std.proofs.Common.{◌≡◌, ◌∙◌, ℕ, zero, suc, ◌+◌, ◌*◌, ◌/◌, ◌%◌, ◌^◌, ◌<◌, ◌≤◌, refl, sym, ap, subst, arith, ℤ, pos, ◌+ℤ◌, ◌*ℤ◌, ◌-ℤ◌, ◌<ℤ◌, nat_abs, to_z, of_z, FitsSigned, rules}
use Rattle.std.proofs.lemmas.Int.{ints, fits_signed_from_abs, unsigned_abs-mul}
use Rattle.std.specs.Int.{w128}
use Rattle.std.below.core.specs.declared.int.i128.TheConstants.{MIN}
use Rattle.std.proofs.lemmas.Nat.Gcd.{IsGcd-from_zero, same_from_IsGcd, le_of_dvd}
use Rattle.std.proofs.Math.Nat.{div-mul_cancel, dvd-add_iff_right, dvd-mod_iff, dvd-mul_left, dvd-mul_right_of_dvd, mul_comm, mul-le-mul_left}
use Rattle.std.specs.Int.{IsGcd, ◌∣◌}
use Rattle.finite_sums.proofs.Ints.{add_mul, products}
use Rattle.arc_laws.proofs.Differences.{from_fraction}
use Rattle.maid_laws.proofs.Fractions.{cancel, fraction_like}
use Rattle.maid_model.specs.declared.answers.Ratio.{Ratio}
use Rattle.maid_model.specs.Answers.{IsFraction, IsReduced}
use Rattle.maid_model.specs.Diagrams.{greatest_number}
use Rattle.maid_model.specs.Values.{IsDifference}
use Rattle.whole_num.specs.Divisors.{IsLcm}
use Rattle.optimum_gap.specs.Fractions.{CanWiden, IsOver, ShareDenominator}

-- what divides t times two numbers divides t times their greatest common divisor: by the remainders
-- of Euclid's algorithm
divides_times : (fuel a b g t d : ℕ) → b ≤ fuel → IsGcd a b g → d ∣ t * a → d ∣ t * b → d ∣ t * g
divides_times fuel a zero g t d le is da db = subst (λ z. d ∣ t * z) (same_from_IsGcd a zero a g (IsGcd-from_zero a zero refl) is) da
divides_times zero a (suc b) g t d le is da db = absurd (omega arith)
divides_times (suc fuel) a (suc b) g t d le is da db = divides_times fuel (suc b) (a % suc b) g t d less step db rest
  where
    less : a % suc b ≤ fuel
    less = omega arith

    step : IsGcd (suc b) (a % suc b) g
    step = (is.1, (dvd-mod_iff g is.1).1 is.0, λ e eb er. is.2 e ((dvd-mod_iff e eb).0 er) eb)

    rest : d ∣ t * (a % suc b)
    rest =
        let e : suc b * (a / suc b) + a % suc b ≡ a = omega arith in
        let whole : (t * suc b) * (a / suc b) + t * (a % suc b) ≡ t * a = omega (arith, ap (λ z. t * z) e) in
        (dvd-add_iff_right d (dvd-mul_right_of_dvd d db (a / suc b))).1 (subst (λ z. d ∣ z) (sym whole) da)

-- so the denominator in lowest terms divides each other one
pub divides_den : (r : Ratio) (n : ℤ) (m : ℕ) → IsFraction r n m → r.den ∣ m
divides_den r n m f =
    subst (λ z. r.den ∣ z) (times_one m)
    (divides_times r.den (nat_abs r.num) r.den 1 m r.den (omega arith) f.reduced.coprime
    (subst (λ z. r.den ∣ z) (sym sizes ∙ mul_comm (nat_abs r.num) m) (dvd-mul_left r.den (nat_abs n)))
    (dvd-mul_left r.den m))
  where
    times_one : (x : ℕ) → x * 1 ≡ x
    times_one x = omega arith

    sizes : nat_abs r.num * m ≡ nat_abs n * r.den
    sizes = sym (unsigned_abs-mul r.num (pos m)) ∙ ap nat_abs f.same ∙ unsigned_abs-mul n (pos r.den)

-- over a divisor of the common denominator a numerator is no greater
pub can_widen : (r : Ratio) (m l : ℕ) → 0 < m → m ≤ greatest_number → IsOver r m → r.den ∣ l → l ∣ m → CanWiden r l
can_widen r m l some few o dl lm = record {
  positive = o.is.reduced.positive;
  multiple = dl;
  few = omega (arith, le_of_dvd some lm);
  small = small;
}
  where
    q : ℕ
    q = l / r.den

    k : ℕ
    k = m / l

    last : (a b : ℕ) → a * b ≡ m → 0 < b
    last a zero e = absurd (omega arith)
    last a (suc b) e = omega arith

    first : 0 < k
    first = last l k (mul_comm l k ∙ div-mul_cancel l lm)

    whole : (q * r.den) * k ≡ m
    whole = ap (λ z. z * k) (div-mul_cancel r.den dl) ∙ mul_comm l k ∙ div-mul_cancel l lm

    natural : (x : ℕ) → 0 < x → pos 0 <ℤ pos x
    natural x h = omega (arith, ints)

    group : (a b c d : ℤ) → a *ℤ ((b *ℤ c) *ℤ d) ≡ ((a *ℤ b) *ℤ d) *ℤ c
    group a b c d = simp products

    numerator : (r.num *ℤ pos q) *ℤ pos k ≡ o.num
    numerator = cancel ((r.num *ℤ pos q) *ℤ pos k) o.num (pos r.den) (natural r.den o.is.reduced.positive)
        (sym (group r.num (pos q) (pos r.den) (pos k)) ∙ ap (λ z. r.num *ℤ pos z) whole ∙ o.is.same)

    sizes : nat_abs (r.num *ℤ pos q) * k ≡ nat_abs o.num
    sizes = sym (unsigned_abs-mul (r.num *ℤ pos q) (pos k)) ∙ ap nat_abs numerator

    below : (a b c : ℕ) → 0 < b → a * b ≡ c → a ≤ c
    below a b c h e = omega (arith, mul-le-mul_left a h)

    small : nat_abs (r.num *ℤ pos (l / r.den)) ≤ greatest_number
    small = omega (arith, o.small, below (nat_abs (r.num *ℤ pos q)) k (nat_abs o.num) first sizes)

-- both fractions can be written over the least common multiple
pub widens_first : (a b : Ratio) (l : ℕ) → ShareDenominator a b → IsLcm a.den b.den l → CanWiden a l
widens_first a b l s is = can_widen a s.den l s.some s.few s.first is.0 (is.2 s.den (divides_den a s.first.num s.den s.first.is) (divides_den b s.second.num s.den s.second.is))

pub widens_second : (a b : Ratio) (l : ℕ) → ShareDenominator a b → IsLcm a.den b.den l → CanWiden b l
widens_second a b l s is = can_widen b s.den l s.some s.few s.second is.1 (is.2 s.den (divides_den a s.first.num s.den s.first.is) (divides_den b s.second.num s.den s.second.is))

-- which keeps the range
pub lcm_fits : (a b : Ratio) (l : ℕ) → ShareDenominator a b → IsLcm a.den b.den l → l ≤ greatest_number
lcm_fits a b l s is = (widens_first a b l s is).few

-- the difference of the numerators there is that of the fractions
pub difference_is : (r a b : Ratio) (x y : ℤ) (m : ℕ) → 0 < m → x *ℤ pos a.den ≡ a.num *ℤ pos m → y *ℤ pos b.den ≡ b.num *ℤ pos m → IsFraction r (x -ℤ y) m → IsDifference r a b
difference_is r a b x y m h ex ey f =
    from_fraction r a b (fraction_like r (x -ℤ y) (a.num *ℤ pos b.den -ℤ b.num *ℤ pos a.den) m (a.den * b.den) h f across)
  where
    left : (p q n d e : ℤ) → p *ℤ d ≡ q *ℤ n → p *ℤ (d *ℤ e) ≡ (q *ℤ e) *ℤ n
    left p q n d e h = one p d e ∙ ap (λ z. z *ℤ e) h ∙ two q n e
      where
        one : (p d e : ℤ) → p *ℤ (d *ℤ e) ≡ (p *ℤ d) *ℤ e
        one p d e = simp products

        two : (q n e : ℤ) → (q *ℤ n) *ℤ e ≡ (q *ℤ e) *ℤ n
        two q n e = simp products

    swap : pos (a.den * b.den) ≡ pos (b.den * a.den)
    swap = ap pos (mul_comm a.den b.den)

    minus : (u v w : ℤ) → (u -ℤ v) *ℤ w ≡ (u *ℤ w) -ℤ (v *ℤ w)
    minus u v w = omega (arith, ints, add_mul w (u -ℤ v) v, ap (λ z. z *ℤ w) (join u v))
      where
        join : (x y : ℤ) → (x -ℤ y) +ℤ y ≡ x
        join x y = omega (arith, ints)

    across : (x -ℤ y) *ℤ pos (a.den * b.den) ≡ (a.num *ℤ pos b.den -ℤ b.num *ℤ pos a.den) *ℤ pos m
    across =
        minus x y (pos (a.den * b.den))
        ∙ (λ i. left x a.num (pos m) (pos a.den) (pos b.den) ex i -ℤ (ap (λ z. y *ℤ z) swap ∙ left y b.num (pos m) (pos b.den) (pos a.den) ey) i)
        ∙ sym (minus (a.num *ℤ pos b.den) (b.num *ℤ pos a.den) (pos m))

-- ---- in 128 bits
-- what fits is kept
round : (z : ℤ) → FitsSigned w128 z → to_z w128 (of_z w128 z) ≡ z
round z f = omega (arith, ints)

pub fits_small : (z : ℤ) → nat_abs z < 2 ^ 127 → FitsSigned w128 z
fits_small z h = fits_signed_from_abs w128 z h

-- the product in the code is the numerator over the multiple
pub widened_is : (r : Ratio) (whole : ℕ) → FitsSigned w128 r.num → CanWiden r whole → to_z w128 (of_z w128 (to_z w128 (of_z w128 r.num) *ℤ to_z w128 (whole / r.den))) *ℤ pos r.den ≡ r.num *ℤ pos whole
widened_is r whole f w =
    (λ i. to_z w128 (of_z w128 (round r.num f i *ℤ factor i)) *ℤ pos r.den)
    ∙ ap (λ z. z *ℤ pos r.den) (round (r.num *ℤ pos (whole / r.den)) (fits_small (r.num *ℤ pos (whole / r.den)) (omega (arith, w.small))))
    ∙ group r.num (pos (whole / r.den)) (pos r.den) ∙ ap (λ z. r.num *ℤ pos z) (div-mul_cancel r.den w.multiple)
  where
    group : (a b c : ℤ) → (a *ℤ b) *ℤ c ≡ a *ℤ (b *ℤ c)
    group a b c = simp products

    factor : to_z w128 (whole / r.den) ≡ pos (whole / r.den)
    factor = let l : whole / r.den ≤ whole = omega (arith, w.positive) in omega (arith, ints, w.few)

fits_minus : (x y : ℤ) → nat_abs x ≤ greatest_number → nat_abs y ≤ greatest_number → FitsSigned w128 (x -ℤ y)
fits_minus x y h k = search rules

-- what the code subtracts is the difference, which fits
pub minus_fits : (x y : ℤ) → nat_abs x ≤ greatest_number → nat_abs y ≤ greatest_number → FitsSigned w128 (to_z w128 (of_z w128 x) -ℤ to_z w128 (of_z w128 y))
minus_fits x y h k = subst (FitsSigned w128) (λ i. sym (round x (fits_small x (omega (arith, h)))) i -ℤ sym (round y (fits_small y (omega (arith, k)))) i) (fits_minus x y h k)

minus_exact : (x y : ℤ) → nat_abs x ≤ greatest_number → nat_abs y ≤ greatest_number → to_z w128 (of_z w128 (to_z w128 (of_z w128 x) -ℤ to_z w128 (of_z w128 y))) ≡ x -ℤ y
minus_exact x y h k =
    (λ i. to_z w128 (of_z w128 (round x (fits_small x (omega (arith, h))) i -ℤ round y (fits_small y (omega (arith, k))) i)))
    ∙ round (x -ℤ y) (fits_minus x y h k)

-- and is not the least number
pub minus_above : (x y : ℤ) → nat_abs x ≤ greatest_number → nat_abs y ≤ greatest_number → to_z w128 (of_z w128 (to_z w128 (of_z w128 x) -ℤ to_z w128 (of_z w128 y))) ≡ MIN → ⊥
minus_above x y h k e = let least : x -ℤ y ≡ MIN = sym (minus_exact x y h k) ∙ e in omega (arith, ints, h, k, least)

-- the fraction that `reduce` makes of the difference of two such numerators
pub reduced_is : (a b : Ratio) (x y n : ℤ) (k m : ℕ) → 0 < m → nat_abs x ≤ greatest_number → nat_abs y ≤ greatest_number → x *ℤ pos a.den ≡ a.num *ℤ pos m → y *ℤ pos b.den ≡ b.num *ℤ pos m
    → FitsSigned w128 n → IsReduced (record { num = n; den = k }) → to_z w128 (of_z w128 (to_z w128 (of_z w128 x) -ℤ to_z w128 (of_z w128 y))) *ℤ pos k ≡ n *ℤ pos m
    → IsDifference (record { num = to_z w128 (of_z w128 n); den = k }) a b
reduced_is a b x y n k m h lx ly ex ey f red same =
    subst (λ z. IsDifference (record { num = z; den = k }) a b) (sym (round n f))
    (difference_is (record { num = n; den = k }) a b x y m h ex ey (record { reduced = red; same = sym same ∙ ap (λ z. z *ℤ pos k) (minus_exact x y lx ly) }))

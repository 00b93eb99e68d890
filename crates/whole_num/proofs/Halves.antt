-- Greatest common divisors by halving, and the fractions that they leave.
use Rattle.std.proofs.Common.{◌≡◌, ◌∙◌, ℕ, zero, suc, ◌+◌, ◌*◌, ◌/◌, ◌%◌, ◌^◌, ◌-◌, ◌<◌, ◌≤◌, min, Bool, true, false, ltb, if◌then◌else◌, ℤ, pos, negsuc, neg_ℤ, ◌*ℤ◌, unsigned_abs, refl, sym, ap, subst, arith}
use Rattle.std.specs.Int.{IsGcd, ◌∣◌, bit_at}
use Rattle.std.proofs.Math.Nat.{dvd-add_iff_right, dvd-mul_left, dvd-mul_left_of_dvd, mul-div_cancel}
use Rattle.std.specs.Int.Signed.{lt_z}
use Rattle.std.proofs.lemmas.Bool.{ltb-true}
use Rattle.std.proofs.Math.Nat.{min-eq_left, min-eq_right}
use Rattle.std.proofs.Math.Decide.{dec_le}
use Rattle.std.proofs.lemmas.Nat.{shr-shr, pow-add}
use Rattle.std.proofs.lemmas.Nat.Bits.{bit_at_lowest, bit_at-suc}
use Rattle.std.proofs.lemmas.Nat.Gcd.{IsGcd-swap, IsGcd-from_sub}
use Rattle.whole_num.specs.Fractions.{IsSameFraction}
use Rattle.whole_num.proofs.Quotients.{abs_neg, neg_mul}

-- what divides an odd number and an even one divides half of the latter
half_divided : (a b d : ℕ) → a % 2 ≡ 1 → b % 2 ≡ 0 → d ∣ a → d ∣ b → d ∣ b / 2
half_divided a b d odd even da db = (dvd-add_iff_right d (dvd-mul_left_of_dvd d db (a / 2))).1 (subst (λ z. d ∣ z) whole (dvd-mul_left_of_dvd d da (b / 2)))
  where
    odd_is : a ≡ 2 * (a / 2) + 1
    odd_is = omega (arith, odd)

    even_is : b ≡ 2 * (b / 2)
    even_is = omega (arith, even)

    whole : b / 2 * a ≡ a / 2 * b + b / 2
    whole = omega (arith, ap (λ z. b / 2 * z) odd_is, ap (λ z. a / 2 * z) even_is)

-- so halving the latter keeps the greatest common divisor
half_gcd : (a b g : ℕ) → a % 2 ≡ 1 → b % 2 ≡ 0 → IsGcd a (b / 2) g → IsGcd a b g
half_gcd a b g odd even is = (is.0, subst (λ z. g ∣ z) double (dvd-mul_left_of_dvd g is.1 2), λ d da db. is.2 d da (half_divided a b d odd even da db))
  where
    double : 2 * (b / 2) ≡ b
    double = omega (arith, even)

-- the halves of a number whose lowest digits are 0
halves : (k n : ℕ) → ((i : ℕ) → i < suc k → bit_at n i ≡ 0) → (n % 2 ≡ 0) × ((i : ℕ) → i < k → bit_at (n / 2) i ≡ 0)
halves k n none = (sym (bit_at_lowest n) ∙ none 0 (omega arith), λ i h. sym (bit_at-suc n i) ∙ none (suc i) (omega (arith, h)))

shift_more : (n k : ℕ) → n / 2 ^ suc k ≡ n / 2 / 2 ^ k
shift_more n k = ap (λ m. n / 2 ^ m) (one k) ∙ sym (shr-shr n 1 k)
  where
    one : (k : ℕ) → suc k ≡ 1 + k
    one k = omega arith

-- as does each shift that drops zeros
pub shift_gcd : (k a b g : ℕ) → a % 2 ≡ 1 → ((i : ℕ) → i < k → bit_at b i ≡ 0) → IsGcd a (b / 2 ^ k) g → IsGcd a b g
shift_gcd zero a b g odd none is = subst (λ z. IsGcd a z g) (omega arith) is
shift_gcd (suc k) a b g odd none is =
    let so = halves k b none in
    half_gcd a b g odd so.0 (shift_gcd k a (b / 2) g odd so.1 (subst (λ z. IsGcd a z g) (shift_more b k) is))

-- a shift that drops zeros is undone by a product
shift_back : (k n : ℕ) → ((i : ℕ) → i < k → bit_at n i ≡ 0) → n / 2 ^ k * 2 ^ k ≡ n
shift_back zero n none = omega arith
shift_back (suc k) n none =
    let so = halves k n none in
    let inner : n / 2 / 2 ^ k * 2 ^ k ≡ n / 2 = shift_back k (n / 2) so.1 in
    let power : 2 ^ suc k ≡ 2 * 2 ^ k = ap (λ m. 2 ^ m) (one k) ∙ pow-add 2 1 k in
    ap (λ z. z * 2 ^ suc k) (shift_more n k) ∙ ap (λ z. n / 2 / 2 ^ k * z) power ∙ omega (arith, inner, so.0)
  where
    one : (k : ℕ) → suc k ≡ 1 + k
    one k = omega arith

-- so the power divides the number
pub shift_divides : (k n : ℕ) → ((i : ℕ) → i < k → bit_at n i ≡ 0) → 2 ^ k ∣ n
shift_divides k n none = subst (λ z. 2 ^ k ∣ z) (shift_back k n none) (dvd-mul_left (2 ^ k) (n / 2 ^ k))

-- one step goes on with the lesser number and the difference
pub step_gcd : (a c g : ℕ) → IsGcd (min a c) (a - c + (c - a)) g → IsGcd a c g
step_gcd a c g is = go (dec_le a c)
  where
    go : Dec (a ≤ c) → IsGcd a c g
    go (yes l) =
        let so : IsGcd a (c - a) g = subst (λ x. IsGcd x (c - a) g) (min-eq_left l) (subst (λ y. IsGcd (min a c) y g) (omega (arith, l)) is) in
        IsGcd-swap c a g (IsGcd-from_sub c a g l (IsGcd-swap a (c - a) g so))
    go (no n) =
        let less : c ≤ a = below n in
        let so : IsGcd c (a - c) g = subst (λ x. IsGcd x (a - c) g) (min-eq_right less) (subst (λ y. IsGcd (min a c) y g) (omega (arith, less)) is) in
        IsGcd-from_sub a c g less (IsGcd-swap c (a - c) g so)
      where
        below : ¬ (a ≤ c) → c ≤ a
        below n = omega arith

-- the lesser of two odd numbers is odd
pub min_odd : (a c : ℕ) → a % 2 ≡ 1 → c % 2 ≡ 1 → min a c % 2 ≡ 1
min_odd a c i j = go (dec_le a c)
  where
    go : Dec (a ≤ c) → min a c % 2 ≡ 1
    go (yes l) = ap (λ x. x % 2) (min-eq_left l) ∙ i
    go (no n) = ap (λ x. x % 2) (min-eq_right (below n)) ∙ j
      where
        below : ¬ (a ≤ c) → c ≤ a
        below n = omega arith

-- a fraction of the same value has the products across of any other
pub across : (a b m n x y : ℕ) → m * b ≡ a * n → x * n ≡ m * y → 0 < n → x * b ≡ a * y
across a b m n x y e f k = sym (mul-div_cancel (x * b) k) ∙ ap (λ z. z / n) whole ∙ mul-div_cancel (a * y) k
  where
    whole : x * b * n ≡ a * y * n
    whole = omega (arith, ap (λ z. z * b) f, ap (λ z. z * y) e)

-- ---- the fraction with its sign
not_below : (n : ℕ) → lt_z (pos n) (pos 0) ≡ false
not_below n = go (ltb n 0) refl
  where
    go : (b : Bool) → ltb n 0 ≡ b → ltb n 0 ≡ false
    go true e = absurd (omega (arith, ltb-true n 0 e))
    go false e = e

-- a number with the sign of another has the size that it was made with
pub signed_size : (num : ℤ) (least : ℕ) (r : ℤ) → r ≡ (if lt_z num (pos 0) then neg_ℤ (pos least) else pos least) → unsigned_abs r ≡ least
signed_size (pos n) least r is = ap unsigned_abs (is ∙ ap (λ (b : Bool). if b then neg_ℤ (pos least) else pos least) (not_below n))
signed_size (negsuc n) least r is = ap unsigned_abs is ∙ abs_neg least

-- and makes the same fraction, where the sizes do
pub signed_same : (num : ℤ) (den least rest : ℕ) → least * den ≡ unsigned_abs num * rest → (r : ℤ) → r ≡ (if lt_z num (pos 0) then neg_ℤ (pos least) else pos least) → IsSameFraction num den r rest
signed_same (pos n) den least rest e r is =
    sym (ap (λ z. z *ℤ pos den) (is ∙ ap (λ (b : Bool). if b then neg_ℤ (pos least) else pos least) (not_below n)) ∙ ap pos e)
signed_same (negsuc n) den least rest e r is = sym (ap (λ z. z *ℤ pos den) is ∙ neg_mul least den ∙ ap (λ z. neg_ℤ (pos z)) e)

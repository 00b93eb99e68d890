-- A row over its greatest common divisor: its numbers share no divisor but 1, and times the divisor
-- they are the row.
use Rattle.std.proofs.Common.{◌≡◌, ◌<◌, ◌≤◌, ◌+◌, ◌*◌, ◌/◌, ◌%◌, ℕ, zero, suc, pos, refl, sym, ap, ◌∙◌, arith, subst, List, [], ◌∷◌, All, map, get_or, sum}
use Rattle.std.specs.Int.{IsGcd, ◌∣◌}
use Rattle.std.proofs.Math.Nat.{div-mul_cancel, mul-div_cancel, mul-dvd-mul_right, dvd_of_mul-dvd-mul_right, dvd-mul_left, dvd-mul_right, pos_of_dvd_of_pos}
use Rattle.std.proofs.lemmas.Nat.Gcd.{IsGcd-from_zero, IsGcd-from_mod, dvd_trans, dvd_antisymm}
use Rattle.std.proofs.lemmas.List.{get_or-map, length-map}
use Rattle.std.proofs.lemmas.List.Elements.{All-cons, All-head, All-tail, All-weaker, All-map}
use Rattle.std.proofs.lemmas.List.Sums.{sum_by-cons}
use Rattle.weight_scale.specs.Scaling as scaling
use Rattle.weight_scale.specs.Scaling.{IsReducedRow, multiplied_row}
use Rattle.net_build.specs.Plain.{row_divisor, reduced_row}
use Rattle.net_print.proofs.Divisors.{IsGreatestDivisor, divisor_none, divisor_is, divisor_positive}

-- ---- maps
module _ {X Y : Type 0} where
  -- what holds of each of a mapped list
  pub all_unmapped : (P : Y → Type 0) (f : X → Y) (xs : List X) → All P (map f xs) → All (λ x. P (f x)) xs
  all_unmapped P f xs all k d l = subst P (get_or-map f xs k d (f d) l) (all k (f d) (subst (λ n. k < n) (sym (length-map xs f)) l))

  pub map_same : (f g : X → Y) (xs : List X) → All (λ x. f x ≡ g x) xs → map f xs ≡ map g xs
  map_same f g [] all = refl
  map_same f g (x ∷ xs) all = λ i. All-head (λ y. f y ≡ g y) x xs all i ∷ map_same f g xs (All-tail (λ y. f y ≡ g y) x xs all) i

  pub map_twice : {Z : Type 0} (f : X → Y) (g : Y → Z) (xs : List X) → map g (map f xs) ≡ map (λ x. g (f x)) xs
  map_twice f g [] = refl
  map_twice f g (x ∷ xs) = ap (λ l. g (f x) ∷ l) (map_twice f g xs)

-- ---- a greatest common divisor exists, by Euclid
gcd_by : (fuel a b : ℕ) → b ≤ fuel → (g : ℕ) × IsGcd a b g
gcd_by fuel a zero le = (a, IsGcd-from_zero a zero refl)
gcd_by zero a (suc b) le = absurd (omega arith)
gcd_by (suc fuel) a (suc b) le =
    let rest = gcd_by fuel (suc b) (a % suc b) (omega arith) in
    (rest.0, IsGcd-from_mod a (suc b) rest.0 rest.1)

exists : (xs : List ℕ) → (g : ℕ) × IsGreatestDivisor xs g
exists [] = (0, divisor_none)
exists (x ∷ xs) =
    let rest = exists xs in
    let both = gcd_by rest.0 x rest.0 (omega arith) in
    (both.0, join x xs rest.0 both.0 rest.1 both.1)
  where
    join : (x : ℕ) (xs : List ℕ) (h g : ℕ) → IsGreatestDivisor xs h → IsGcd x h g → IsGreatestDivisor (x ∷ xs) g
    join x xs h g is both = record {
      each = All-cons (λ y. g ∣ y) x xs both.0 (All-weaker (λ y. h ∣ y) (λ y. g ∣ y) (λ y hy. dvd_trans g both.1 hy) xs is.each);
      most = λ d all. both.2 d (All-head (λ y. d ∣ y) x xs all) (is.most d (All-tail (λ y. d ∣ y) x xs all));
    }

-- and it is the printed one
pub row_divisor_is : (row : List ℕ) → IsGreatestDivisor row (row_divisor row)
row_divisor_is row = let all = exists row in subst (IsGreatestDivisor row) (divisor_is row all.0 all.1) all.1

-- ---- the reduced row
-- its numbers share no divisor but 1
abbrev pub SharesNone : List ℕ → Type 0
SharesNone row = (d : ℕ) → All (λ x. d ∣ x) row → d ∣ 1

-- a divisor of all, times the row's divisor, divides the row
pub reduced_shares_none : (row : List ℕ) → 0 < sum row → SharesNone (reduced_row row)
reduced_shares_none row positive d all = dvd_of_mul-dvd-mul_right {k = g} d (divisor_positive row positive) (subst (λ z. d * g ∣ z) (once g) (is.most (d * g) each))
  where
    g : ℕ
    g = row_divisor row

    is : IsGreatestDivisor row (row_divisor row)
    is = row_divisor_is row

    parts : All (λ x. d ∣ x / row_divisor row) row
    parts = all_unmapped (λ y. d ∣ y) (λ x. x / row_divisor row) row all

    each : All (λ x. d * row_divisor row ∣ x) row
    each k e l = subst (λ z. d * row_divisor row ∣ z) (div-mul_cancel (row_divisor row) (is.each k e l)) (mul-dvd-mul_right d (parts k e l) (row_divisor row))

    once : (n : ℕ) → n ≡ 1 * n
    once n = omega arith

-- such numbers times p have the divisor p
raised_divisor : (row : List ℕ) (p : ℕ) → 0 < p → SharesNone row → scaling.IsGreatestDivisor (map (λ x. x * p) row) p
raised_divisor row p positive none = record { divides = divides; greatest = greatest }
  where
    divides : All (λ y. p ∣ y) (map (λ x. x * p) row)
    divides = All-map (λ y. p ∣ y) (λ x. x * p) row (λ k d l. dvd-mul_left p (get_or row k d))

    once : (n : ℕ) → 1 * n ≡ n
    once n = omega arith

    by_all : (h : ℕ) → IsGreatestDivisor (map (λ x. x * p) row) h → h ∣ p
    by_all h is =
        let p_in : p ∣ h = is.most p divides in
        let cut : h / p * p ≡ h = div-mul_cancel p p_in in
        let each = all_unmapped (λ y. h ∣ y) (λ x. x * p) row is.each in
        let in_one : h / p ∣ 1 = none (h / p) (λ k d l. dvd_of_mul-dvd-mul_right {k = p} (h / p) positive (subst (λ z. z ∣ get_or row k d * p) (sym cut) (each k d l))) in
        subst (λ z. z ∣ p) cut (subst (λ z. h / p * p ∣ z) (once p) (mul-dvd-mul_right (h / p) in_one p))

    greatest : (d : ℕ) → All (λ x. d ∣ x) (map (λ x. x * p) row) → d ∣ p
    greatest d all = let most = exists (map (λ x. x * p) row) in dvd_trans d (most.1.most d all) (by_all most.0 most.1)

-- so that reducing gives them back
pub raised_reduced : (row : List ℕ) (p : ℕ) → 0 < p → SharesNone row → IsReducedRow (map (λ x. x * p) row) row
raised_reduced row p positive none = record {
  divisor = p;
  greatest = raised_divisor row p positive none;
  divided = sym (map_twice (λ x. x * p) (λ x. x / p) row ∙ back row);
}
  where
    back : (xs : List ℕ) → map (λ x. x * p / p) xs ≡ xs
    back [] = refl
    back (x ∷ xs) = λ i. mul-div_cancel x positive i ∷ back xs i

-- a row has one reduced row
pub reduced_same : (row a b : List ℕ) → IsReducedRow row a → IsReducedRow row b → a ≡ b
reduced_same row a b p q = p.divided ∙ ap (λ g. map (λ x. x / g) row) (dvd_antisymm (q.greatest.greatest p.divisor p.greatest.divides) (p.greatest.greatest q.divisor q.greatest.divides)) ∙ sym q.divided

-- ---- what it adds up to
sum_divided : (g : ℕ) (xs : List ℕ) → All (λ x. g ∣ x) xs → sum (map (λ x. x / g) xs) * g ≡ sum xs
sum_divided g [] all = none g
  where
    none : (n : ℕ) → 0 * n ≡ 0
    none n = omega arith
sum_divided g (x ∷ xs) all =
    ap (λ n. n * g) (sum_by-cons (λ n. n) (x / g) (map (λ y. y / g) xs))
    ∙ spread (x / g) (sum (map (λ y. y / g) xs)) g
    ∙ (λ i. div-mul_cancel g (All-head (λ y. g ∣ y) x xs all) i + sum_divided g xs (All-tail (λ y. g ∣ y) x xs all) i)
    ∙ sym (sum_by-cons (λ n. n) x xs)
  where
    spread : (a b c : ℕ) → (a + b) * c ≡ a * c + b * c
    spread a b c = omega arith

pub reduced_sum : (row : List ℕ) → sum (reduced_row row) * row_divisor row ≡ sum row
reduced_sum row = sum_divided (row_divisor row) row (row_divisor_is row).each

pub reduced_sum_divides : (row : List ℕ) → sum (reduced_row row) ∣ sum row
reduced_sum_divides row = subst (λ n. sum (reduced_row row) ∣ n) (reduced_sum row) (dvd-mul_right (sum (reduced_row row)) (row_divisor row))

pub reduced_positive : (row : List ℕ) → 0 < sum row → 0 < sum (reduced_row row)
reduced_positive row positive = pos_of_dvd_of_pos (reduced_sum_divides row) positive

-- ---- scaled to the row's total, it is the row again
pub weights_back : (row : List ℕ) → 0 < sum row → multiplied_row (sum row) (reduced_row row) ≡ map pos row
weights_back row positive =
    map_twice (λ x. x / row_divisor row) (λ x. pos (x * (sum row / sum (reduced_row row)))) row
    ∙ map_same (λ x. pos (x / row_divisor row * (sum row / sum (reduced_row row)))) pos row
    (λ k d l. ap (λ n. pos (get_or row k d / row_divisor row * n)) share ∙ ap pos (div-mul_cancel (row_divisor row) ((row_divisor_is row).each k d l)))
  where
    turn : (s g : ℕ) → s * g ≡ g * s
    turn s g = omega arith

    by_product : (t s g : ℕ) → 0 < s → s * g ≡ t → t / s ≡ g
    by_product t s g h e = ap (λ n. n / s) (sym e ∙ turn s g) ∙ mul-div_cancel g h

    share : sum row / sum (reduced_row row) ≡ row_divisor row
    share = by_product (sum row) (sum (reduced_row row)) (row_divisor row) (reduced_positive row positive) (reduced_sum row)

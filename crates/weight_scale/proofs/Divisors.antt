-- Laws of divisors: of products, of lists, and that greatest and least ones exist.
use Rattle.std.proofs.Common.{mul-pos, ◌≡◌, ◌<◌, ◌≤◌, ◌+◌, ◌*◌, ◌/◌, ◌%◌, ℕ, zero, suc, refl, sym, ap, ◌∙◌, arith, subst, List, [], ◌∷◌, All, map, length, get_or}
use Rattle.std.specs.Int.{IsGcd, ◌∣◌}
use Rattle.std.proofs.Math.Nat.{one-dvd, div-mul_cancel, mul-div_cancel, mul-div_cancel', mul-dvd-mul, mul-dvd-mul_left, mul-dvd-mul_right, dvd_of_mul-dvd-mul_left, dvd_of_mul-dvd-mul_right, dvd-mul_left, dvd-mul_right, dvd-mul_right_of_dvd, dvd-add_iff_right, dvd-mod_iff, pos_of_dvd_of_pos, mul_comm, mul_assoc}
use Rattle.std.proofs.lemmas.Nat.Gcd.{IsGcd-from_zero, IsGcd-from_mod, same_from_IsGcd, dvd_refl, dvd_trans, dvd-zero, dvd_antisymm, le_of_dvd}
use Rattle.std.proofs.lemmas.List.{get_or-map, length-map}
use Rattle.std.proofs.lemmas.List.Elements.{All-nil, All-cons, All-head, All-tail, All-weaker, All-map}
use Rattle.whole_num.specs.Divisors.{IsLcm}
use Rattle.weight_scale.specs.Scaling.{IsGreatestDivisor}

-- ---- two numbers
-- the remainder's multiple, too, is divided
rest_divided : (a b t d : ℕ) → 0 < b → d ∣ t * a → d ∣ t * b → d ∣ t * (a % b)
rest_divided a b t d h da db =
    let e : b * (a / b) + a % b ≡ a = omega arith in
    let whole : (t * b) * (a / b) + t * (a % b) ≡ t * a = omega (arith, ap (λ z. t * z) e) in
    (dvd-add_iff_right d (dvd-mul_right_of_dvd d db (a / b))).1 (rw whole da)

-- one step of Euclid, the other way round
step_back : (a b g : ℕ) → 0 < b → IsGcd a b g → IsGcd b (a % b) g
step_back a b g h is = (is.1, (dvd-mod_iff g is.1).1 is.0, λ d db dr. is.2 d ((dvd-mod_iff d db).0 dr) db)

-- what divides t times both divides t times their greatest common divisor
divides_scaled : (fuel a b g t d : ℕ) → b ≤ fuel → IsGcd a b g → d ∣ t * a → d ∣ t * b → d ∣ t * g
divides_scaled fuel a zero g t d le is da db = rw (same_from_IsGcd a zero g a is (IsGcd-from_zero a zero refl)) da
divides_scaled zero a (suc b) g t d le is da db = absurd (omega arith)
divides_scaled (suc fuel) a (suc b) g t d le is da db =
    let less : a % suc b ≤ fuel = omega arith in
    divides_scaled fuel (suc b) (a % suc b) g t d less (step_back a (suc b) g (omega arith) is) db (rest_divided a (suc b) t d (omega arith) da db)

scaled : (a b g t d : ℕ) → IsGcd a b g → d ∣ t * a → d ∣ t * b → d ∣ t * g
scaled a b g t d is da db = divides_scaled b a b g t d (omega arith) is da db

quotient_positive : (b g : ℕ) → 0 < b → g ∣ b → 0 < b / g
quotient_positive b g h d = pos_of_dvd_of_pos (subst (λ z. b / g ∣ z) (div-mul_cancel g d) (dvd-mul_right (b / g) g)) h

-- a greatest common divisor by Euclid
gcd_by : (fuel a b : ℕ) → b ≤ fuel → (g : ℕ) × IsGcd a b g
gcd_by fuel a zero le = (a, IsGcd-from_zero a zero refl)
gcd_by zero a (suc b) le = absurd (omega arith)
gcd_by (suc fuel) a (suc b) le =
    let rest = gcd_by fuel (suc b) (a % suc b) (omega arith) in
    (rest.0, IsGcd-from_mod a (suc b) rest.0 rest.1)

gcd_exists : (a b : ℕ) → (g : ℕ) × IsGcd a b g
gcd_exists a b = gcd_by b a b (omega arith)

-- ---- a product of which one factor is taken first
-- the divisor of a and s, times the divisor of what is left of a and t
pub gcd_of_product : (a s t c h : ℕ) → 0 < a → IsGcd a s c → IsGcd (a / c) t h → IsGcd a (s * t) (c * h)
gcd_of_product a s t c h positive is more = (
  subst (λ z. c * h ∣ z) whole (mul-dvd-mul_left h c more.0),
  mul-dvd-mul c h is.1 more.1,
  λ d da dst.
      let in_scaled : d ∣ t * c = scaled a s c t d is (subst (λ z. d ∣ z) (mul_comm a t) (dvd-mul_right_of_dvd d da t)) (subst (λ z. d ∣ z) (mul_comm s t) dst) in
      scaled (a / c) t h c d more (subst (λ z. d ∣ z) (sym whole) da) (subst (λ z. d ∣ z) (mul_comm t c) in_scaled),
)
  where
    whole : c * (a / c) ≡ a
    whole = mul-div_cancel' c is.0

pub product_within : (a s t c h : ℕ) → 0 < a → IsGcd a s c → IsGcd (a / c) t h → (c * h ≤ a) × (0 < c) × (0 < h)
product_within a s t c h positive is more =
    let both = gcd_of_product a s t c h positive is more in
    let c_positive : 0 < c = pos_of_dvd_of_pos is.0 positive in
    (le_of_dvd positive both.0, c_positive, pos_of_dvd_of_pos more.0 (quotient_positive a c positive is.0))

regroup : (x c y z : ℕ) → (x * c) * (y * z) ≡ (x * y) * (z * c)
regroup x c y z = omega arith

-- the quotient of a product, common factors first
pub quotient_of_product : (s t d c : ℕ) → 0 < d → d ∣ s * t → IsGcd s d c → (0 < c) × (0 < d / c) × (s / c * (t / (d / c)) ≡ s * t / d)
quotient_of_product s t d c positive divides is = (c_positive, rest_positive, sym (ap (λ z. z / d) whole ∙ mul-div_cancel (s / c * (t / (d / c))) positive))
  where
    c_positive : 0 < c
    c_positive = pos_of_dvd_of_pos is.1 positive

    rest_positive : 0 < d / c
    rest_positive = quotient_positive d c positive is.1

    d_is : d / c * c ≡ d
    d_is = div-mul_cancel c is.1

    in_tens : d / c ∣ t
    in_tens = dvd_of_mul-dvd-mul_right {k = c} (d / c) c_positive (subst (λ z. z ∣ t * c) (sym d_is) (scaled s d c t d is (subst (λ z. d ∣ z) (mul_comm s t) divides) (dvd-mul_left d t)))

    whole : s * t ≡ (s / c * (t / (d / c))) * d
    whole = sym (ap (λ z. z * t) (div-mul_cancel c is.0)) ∙ sym (ap (λ z. (s / c * c) * z) (div-mul_cancel (d / c) in_tens)) ∙ regroup (s / c) c (t / (d / c)) (d / c) ∙ ap (λ z. (s / c * (t / (d / c))) * z) d_is

-- ---- lists
-- a list of numbers has a greatest common divisor
pub greatest_exists : (xs : List ℕ) → (g : ℕ) × IsGreatestDivisor xs g
greatest_exists [] = (0, record { divides = All-nil (λ x. 0 ∣ x); greatest = λ d _. dvd-zero d })
greatest_exists (x ∷ xs) =
    let rest = greatest_exists xs in
    let both = gcd_exists x rest.0 in
    (both.0, join x xs rest.0 both.0 rest.1 both.1)
  where
    join : (x : ℕ) (xs : List ℕ) (h g : ℕ) → IsGreatestDivisor xs h → IsGcd x h g → IsGreatestDivisor (x ∷ xs) g
    join x xs h g is both = record {
      divides = All-cons (λ y. g ∣ y) x xs both.0 (All-weaker (λ y. h ∣ y) (λ y. g ∣ y) (λ y hy. dvd_trans g both.1 hy) xs is.divides);
      greatest = λ d all. both.2 d (All-head (λ y. d ∣ y) x xs all) (is.greatest d (All-tail (λ y. d ∣ y) x xs all));
    }

-- there is only one
pub greatest_same : (xs : List ℕ) (g h : ℕ) → IsGreatestDivisor xs g → IsGreatestDivisor xs h → g ≡ h
greatest_same xs g h a b = dvd_antisymm (b.greatest g a.divides) (a.greatest h b.divides)

-- one more number at the front of a list, in the place of the number that has taken it in
pub greatest_step : (a x g h : ℕ) (xs : List ℕ) → IsGcd a x g → IsGreatestDivisor (g ∷ xs) h → IsGreatestDivisor (a ∷ x ∷ xs) h
greatest_step a x g h xs is all =
    let in_g : h ∣ g = All-head (λ y. h ∣ y) g xs all.divides in
    record {
      divides = All-cons (λ y. h ∣ y) a (x ∷ xs) (dvd_trans h in_g is.0) (All-cons (λ y. h ∣ y) x xs (dvd_trans h in_g is.1) (All-tail (λ y. h ∣ y) g xs all.divides));
      greatest = λ d each.
          let rest = All-tail (λ y. d ∣ y) a (x ∷ xs) each in
          all.greatest d (All-cons (λ y. d ∣ y) g xs (is.2 d (All-head (λ y. d ∣ y) a (x ∷ xs) each) (All-head (λ y. d ∣ y) x xs rest)) (All-tail (λ y. d ∣ y) x xs rest));
    }

pub greatest_one : (a : ℕ) → IsGreatestDivisor (a ∷ []) a
greatest_one a = record {
  divides = All-cons (λ y. a ∣ y) a [] (dvd_refl a) (All-nil (λ y. a ∣ y));
  greatest = λ d all. All-head (λ y. d ∣ y) a [] all;
}

-- 1 is the greatest where 1 is among the numbers
pub greatest_of_one : (a : ℕ) (xs : List ℕ) → a ≡ 1 → IsGreatestDivisor (a ∷ xs) 1
greatest_of_one a xs one = record {
  divides = λ k d l. one-dvd (get_or (a ∷ xs) k d);
  greatest = λ d all. subst (λ n. d ∣ n) one (All-head (λ y. d ∣ y) a xs all);
}

-- the numbers times p
pub greatest_scaled : (xs : List ℕ) (p g : ℕ) → 0 < p → IsGreatestDivisor xs g → IsGreatestDivisor (map (λ x. x * p) xs) (g * p)
greatest_scaled xs p g positive is =
    let all = greatest_exists (map (λ x. x * p) xs) in
    let p_in : p ∣ all.0 = all.1.greatest p (All-map (λ y. p ∣ y) (λ x. x * p) xs (λ k d l. dvd-mul_left p (get_or xs k d))) in
    let cut : all.0 / p * p ≡ all.0 = div-mul_cancel p p_in in
    let in_g : all.0 / p ∣ g = is.greatest (all.0 / p) (λ k d l. dvd_of_mul-dvd-mul_right {k = p} (all.0 / p) positive (subst (λ z. z ∣ get_or xs k d * p) (sym cut) (part xs p all.0 all.1.divides k d l))) in
    record {
      divides = All-map (λ y. g * p ∣ y) (λ x. x * p) xs (λ k d l. mul-dvd-mul_right g (is.divides k d l) p);
      greatest = λ d each. dvd_trans d (all.1.greatest d each) (subst (λ z. z ∣ g * p) cut (mul-dvd-mul_right (all.0 / p) in_g p));
    }
  where
    part : (xs : List ℕ) (p h : ℕ) → All (λ y. h ∣ y) (map (λ x. x * p) xs) → (k d : ℕ) → k < length xs → h ∣ get_or xs k d * p
    part xs p h all k d l = subst (λ z. h ∣ z) (get_or-map (λ x. x * p) xs k d (d * p) l) (all k (d * p) (subst (λ n. k < n) (sym (length-map xs (λ x. x * p))) l))

-- ---- the least common multiple of two
cross : (a b g : ℕ) → g ∣ a → g ∣ b → a / g * b ≡ a * (b / g)
cross a b g da db = ap (λ z. a / g * z) (sym (mul-div_cancel' g db)) ∙ turn (a / g) g (b / g) ∙ ap (λ z. z * (b / g)) (mul-div_cancel' g da)
  where
    turn : (x g y : ℕ) → x * (g * y) ≡ (g * x) * y
    turn x g y = omega arith

pub lcm_exists : (a b : ℕ) → 0 < a → 0 < b → (l : ℕ) × IsLcm a b l × (0 < l)
lcm_exists a b a_positive b_positive =
    let both = gcd_exists a b in
    let g = both.0 in
    let is = both.1 in
    let g_positive : 0 < g = pos_of_dvd_of_pos is.0 a_positive in
    let whole : g * (a / g * b) ≡ a * b = rw (← mul_assoc, mul-div_cancel' g is.0) refl in (
      a / g * b,
      (
        rw (cross a b g is.0 is.1) (dvd-mul_right a (b / g)),
        dvd-mul_left b (a / g),
        λ m am bm.
            let both_in : a * b ∣ m * g = scaled a b g m (a * b) is (subst (λ z. a * b ∣ z) (mul_comm a m) (mul-dvd-mul_left b a bm)) (mul-dvd-mul_right a am b) in
            dvd_of_mul-dvd-mul_left {k = g} (a / g * b) g_positive (subst (λ z. z ∣ g * m) (sym whole) (subst (λ z. a * b ∣ z) (mul_comm m g) both_in)),
      ),
      mul-pos (quotient_positive a g a_positive is.0) b_positive,
    )

-- A reduced row that is multiplied has the multiplier for its greatest divisor, so that reduced
-- again it is what it was.
use Rattle.std.proofs.Common.{◌≡◌, ◌<◌, ◌≤◌, ◌+◌, ◌*◌, ◌/◌, ◌%◌, ◌==◌, ◌⊎◌, inl, inr, ℕ, zero, suc, Bool, true, false, List, [], ◌∷◌, All, get_or, map, sum, refl, sym, ap, subst, ◌∙◌, arith}
use Rattle.std.specs.Prelude.{if◌then◌else◌}
use Rattle.std.specs.Int.{◌∣◌}
use Rattle.std.specs.List.{list_all}
use Rattle.std.proofs.Math.Nat.{div-mul_cancel, mul-div_cancel, mul-dvd-mul_right, dvd_of_mul-dvd-mul_right, dvd-mul_left, dvd-mul_right_of_dvd, dvd-add_iff_right, dvd-mod_iff, zero-mul, zero-div, mul-le-mul_right, mul_comm}
use Rattle.std.proofs.lemmas.Bool.{eq-eqb, eqb-true, false≢true}
use Rattle.std.proofs.lemmas.Nat.Gcd.{dvd_refl, dvd_trans, dvd-zero, le_of_dvd, dvd_of_mod-eq-zero, mod-eq-zero_of_dvd}
use Rattle.std.proofs.lemmas.List.{get_or-map, length-map}
use Rattle.std.proofs.lemmas.List.Elements.{All-nil, All-cons, All-head, All-tail, All-weaker, All-map}
use Rattle.std.proofs.lemmas.List.Sums.{sum_by-cons, AllPass-from_list_all, list_all-from_AllPass}
use Rattle.weight_scale.specs.Scaling.{IsReducedRow}
use Rattle.net_build.specs.Plain.{greatest_divisor, row_divisor, reduced_row}

-- ---- what divides multiples by one number
-- the remainder's multiple, too, is divided
rest_divided : (a b k d : ℕ) → 0 < b → d ∣ a * k → d ∣ b * k → d ∣ (a % b) * k
rest_divided a b k d some da db =
    let e : b * (a / b) + a % b ≡ a = omega arith in
    let whole : (b * k) * (a / b) + (a % b) * k ≡ a * k = omega (arith, ap (λ z. z * k) e) in
    (dvd-add_iff_right d (dvd-mul_right_of_dvd d db (a / b))).1 (rw whole da)

-- what divides two multiples divides that of a common divisor, which Euclid's steps find
both_divided : (fuel a b k d : ℕ) → b ≤ fuel → d ∣ a * k → d ∣ b * k → (h : ℕ) × (h ∣ a) × (h ∣ b) × (d ∣ h * k)
both_divided fuel a zero k d le da db = (a, dvd_refl a, dvd-zero a, da)
both_divided zero a (suc b) k d le da db = absurd (omega arith)
both_divided (suc fuel) a (suc b) k d le da db =
    let less : a % suc b ≤ fuel = omega arith in
    let rest = both_divided fuel (suc b) (a % suc b) k d less db (rest_divided a (suc b) k d (omega arith) da db) in
    (rest.0, (dvd-mod_iff rest.0 rest.1).0 rest.2, rest.1, rest.3)

-- and so of a list
all_divided : (xs : List ℕ) (k d : ℕ) → All (λ x. d ∣ x * k) xs → (h : ℕ) × All (λ x. h ∣ x) xs × (d ∣ h * k)
all_divided [] k d all = (0, All-nil (λ x. 0 ∣ x), subst (λ z. d ∣ z) (sym (zero-mul k)) (dvd-zero d))
all_divided (x ∷ xs) k d all =
    let rest = all_divided xs k d (All-tail (λ y. d ∣ y * k) x xs all) in
    let both = both_divided rest.0 x rest.0 k d (omega arith) (All-head (λ y. d ∣ y * k) x xs all) rest.2 in
    (both.0, All-cons (λ y. both.0 ∣ y) x xs both.1 (All-weaker (λ y. rest.0 ∣ y) (λ y. both.0 ∣ y) (λ y r. dvd_trans both.0 both.2 r) xs rest.1), both.3)

-- ---- lists
unmapped : (P : ℕ → Type 0) (f : ℕ → ℕ) (xs : List ℕ) → All P (map f xs) → All (λ x. P (f x)) xs
unmapped P f xs all i d l = subst P (get_or-map f xs i d (f d) l) (all i (f d) (subst (λ n. i < n) (sym (length-map xs f)) l))

-- quotients of noughts add up to nought
sum_of_noughts : (g : ℕ) (xs : List ℕ) → All (λ x. x ≡ 0) xs → sum (map (λ x. x / g) xs) ≡ 0
sum_of_noughts g [] all = refl
sum_of_noughts g (x ∷ xs) all =
    let first : x / g ≡ 0 = ap (λ z. z / g) (All-head (λ y. y ≡ 0) x xs all) ∙ zero-div g in
    let rest = sum_of_noughts g xs (All-tail (λ y. y ≡ 0) x xs all) in
    omega (arith, first, rest, sum_by-cons (λ n. n) (x / g) (map (λ y. y / g) xs))

sum_of_multiples : (k : ℕ) (xs : List ℕ) → sum (map (λ x. x * k) xs) ≡ sum xs * k
sum_of_multiples k [] = sym (zero-mul k)
sum_of_multiples k (x ∷ xs) =
    let whole = sum_by-cons (λ n. n) x xs in
    let more = ap (λ n. n * k) whole in
    let rest = sum_of_multiples k xs in
    omega (arith, more, rest, sum_by-cons (λ n. n) (x * k) (map (λ y. y * k) xs))

over_again : (xs : List ℕ) (k : ℕ) → 0 < k → map (λ x. x / k) (map (λ x. x * k) xs) ≡ xs
over_again [] k some = refl
over_again (x ∷ xs) k some = λ j. mul-div_cancel x some j ∷ over_again xs k some j

zero_or_more : (k : ℕ) → (k ≡ 0) ⊎ (0 < k)
zero_or_more zero = inl refl
zero_or_more (suc k) = inr (omega arith)

none_divides : (g x : ℕ) → g ≡ 0 → g ∣ x → x ≡ 0
none_divides g x e d = sym (sym (mod-eq-zero_of_dvd g d) ∙ rest_by_none g x e) where
  rest_by_none : (g x : ℕ) → g ≡ 0 → x % g ≡ x
  rest_by_none g x e = omega (arith, e)

-- ---- the multiplier
-- A reduced row has no common divisor but 1: what divides each of its numbers, multiplied, divides
-- the multiplier.
pub multiplier_divided : (row reduced : List ℕ) (k m : ℕ) → IsReducedRow row reduced → 0 < sum reduced → All (λ x. m ∣ x * k) reduced → m ∣ k
multiplier_divided row reduced k m is some all = by_divisor (zero_or_more is.divisor) where
  by_divisor : (is.divisor ≡ 0) ⊎ (0 < is.divisor) → m ∣ k
  by_divisor (inl e) =
      let none = sum_of_noughts is.divisor row (All-weaker (λ x. is.divisor ∣ x) (λ x. x ≡ 0) (λ x d. none_divides is.divisor x e d) row is.greatest.divides) in
      absurd (omega (arith, some, none, ap sum is.divided))
  by_divisor (inr more) =
      let each = unmapped (λ y. m ∣ y * k) (λ x. x / is.divisor) row (subst (All (λ y. m ∣ y * k)) is.divided all) in
      let part = all_divided row k (m * is.divisor) (λ i d l. subst (λ z. m * is.divisor ∣ z) (whole (get_or row i d) is.divisor k (is.greatest.divides i d l)) (mul-dvd-mul_right m (each i d l) is.divisor)) in
      let within : part.0 ∣ is.divisor = is.greatest.greatest part.0 part.1 in
      dvd_of_mul-dvd-mul_right {k = is.divisor} m more (subst (λ z. m * is.divisor ∣ z) (mul_comm is.divisor k) (dvd_trans (m * is.divisor) part.2 (mul-dvd-mul_right part.0 within k)))
    where
      whole : (x g k : ℕ) → g ∣ x → (x / g * k) * g ≡ x * k
      whole x g k d = swap (x / g) k g ∙ ap (λ z. z * k) (div-mul_cancel g d) where
        swap : (a b c : ℕ) → (a * b) * c ≡ (a * c) * b
        swap a b c = omega arith

divisor_step : (n : ℕ) (row : List ℕ) → greatest_divisor (suc n) row ≡ (if list_all (λ x. x % suc n == 0) row then suc n else greatest_divisor n row)
unfolding greatest_divisor
divisor_step n row = refl

-- the greatest divisor is the one that all others divide
divisor_is : (n k : ℕ) (row : List ℕ) → 0 < k → k ≤ n → All (λ x. k ∣ x) row → ((m : ℕ) → All (λ x. m ∣ x) row → m ∣ k) → greatest_divisor n row ≡ k
divisor_is zero k row some le all most = absurd (omega arith)
divisor_is (suc n) k row some le all most = divisor_step n row ∙ by_test (list_all (λ x. x % suc n == 0) row) refl (λ less. divisor_is n k row some less all most) where
  by_test : (b : Bool) → list_all (λ x. x % suc n == 0) row ≡ b → (k ≤ n → greatest_divisor n row ≡ k) → (if b then suc n else greatest_divisor n row) ≡ k
  by_test true e below =
      let tests = AllPass-from_list_all (λ x. x % suc n == 0) row e in
      let near = le_of_dvd some (most (suc n) (λ i d l. dvd_of_mod-eq-zero (suc n) (eqb-true (get_or row i d % suc n) 0 (tests i d l)))) in
      omega arith
  by_test false e below = below (fewer (same_or_less k (suc n) le)) where
    same_or_less : (a b : ℕ) → a ≤ b → (a ≡ b) ⊎ (a < b)
    same_or_less a b h = grind arith

    fewer : (k ≡ suc n) ⊎ (k < suc n) → k ≤ n
    fewer (inl same) = absurd (false≢true (sym e ∙ list_all-from_AllPass (λ x. x % suc n == 0) row (λ i d l. eq-eqb (get_or row i d % suc n) 0 (mod-eq-zero_of_dvd (suc n) (subst (λ z. z ∣ get_or row i d) same (all i d l))))))
    fewer (inr less) = omega arith

-- reduced again, a multiplied reduced row is what it was
pub reduced_again : (row reduced : List ℕ) (k : ℕ) → IsReducedRow row reduced → 0 < sum reduced → 0 < k → reduced_row (map (λ x. x * k) reduced) ≡ reduced
reduced_again row reduced k is some more = ap (λ g. map (λ x. x / g) (map (λ x. x * k) reduced)) divisor ∙ over_again reduced k more where
  size : k ≤ sum (map (λ x. x * k) reduced)
  size = omega (arith, sum_of_multiples k reduced, mul-le-mul_right {m = 1} {n = sum reduced} k some)

  divisor : row_divisor (map (λ x. x * k) reduced) ≡ k
  divisor = divisor_is (sum (map (λ x. x * k) reduced)) k (map (λ x. x * k) reduced) more size
      (All-map (λ y. k ∣ y) (λ x. x * k) reduced (λ i d l. dvd-mul_left k (get_or reduced i d)))
      (λ m all. multiplier_divided row reduced k m is some (unmapped (λ y. m ∣ y) (λ x. x * k) reduced all))

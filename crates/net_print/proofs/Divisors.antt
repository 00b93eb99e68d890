-- The greatest common divisor of a row.
use Rattle.std.proofs.Common.{◌≡◌, ◌∙◌, ℕ, zero, suc, ◌+◌, ◌%◌, ◌<◌, ◌≤◌, Bool, true, false, List, [], ◌∷◌, ◌++◌, sum, All, ⊎_elim, arith, sym, ap, subst, refl, eqb, cond, get_or}
use Rattle.std.specs.Int.{◌∣◌, IsGcd}
use Rattle.std.specs.List.{list_all}
use Rattle.std.proofs.lemmas.Bool.{cases_lt, eqb-true, eq-eqb, false≢true}
use Rattle.std.proofs.lemmas.List.Elements.{All-nil, All-cons, All-head, All-tail, All-push}
use Rattle.std.proofs.lemmas.List.Sums.{sum_by-cons, get_or-le-sum_by, AllPass-from_list_all, list_all-from_AllPass}
use Rattle.std.proofs.lemmas.Nat.Gcd.{dvd-zero, dvd_trans, le_of_dvd, dvd_of_mod-eq-zero, mod-eq-zero_of_dvd}
use Rattle.std.proofs.Math.Nat.{dvd-add, one-dvd, pos_of_dvd_of_pos}
use Rattle.net_build.specs.Plain.{greatest_divisor, row_divisor}

-- it divides each, and whatever divides each divides it
pub record IsGreatestDivisor (row : List ℕ) (g : ℕ) : Type 0 where
  pub each : All (λ x. g ∣ x) row
  pub most : (n : ℕ) → All (λ x. n ∣ x) row → n ∣ g

pub divisor_none : IsGreatestDivisor [] 0
divisor_none = record { each = All-nil (λ x. 0 ∣ x); most = λ n _. dvd-zero n }

in_front : (row : List ℕ) (x n : ℕ) → All (λ y. n ∣ y) (row ++ x ∷ []) → All (λ y. n ∣ y) row
in_front [] x n all = All-nil (λ y. n ∣ y)
in_front (y ∷ row) x n all = All-cons (λ z. n ∣ z) y row (All-head (λ z. n ∣ z) y (row ++ x ∷ []) all) (in_front row x n (All-tail (λ z. n ∣ z) y (row ++ x ∷ []) all))

behind : (row : List ℕ) (x n : ℕ) → All (λ y. n ∣ y) (row ++ x ∷ []) → n ∣ x
behind [] x n all = All-head (λ y. n ∣ y) x [] all
behind (y ∷ row) x n all = behind row x n (All-tail (λ z. n ∣ z) y (row ++ x ∷ []) all)

pub divisor_push : (row : List ℕ) (x g h : ℕ) → IsGreatestDivisor row g → IsGcd g x h → IsGreatestDivisor (row ++ x ∷ []) h
divisor_push row x g h is by = record {
  each = All-push (λ y. h ∣ y) row x (λ k d l. dvd_trans h by.0 (is.each k d l)) by.1;
  most = λ n all. by.2 n (is.most n (in_front row x n all)) (behind row x n all);
}

-- a divisor of each divides the sum
pub divides_sum : (row : List ℕ) (n : ℕ) → All (λ x. n ∣ x) row → n ∣ sum row
divides_sum [] n all = dvd-zero n
divides_sum (x ∷ row) n all =
    subst (λ s. n ∣ s) (sym (sum_by-cons (λ y. y) x row))
    (dvd-add n (All-head (λ y. n ∣ y) x row all) (divides_sum row n (All-tail (λ y. n ∣ y) x row all)))

-- what the test of a divisor says
tested : (d : ℕ) (row : List ℕ) → list_all (λ x. eqb (x % d) 0) row ≡ true → All (λ x. d ∣ x) row
tested d row e = λ k x l. dvd_of_mod-eq-zero d (eqb-true _ 0 (AllPass-from_list_all (λ x. eqb (x % d) 0) row e k x l))

passes : (d : ℕ) (row : List ℕ) → All (λ x. d ∣ x) row → list_all (λ x. eqb (x % d) 0) row ≡ true
passes d row all = list_all-from_AllPass (λ x. eqb (x % d) 0) row (λ k x l. eq-eqb _ 0 (mod-eq-zero_of_dvd d (all k x l)))

-- the greatest up to n divides each, and is none but nought where n is nought
pub record IsFound (n : ℕ) (row : List ℕ) (d : ℕ) : Type 0 where
  pub positive : 0 < n → 0 < d
  pub divides : 0 < n → All (λ x. d ∣ x) row
  pub most : (m : ℕ) → m ≤ n → All (λ x. m ∣ x) row → m ≤ d

no_one : (n : ℕ) (row : List ℕ) → list_all (λ x. eqb (x % suc n) 0) row ≡ false → n ≡ 0 → ⊥
no_one n row e h = false≢true (sym e ∙ ap (λ k. list_all (λ x. eqb (x % suc k) 0) row) h ∙ passes 1 row (λ k x l. one-dvd _))

by_test : (n : ℕ) (row : List ℕ) → IsFound n row (greatest_divisor n row) → (b : Bool) → list_all (λ x. eqb (x % suc n) 0) row ≡ b → IsFound (suc n) row (cond b (suc n) (greatest_divisor n row))
by_test n row is true e = record { positive = λ _. omega arith; divides = λ _. tested (suc n) row e; most = λ m h _. h }
by_test n row is false e = record {
  positive = λ _. is.positive some;
  divides = λ _. is.divides some;
  most = λ m h all. is.most m (smaller m h all) all;
}
  where
    some : 0 < n
    some = ⊎_elim (λ h. h) (λ h. absurd (no_one n row e (omega (arith, h)))) (cases_lt 0 n)

    smaller : (m : ℕ) → m ≤ suc n → All (λ x. m ∣ x) row → m ≤ n
    smaller m h all =
        let other : m ≡ suc n → ⊥ = λ same. false≢true (sym e ∙ passes (suc n) row (subst (λ k. All (λ x. k ∣ x) row) same all)) in
        ⊎_elim (λ (l : n < m). absurd (other (omega (arith, h, l)))) (λ (l : m ≤ n). l) (cases_lt n m)

pub found : (n : ℕ) (row : List ℕ) → IsFound n row (greatest_divisor n row)
unfolding greatest_divisor
found zero row = record { positive = λ h. absurd (omega arith); divides = λ h. absurd (omega arith); most = λ m h _. h }
found (suc n) row = by_test n row (found n row) (list_all (λ x. eqb (x % suc n) 0) row) refl

antisymm : (a b : ℕ) → a ≤ b → b ≤ a → a ≡ b
antisymm a b h k = omega arith

all_nought : (row : List ℕ) (n : ℕ) → sum row ≡ 0 → All (λ x. n ∣ x) row
all_nought row n e k d l =
    let x_le = get_or-le-sum_by (λ x. x) row k d l in
    subst (λ x. n ∣ x) (nought (get_or row k d) (sum row) x_le e) (dvd-zero n)
  where
    nought : (x s : ℕ) → x ≤ s → s ≡ 0 → 0 ≡ x
    nought x s h e = omega arith

nought_from : (g : ℕ) → (g + 1) ∣ g → g ≡ 0
nought_from g h = ⊎_elim (λ (l : 0 < g). absurd (too_great g (le_of_dvd l h))) (λ (l : g ≤ 0). omega arith) (cases_lt 0 g) where
  too_great : (g : ℕ) → g + 1 ≤ g → ⊥
  too_great g h = omega arith

at_none : (n : ℕ) (row : List ℕ) → n ≡ 0 → greatest_divisor n row ≡ 0
unfolding greatest_divisor
at_none n row e = ap (λ k. greatest_divisor k row) e

pub divisor_is : (row : List ℕ) (g : ℕ) → IsGreatestDivisor row g → g ≡ row_divisor row
divisor_is row g is = ⊎_elim positive (λ (l : sum row ≤ 0). none (omega arith)) (cases_lt 0 (sum row)) where
  positive : 0 < sum row → g ≡ row_divisor row
  positive l =
      let at = found (sum row) row in
      let below = divides_sum row g is.each in
      antisymm g (row_divisor row) (at.most g (le_of_dvd l below) is.each) (le_of_dvd (pos_of_dvd_of_pos below l) (is.most (row_divisor row) (at.divides l)))

  none : sum row ≡ 0 → g ≡ row_divisor row
  none e = nought_from g (is.most (g + 1) (all_nought row (g + 1) e)) ∙ sym (at_none (sum row) row e)

-- a row that adds up to more than nought has a divisor above nought
pub divisor_positive : (row : List ℕ) → 0 < sum row → 0 < row_divisor row
divisor_positive row l = (found (sum row) row).positive l

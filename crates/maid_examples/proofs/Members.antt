-- Members of lists, and a test of all numbers.
use Rattle.std.proofs.Common.{◌≡◌, ◌⊎◌, ℕ, zero, suc, ◌+◌, ◌<◌, Bool, true, List, [], ◌∷◌, length, get_or, sym, subst, inl, inr, arith, Contains}
use Rattle.std.specs.List.{list_all, range_with_len}
use Rattle.std.proofs.lemmas.List.FromFn.{get_or-range_with_len, length-range_with_len}
use Rattle.std.proofs.lemmas.List.Sums.{AllPass-from_list_all}

-- x is in the list, by cases
abbrev pub Among : ℕ → List ℕ → Type 0
Among x [] = ⊥
Among x (y ∷ ys) = (x ≡ y) ⊎ Among x ys

-- by induction over the list
pub among_of : (xs : List ℕ) (x : ℕ) → Contains xs x → Among x xs
among_of [] x (k, l, e) = absurd (omega arith)
among_of (y ∷ ys) x (zero, l, e) = inl (sym e)
among_of (y ∷ ys) x (suc k, l, e) = inr (among_of ys x (k, omega arith, e))

-- a test of all numbers below n, at one of them
pub at_number : (test : ℕ → Bool) (n : ℕ) → list_all test (range_with_len 0 n) ≡ true → (v : ℕ) → v < n → test v ≡ true
at_number test n e v l = subst (λ x. test x ≡ true) here (AllPass-from_list_all test (range_with_len 0 n) e v 0 within)
  where
    here : get_or (range_with_len 0 n) v 0 ≡ v
    here = let h : get_or (range_with_len 0 n) v 0 ≡ 0 + v = get_or-range_with_len 0 n v 0 l in omega arith

    within : v < length (range_with_len 0 n)
    within = let h : length (range_with_len 0 n) ≡ n = length-range_with_len 0 n in omega arith

-- Lists of parents that lose some.
use Rattle.std.proofs.Common.{◌≡◌, ℕ, zero, suc, ◌<◌, ◌≤◌, Bool, true, false, not, cond, filter, List, [], ◌∷◌, length, get_or, refl, sym, subst, arith}
use Rattle.std.specs.Prelude.{Contains}
use Rattle.std.proofs.lemmas.List.Filters.{length-filter_both}

pub filter_le : (p : ℕ → Bool) (xs : List ℕ) → length (filter p xs) ≤ length xs
filter_le p xs = let e = length-filter_both p (λ x. not (p x)) (λ x. refl) xs in omega arith

-- a member that does not pass is lost
pub filter_less : (p : ℕ → Bool) (xs : List ℕ) (i : ℕ) → i < length xs → p (get_or xs i 0) ≡ false → length (filter p xs) < length xs
filter_less p [] i l e = absurd (omega arith)
filter_less p (x ∷ xs) zero l e = let h = filter_le p xs in subst (λ b. length (cond b (x ∷ filter p xs) (filter p xs)) < length (x ∷ xs)) (sym e) (omega arith)
filter_less p (x ∷ xs) (suc i) l e = at (p x) (filter_less p xs i (omega arith) e)
  where
    at : (b : Bool) → length (filter p xs) < length xs → length (cond b (x ∷ filter p xs) (filter p xs)) < length (x ∷ xs)
    at true h = omega arith
    at false h = omega arith

-- what is left was there
pub contains_filter : (p : ℕ → Bool) (xs : List ℕ) (x : ℕ) → Contains (filter p xs) x → Contains xs x
contains_filter p [] x h = h
contains_filter p (y ∷ ys) x h = at (p y) (λ m. contains_filter p ys x m) h
  where
    at : (b : Bool) → (Contains (filter p ys) x → Contains ys x) → Contains (cond b (y ∷ filter p ys) (filter p ys)) x → Contains (y ∷ ys) x
    at false r m = let k = r m in let l = k.1 in (suc k.0, omega arith, k.2)
    at true r (zero, l, e) = (zero, omega arith, e)
    at true r (suc i, l, e) = let k = r (i, omega arith, e) in let m = k.1 in (suc k.0, omega arith, k.2)

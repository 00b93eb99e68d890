-- An agent that is none of those before it makes one agent more.
use Rattle.std.proofs.Common.{◌≡◌, ◌∙◌, ℕ, zero, suc, ◌+◌, ◌<◌, Bool, true, false, not, cond, List, [], ◌∷◌, ◌++◌, length, filter, Contains, refl, sym, ap, subst, arith}
use Rattle.std.specs.Str.{bytes_eq}
use Rattle.std.proofs.lemmas.List.{length-append}
use Rattle.std.proofs.lemmas.List.Elements.{filter-append}
use Rattle.net_build.specs.Blocks as look
use Rattle.net_print.proofs.Agents.{bytes_differ}
use Rattle.net_print.proofs.Given.{nothing}

in_rest : {A : Type 0} (x : A) (xs : List A) (y : A) → Contains xs y → Contains (x ∷ xs) y
in_rest x xs y (k, h, e) = (suc k, omega arith, e)

-- what passes the test is kept
in_kept : {A : Type 0} (test : A → Bool) (xs : List A) (y : A) → Contains xs y → test y ≡ true → Contains (filter test xs) y
in_kept test [] y has is = absurd (nothing has)
in_kept test (x ∷ xs) y (zero, h, e) is = subst (λ b. Contains (cond b (x ∷ filter test xs) (filter test xs)) y) (sym (ap test e ∙ is)) (0, omega arith, e)
in_kept test (x ∷ xs) y (suc k, h, e) is = by_test (test x) (in_kept test xs y (k, omega arith, e) is) where
  by_test : (b : Bool) → Contains (filter test xs) y → Contains (cond b (x ∷ filter test xs) (filter test xs)) y
  by_test true has = in_rest x (filter test xs) y has
  by_test false has = has

-- a value that wasn't seen before is seen behind those that were
later_sight : (xs : List (List ℕ)) (y : List ℕ) (ys : List (List ℕ)) → (Contains (look.first_sights xs) y → ⊥) → (rest : List (List ℕ)) × (look.first_sights (xs ++ y ∷ ys) ≡ look.first_sights xs ++ rest) × Contains rest y
later_sight [] y ys new = (look.first_sights (y ∷ ys), refl, (0, omega arith, refl))
later_sight (x ∷ xs) y ys new =
    let test = λ (z : List ℕ). not (bytes_eq x z) in
    let apart : test y ≡ true = ap not (bytes_differ x y (λ e. new (0, omega arith, e))) in
    let later = later_sight xs y ys (λ has. new (in_rest x (filter test (look.first_sights xs)) y (in_kept test (look.first_sights xs) y has apart))) in
    (filter test later.0, ap (λ zs. x ∷ filter test zs) later.1 ∙ ap (λ zs. x ∷ zs) (filter-append test (look.first_sights xs) later.0), in_kept test later.0 y later.2 apart)

pub one_more : (xs : List (List ℕ)) (y : List ℕ) (ys : List (List ℕ)) → (Contains (look.first_sights xs) y → ⊥) → length (look.first_sights xs) < length (look.first_sights (xs ++ y ∷ ys))
one_more xs y ys new =
    let later = later_sight xs y ys new in
    more (length (look.first_sights xs)) (length (look.first_sights (xs ++ y ∷ ys))) (length later.0) later.2.0 (ap length later.1 ∙ length-append (look.first_sights xs) later.0) later.2.1
  where
    more : (n m r k : ℕ) → m ≡ n + r → k < r → n < m
    more n m r k e h = omega arith

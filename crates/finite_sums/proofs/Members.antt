-- Members of lists, by place and by cases.
use Rattle.std.proofs.Common.{◌≡◌, ◌∙◌, ◌⊎◌, ◌↔◌, ◌==◌, ◌||◌, ℕ, zero, suc, ◌+◌, ◌<◌, ◌≤◌, Bool, true, false, cond, filter, eqb, eqb-true, eq-eqb, List, [], ◌∷◌, refl, sym, ap, subst, inl, inr, arith, All, Contains}
use Rattle.std.proofs.lemmas.List.Elements.{All-cons, All-nil}
use Rattle.std.specs.List.{list_any, range_with_len}
use Rattle.finite_sums.specs.Members.{Among}

pub among_from_contains : (xs : List ℕ) (x : ℕ) → Contains xs x → Among x xs
among_from_contains [] x (k, l, e) = absurd (omega arith)
among_from_contains (y ∷ ys) x (zero, l, e) = inl (sym e)
among_from_contains (y ∷ ys) x (suc k, l, e) = inr (among_from_contains ys x (k, omega arith, e))

pub contains_from_among : (xs : List ℕ) (x : ℕ) → Among x xs → Contains xs x
contains_from_among [] x h = absurd h
contains_from_among (y ∷ ys) x (inl e) = (0, omega arith, sym e)
contains_from_among (y ∷ ys) x (inr m) = let c = contains_from_among ys x m in (suc c.0, omega (arith, c.1), c.2)

-- the test for a member
pub any_is : (x : ℕ) (xs : List ℕ) → (list_any (λ y. y == x) xs ≡ true) ↔ Contains xs x
any_is x xs = (λ e. contains_from_among xs x (there xs e), λ c. found xs (among_from_contains xs x c))
  where
    there : (xs : List ℕ) → list_any (λ y. y == x) xs ≡ true → Among x xs
    there [] e = absurd (cc)
    there (y ∷ ys) e = go (eqb y x) refl e (there ys)
      where
        go : (b : Bool) → eqb y x ≡ b → (b || list_any (λ z. z == x) ys) ≡ true → (list_any (λ z. z == x) ys ≡ true → Among x ys) → Among x (y ∷ ys)
        go true f e r = inl (sym (eqb-true y x f))
        go false f e r = inr (r e)

    found : (xs : List ℕ) → Among x xs → list_any (λ y. y == x) xs ≡ true
    found [] h = absurd h
    found (y ∷ ys) (inl e) = ap (λ b. b || list_any (λ z. z == x) ys) (eq-eqb y x (sym e))
    found (y ∷ ys) (inr m) = either (eqb y x) (found ys m)
      where
        either : (b : Bool) → list_any (λ z. z == x) ys ≡ true → (b || list_any (λ z. z == x) ys) ≡ true
        either true e = refl
        either false e = e

-- what holds of the members holds of each
pub all_among : (P : ℕ → Type 0) (xs : List ℕ) → ((x : ℕ) → Among x xs → P x) → All P xs
all_among P [] h = All-nil P
all_among P (x ∷ xs) h = All-cons P x xs (h x (inl refl)) (all_among P xs (λ y m. h y (inr m)))

-- the one member of a list of one
pub one_member : (x y : ℕ) (more : List ℕ) → more ≡ [] → Contains (y ∷ more) x → x ≡ y
one_member x y more e c = go (subst (λ m. Among x (y ∷ m)) e (among_from_contains (y ∷ more) x c))
  where
    go : (x ≡ y) ⊎ Among x [] → x ≡ y
    go (inl f) = f
    go (inr h) = absurd h

-- the numbers from k on
pub range_within : (k n v : ℕ) → Among v (range_with_len k n) → (k ≤ v) × (v < k + n)
range_within k zero v h = absurd h
range_within k (suc n) v (inl e) = (omega arith, omega arith)
range_within k (suc n) v (inr m) = let r = range_within (k + 1) n v m in (omega (arith, r.0), omega (arith, r.1))

pub range_has : (k n v : ℕ) → k ≤ v → v < k + n → Among v (range_with_len k n)
range_has k zero v h l = absurd (omega arith)
range_has k (suc n) v h l = go (split k v h) (λ m. range_has (k + 1) n v m (omega arith))
  where
    split : (k v : ℕ) → k ≤ v → (v ≡ k) ⊎ (k + 1 ≤ v)
    split k v h = grind arith

    go : (v ≡ k) ⊎ (k + 1 ≤ v) → (k + 1 ≤ v → Among v (range_with_len (k + 1) n)) → Among v (k ∷ range_with_len (k + 1) n)
    go (inl e) r = inl e
    go (inr m) r = inr (r m)

-- the other way of `among_filter`
pub filter_has : (p : ℕ → Bool) (x : ℕ) (xs : List ℕ) → Among x xs → p x ≡ true → Among x (filter p xs)
filter_has p x [] h e = absurd h
filter_has p x (y ∷ ys) (inl f) e = go (p y) (sym (ap p f) ∙ e)
  where
    go : (b : Bool) → b ≡ true → Among x (cond b (y ∷ filter p ys) (filter p ys))
    go true h = inl f
    go false h = absurd (cc)
filter_has p x (y ∷ ys) (inr m) e = go (p y) (filter_has p x ys m e)
  where
    go : (b : Bool) → Among x (filter p ys) → Among x (cond b (y ∷ filter p ys) (filter p ys))
    go true h = inr h
    go false h = h

-- Values in order of first sight: one more, and more.
use Rattle.std.proofs.Common.{◌≡◌, ℕ, Bool, true, false, not, ◌||◌, cond, List, [], ◌∷◌, ◌++◌, filter, All, refl, ap, sym, ◌∙◌}
use Rattle.std.proofs.lemmas.Bool.{false≢true}
use Rattle.std.proofs.lemmas.List.{append-nil, append_assoc}
use Rattle.std.proofs.lemmas.List.Elements.{All-nil, All-cons, filter-append}
use Rattle.std.proofs.lemmas.Slice.Eq.{bytes_eq-Decides}
use Rattle.std.specs.List.{list_any}
use Rattle.std.specs.Prelude.{if◌then◌else◌}
use Rattle.std.specs.Str.{bytes_eq}
use Rattle.finite_sums.specs.Sights.{first_sights, with_sight, with_sights}

or_true : (b : Bool) → (b || true) ≡ true
or_true true = refl
or_true false = refl

bytes_differ : (xs ys : List ℕ) → (xs ≡ ys → ⊥) → bytes_eq xs ys ≡ false
bytes_differ xs ys h = by_test (bytes_eq xs ys) refl where
  by_test : (b : Bool) → bytes_eq xs ys ≡ b → b ≡ false
  by_test true e = absurd (h ((bytes_eq-Decides xs ys).0 e))
  by_test false e = refl

pub bytes_same : (xs ys : List ℕ) → xs ≡ ys → bytes_eq xs ys ≡ true
bytes_same xs ys e = (bytes_eq-Decides xs ys).1 e

-- some name of the list is this one
abbrev pub has : List (List ℕ) → List ℕ → Bool
has names x = list_any (λ y. bytes_eq y x) names

-- the names that differ from the first
abbrev pub others : List ℕ → List (List ℕ) → List (List ℕ)
others y names = filter (λ z. not (bytes_eq y z)) names

-- a name that differs from the first is among the others where it is among all
pub has_others : (y x : List ℕ) (names : List (List ℕ)) → bytes_eq y x ≡ false → has (others y names) x ≡ has names x
has_others y x [] apart = refl
has_others y x (z ∷ names) apart = by_test (bytes_eq y z) refl (has_others y x names apart) where
  by_test : (b : Bool) → bytes_eq y z ≡ b → has (others y names) x ≡ has names x → has (others y (z ∷ names)) x ≡ has (z ∷ names) x
  by_test true e rec =
      ap (λ b. has (cond (not b) (z ∷ others y names) (others y names)) x) e ∙ rec
      ∙ ap (λ b. b || has names x) (sym (bytes_differ z x (λ same. false≢true (sym apart ∙ bytes_same y x ((bytes_eq-Decides y z).0 e ∙ same)))))
  by_test false e rec = ap (λ b. has (cond (not b) (z ∷ others y names) (others y names)) x) e ∙ ap (λ b. bytes_eq z x || b) rec

-- the others of one more name
others_more : (y x : List ℕ) (names : List (List ℕ)) (b : Bool) → bytes_eq y x ≡ b → others y (names ++ x ∷ []) ≡ others y names ++ (if b then [] else x ∷ [])
others_more y x names true e = filter-append (λ z. not (bytes_eq y z)) names (x ∷ []) ∙ ap (λ t. others y names ++ cond (not t) (x ∷ []) []) e
others_more y x names false e = filter-append (λ z. not (bytes_eq y z)) names (x ∷ []) ∙ ap (λ t. others y names ++ cond (not t) (x ∷ []) []) e

-- one more sight
pub first_sights_more : (xs : List (List ℕ)) (x : List ℕ) → first_sights (xs ++ x ∷ []) ≡ with_sight (first_sights xs) x
first_sights_more [] x = refl
first_sights_more (y ∷ xs) x = ap (λ s. y ∷ others y s) (first_sights_more xs x) ∙ by_tests (bytes_eq y x) refl (has (first_sights xs) x) refl where
  seen : List (List ℕ)
  seen = first_sights xs

  by_tests : (b : Bool) → bytes_eq y x ≡ b → (t : Bool) → has (first_sights xs) x ≡ t → (y ∷ others y (with_sight (first_sights xs) x)) ≡ with_sight (y ∷ others y (first_sights xs)) x
  by_tests true e true s =
      ap (λ t. y ∷ others y (if t then first_sights xs else first_sights xs ++ x ∷ [])) s
      ∙ sym (ap (λ b. if b || has (others y (first_sights xs)) x then y ∷ others y (first_sights xs) else (y ∷ others y (first_sights xs)) ++ x ∷ []) e)
  by_tests true e false s =
      ap (λ t. y ∷ others y (if t then first_sights xs else first_sights xs ++ x ∷ [])) s
      ∙ ap (λ zs. y ∷ zs) (others_more y x (first_sights xs) true e ∙ append-nil (others y (first_sights xs)))
      ∙ sym (ap (λ b. if b || has (others y (first_sights xs)) x then y ∷ others y (first_sights xs) else (y ∷ others y (first_sights xs)) ++ x ∷ []) e)
  by_tests false e true s =
      ap (λ t. y ∷ others y (if t then first_sights xs else first_sights xs ++ x ∷ [])) s
      ∙ sym (ap (λ b. if b || has (others y (first_sights xs)) x then y ∷ others y (first_sights xs) else (y ∷ others y (first_sights xs)) ++ x ∷ []) e
      ∙ ap (λ b. if b then y ∷ others y (first_sights xs) else (y ∷ others y (first_sights xs)) ++ x ∷ []) (has_others y x (first_sights xs) e ∙ s))
  by_tests false e false s =
      ap (λ t. y ∷ others y (if t then first_sights xs else first_sights xs ++ x ∷ [])) s
      ∙ ap (λ zs. y ∷ zs) (others_more y x (first_sights xs) false e)
      ∙ sym (ap (λ b. if b || has (others y (first_sights xs)) x then y ∷ others y (first_sights xs) else (y ∷ others y (first_sights xs)) ++ x ∷ []) e
      ∙ ap (λ b. if b then y ∷ others y (first_sights xs) else (y ∷ others y (first_sights xs)) ++ x ∷ []) (has_others y x (first_sights xs) e ∙ s))

-- more sights
pub first_sights_all : (xs ys : List (List ℕ)) → first_sights (xs ++ ys) ≡ with_sights (first_sights xs) ys
first_sights_all xs [] = ap first_sights (append-nil xs)
first_sights_all xs (y ∷ ys) = ap first_sights (sym (append_assoc xs (y ∷ []) ys)) ∙ first_sights_all (xs ++ y ∷ []) ys ∙ ap (λ s. with_sights s ys) (first_sights_more xs y)

-- more sights come behind those before
pub sights_grow : (xs ys : List (List ℕ)) → (zs : List (List ℕ)) × (first_sights (xs ++ ys) ≡ first_sights xs ++ zs)
sights_grow xs [] = ([], ap first_sights (append-nil xs) ∙ sym (append-nil (first_sights xs)))
sights_grow xs (y ∷ ys) = by_test (has (first_sights xs) y) refl (sights_grow (xs ++ y ∷ []) ys) where
  by_test : (b : Bool) → has (first_sights xs) y ≡ b → (zs : List (List ℕ)) × (first_sights ((xs ++ y ∷ []) ++ ys) ≡ first_sights (xs ++ y ∷ []) ++ zs) → (zs : List (List ℕ)) × (first_sights (xs ++ y ∷ ys) ≡ first_sights xs ++ zs)
  by_test true e (zs, rec) = (zs, ap first_sights (sym (append_assoc xs (y ∷ []) ys)) ∙ rec ∙ ap (λ s. s ++ zs) (first_sights_more xs y ∙ ap (λ b. if b then first_sights xs else first_sights xs ++ y ∷ []) e))
  by_test false e (zs, rec) = (y ∷ zs, ap first_sights (sym (append_assoc xs (y ∷ []) ys)) ∙ rec ∙ ap (λ s. s ++ zs) (first_sights_more xs y ∙ ap (λ b. if b then first_sights xs else first_sights xs ++ y ∷ []) e) ∙ append_assoc (first_sights xs) (y ∷ []) zs)

pub has-append : (xs ys : List (List ℕ)) (a : List ℕ) → has ys a ≡ true → has (xs ++ ys) a ≡ true
has-append [] ys a e = e
has-append (x ∷ xs) ys a e = ap (λ b. bytes_eq x a || b) (has-append xs ys a e) ∙ or_true (bytes_eq x a)

-- an agent that was seen is there
pub has_sight : (agents : List (List ℕ)) (a : List ℕ) → has (with_sight agents a) a ≡ true
has_sight agents a = by_test (has agents a) refl where
  by_test : (b : Bool) → has agents a ≡ b → has (with_sight agents a) a ≡ true
  by_test true e = ap (λ b. has (if b then agents else agents ++ a ∷ []) a) e ∙ e
  by_test false e = ap (λ b. has (if b then agents else agents ++ a ∷ []) a) e ∙ has-append agents (a ∷ []) a (ap (λ b. b || false) (bytes_same a a refl))

-- sights add to the agents that are there
pub sight_adds : (agents : List (List ℕ)) (a : List ℕ) → (zs : List (List ℕ)) × (with_sight agents a ≡ agents ++ zs)
sight_adds agents a = by_test (has agents a) refl where
  by_test : (b : Bool) → has agents a ≡ b → (zs : List (List ℕ)) × (with_sight agents a ≡ agents ++ zs)
  by_test true e = ([], ap (λ b. if b then agents else agents ++ a ∷ []) e ∙ sym (append-nil agents))
  by_test false e = (a ∷ [], ap (λ b. if b then agents else agents ++ a ∷ []) e)

pub sights_add : (agents names : List (List ℕ)) → (zs : List (List ℕ)) × (with_sights agents names ≡ agents ++ zs)
sights_add agents [] = ([], sym (append-nil agents))
sights_add agents (x ∷ xs) =
    let one = sight_adds agents x in
    let rest = sights_add (with_sight agents x) xs in
    (one.0 ++ rest.0, rest.1 ∙ ap (λ s. s ++ rest.0) one.1 ∙ append_assoc agents one.0 rest.0)

pub has-before : (xs ys : List (List ℕ)) (a : List ℕ) → has xs a ≡ true → has (xs ++ ys) a ≡ true
has-before [] ys a e = absurd (false≢true e)
has-before (x ∷ xs) ys a e = by_test (bytes_eq x a) refl (λ k. has-before xs ys a k) where
  by_test : (b : Bool) → bytes_eq x a ≡ b → (has xs a ≡ true → has (xs ++ ys) a ≡ true) → has (x ∷ (xs ++ ys)) a ≡ true
  by_test true t rec = ap (λ b. b || has (xs ++ ys) a) t
  by_test false t rec = ap (λ b. b || has (xs ++ ys) a) t ∙ rec (ap (λ b. b || has xs a) (sym t) ∙ e)

-- each name that was seen is there
pub has_sights : (agents names : List (List ℕ)) → All (λ a. has (with_sights agents names) a ≡ true) names
has_sights agents [] = All-nil (λ a. has agents a ≡ true)
has_sights agents (x ∷ xs) =
    let rest = sights_add (with_sight agents x) xs in
    All-cons (λ a. has (with_sights agents (x ∷ xs)) a ≡ true) x xs
    (ap (λ s. has s x) rest.1 ∙ has-before (with_sight agents x) rest.0 x (has_sight agents x))
    (has_sights (with_sight agents x) xs)

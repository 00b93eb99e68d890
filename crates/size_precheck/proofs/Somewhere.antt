-- A fact of some element of a list, by cases.
use Rattle.std.proofs.Common.{◌≡◌, ◌∙◌, ◌⊎◌, Bool, true, false, cond, ◌||◌, ◌&&◌, not, filter, map, List, [], ◌∷◌, ◌++◌, refl, sym, ap, inl, inr}
use Rattle.std.specs.List.{list_any}
use Rattle.finite_sums.proofs.Counts.{true_or_false}
use Rattle.size_precheck.specs.Joints.{SomeOf, HoldsOfEach}

pub some_map : {X : Type 0} (P Q : X → Type 0) → ((x : X) → P x → Q x) → (xs : List X) → SomeOf P xs → SomeOf Q xs
some_map P Q f [] h = h
some_map P Q f (x ∷ xs) (inl p) = inl (f x p)
some_map P Q f (x ∷ xs) (inr s) = inr (some_map P Q f xs s)

-- of a list with one element more
pub some_push : {X : Type 0} (P : X → Type 0) (xs : List X) (y : X) → SomeOf P (xs ++ y ∷ []) → SomeOf P xs ⊎ P y
some_push P [] y (inl p) = inr p
some_push P [] y (inr s) = absurd s
some_push P (x ∷ xs) y (inl p) = inl (inl p)
some_push P (x ∷ xs) y (inr s) = elim (some_push P xs y s) as (λ _. SomeOf P (x ∷ xs) ⊎ P y) [ inl t ↦ inl (inr t) | inr p ↦ inr p ]

pub push_some : {X : Type 0} (P : X → Type 0) (xs : List X) (y : X) → SomeOf P xs ⊎ P y → SomeOf P (xs ++ y ∷ [])
push_some P [] y (inl s) = absurd s
push_some P [] y (inr p) = inl p
push_some P (x ∷ xs) y (inl (inl p)) = inl p
push_some P (x ∷ xs) y (inl (inr s)) = inr (push_some P xs y (inl s))
push_some P (x ∷ xs) y (inr p) = inr (push_some P xs y (inr p))

-- of those that pass a test
pub some_filter : {X : Type 0} (P : X → Type 0) (q : X → Bool) (xs : List X) → SomeOf P (filter q xs) → SomeOf (λ x. (q x ≡ true) × P x) xs
some_filter P q [] h = h
some_filter {X} P q (x ∷ xs) h = go (q x) refl h (some_filter P q xs)
  where
    go : (b : Bool) → q x ≡ b → SomeOf P (cond b (x ∷ filter q xs) (filter q xs)) → (SomeOf P (filter q xs) → SomeOf (λ x. (q x ≡ true) × P x) xs) → SomeOf (λ x. (q x ≡ true) × P x) (x ∷ xs)
    go true e (inl p) rec = inl (e, p)
    go true e (inr s) rec = inr (rec s)
    go false e s rec = inr (rec s)

pub filter_some : {X : Type 0} (P : X → Type 0) (q : X → Bool) (xs : List X) → SomeOf (λ x. (q x ≡ true) × P x) xs → SomeOf P (filter q xs)
filter_some P q [] h = h
filter_some P q (x ∷ xs) h = go (q x) refl h (filter_some P q xs)
  where
    go : (b : Bool) → q x ≡ b → SomeOf (λ x. (q x ≡ true) × P x) (x ∷ xs) → (SomeOf (λ x. (q x ≡ true) × P x) xs → SomeOf P (filter q xs)) → SomeOf P (cond b (x ∷ filter q xs) (filter q xs))
    go true e (inl p) rec = inl p.1
    go true e (inr s) rec = inr (rec s)
    go false e (inl p) rec = absurd (let f : true ≡ false = sym p.0 ∙ e in cc)
    go false e (inr s) rec = rec s

-- as a test
pub any_some : {X : Type 0} (p : X → Bool) (xs : List X) → list_any p xs ≡ true → SomeOf (λ x. p x ≡ true) xs
any_some p [] h = absurd (cc)
any_some p (x ∷ xs) h = go (p x) refl h (any_some p xs)
  where
    go : (b : Bool) → p x ≡ b → (b || list_any p xs) ≡ true → (list_any p xs ≡ true → SomeOf (λ x. p x ≡ true) xs) → SomeOf (λ x. p x ≡ true) (x ∷ xs)
    go true e k rec = inl e
    go false e k rec = inr (rec k)

pub some_any : {X : Type 0} (p : X → Bool) (xs : List X) → SomeOf (λ x. p x ≡ true) xs → list_any p xs ≡ true
some_any p [] h = absurd h
some_any p (x ∷ xs) (inl e) = ap (λ b. b || list_any p xs) e
some_any p (x ∷ xs) (inr s) = go (p x) (some_any p xs s)
  where
    go : (b : Bool) → list_any p xs ≡ true → (b || list_any p xs) ≡ true
    go true e = refl
    go false e = e

-- of a mapped list
pub some_mapped : {X Y : Type 0} (P : Y → Type 0) (f : X → Y) (xs : List X) → SomeOf P (map f xs) → SomeOf (λ x. P (f x)) xs
some_mapped P f [] h = h
some_mapped P f (x ∷ xs) (inl p) = inl p
some_mapped P f (x ∷ xs) (inr s) = inr (some_mapped P f xs s)

pub mapped_some : {X Y : Type 0} (P : Y → Type 0) (f : X → Y) (xs : List X) → SomeOf (λ x. P (f x)) xs → SomeOf P (map f xs)
mapped_some P f [] h = h
mapped_some P f (x ∷ xs) (inl p) = inl p
mapped_some P f (x ∷ xs) (inr s) = inr (mapped_some P f xs s)

-- a fact of each beside one of some
pub each_some : {X : Type 0} (P Q : X → Type 0) (xs : List X) → HoldsOfEach P xs → SomeOf Q xs → SomeOf (λ x. P x × Q x) xs
each_some P Q [] h s = s
each_some P Q (x ∷ xs) h (inl q) = inl (h.0, q)
each_some P Q (x ∷ xs) h (inr s) = inr (each_some P Q xs h.1 s)

pub some_never : {X : Type 0} (P : X → Type 0) (xs : List X) → ((x : X) → P x → ⊥) → SomeOf P xs → ⊥
some_never P [] n h = h
some_never P (x ∷ xs) n (inl p) = n x p
some_never P (x ∷ xs) n (inr s) = some_never P xs n s

-- ---- of each
pub each_push : {X : Type 0} (P : X → Type 0) (xs : List X) (y : X) → HoldsOfEach P xs → P y → HoldsOfEach P (xs ++ y ∷ [])
each_push P [] y h p = (p, tt)
each_push P (x ∷ xs) y h p = (h.0, each_push P xs y h.1 p)

pub each_filter : {X : Type 0} (P Q : X → Type 0) (q : X → Bool) → ((x : X) → q x ≡ true → P x → Q x) → (xs : List X) → HoldsOfEach P xs → HoldsOfEach Q (filter q xs)
each_filter P Q q f [] h = tt
each_filter P Q q f (x ∷ xs) h = go (q x) refl (each_filter P Q q f xs h.1)
  where
    go : (b : Bool) → q x ≡ b → HoldsOfEach Q (filter q xs) → HoldsOfEach Q (cond b (x ∷ filter q xs) (filter q xs))
    go true e r = (f x e h.0, r)
    go false e r = r

pub each_map : {X : Type 0} (P Q : X → Type 0) → ((x : X) → P x → Q x) → (xs : List X) → HoldsOfEach P xs → HoldsOfEach Q xs
each_map P Q f [] h = tt
each_map P Q f (x ∷ xs) h = (f x h.0, each_map P Q f xs h.1)

-- ---- tests
pub same_test : (a b : Bool) → (a ≡ true → b ≡ true) → (b ≡ true → a ≡ true) → a ≡ b
same_test true true f g = refl
same_test true false f g = absurd (let e = f refl in cc)
same_test false true f g = absurd (let e = g refl in cc)
same_test false false f g = refl

pub and_left : (a b : Bool) → (a && b) ≡ true → a ≡ true
and_left true b e = refl
and_left false b e = e

pub and_right : (a b : Bool) → (a && b) ≡ true → b ≡ true
and_right true b e = e
and_right false b e = absurd (cc)

pub and_both : (a b : Bool) → a ≡ true → b ≡ true → (a && b) ≡ true
and_both true b e f = f
and_both false b e f = e

pub not_true : (b : Bool) → not b ≡ true → b ≡ true → ⊥
not_true true h e = absurd (cc)
not_true false h e = absurd (cc)

pub true_not : (b : Bool) → (b ≡ true → ⊥) → not b ≡ true
true_not true n = absurd (n refl)
true_not false n = refl

-- where some element has P, one that does not pass has it, or one that does
pub some_split : {X : Type 0} (P : X → Type 0) (q : X → Bool) (xs : List X) → SomeOf P xs → SomeOf (λ x. (not (q x) ≡ true) × P x) xs ⊎ SomeOf (λ x. (q x ≡ true) × P x) xs
some_split P q [] h = absurd h
some_split P q (x ∷ xs) (inl p) = elim (true_or_false (q x)) as (λ _. SomeOf (λ x. (not (q x) ≡ true) × P x) (x ∷ xs) ⊎ SomeOf (λ x. (q x ≡ true) × P x) (x ∷ xs)) [
  | inl e ↦ inr (inl (e, p))
  | inr e ↦ inl (inl (ap not e, p))
]
some_split P q (x ∷ xs) (inr s) = elim (some_split P q xs s) as (λ _. SomeOf (λ x. (not (q x) ≡ true) × P x) (x ∷ xs) ⊎ SomeOf (λ x. (q x ≡ true) × P x) (x ∷ xs)) [ inl h ↦ inl (inr h) | inr h ↦ inr (inr h) ]

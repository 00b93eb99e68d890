-- Rearranged lists, lists of the first numbers, and filtered lists.
use Rattle.std.proofs.Common.{◌≡◌, ◌≢◌, ◌⊎◌, ℕ, zero, suc, ◌+◌, ◌<◌, ◌≤◌, Bool, true, false, cond, filter, List, [], ◌∷◌, ◌++◌, length, refl, sym, ap, subst, inl, inr, arith}
use Rattle.std.specs.List.{range_with_len}
use Rattle.maid_model.specs.Nodes.{numbers_of}
use Rattle.maid_model.specs.Views.{NodeView}
use Rattle.finite_sums.specs.Members.{Among, Shuffled, none, put}
use Rattle.finite_sums.specs.Members.{Avoids}
use Rattle.finite_sums.proofs.Lists.{avoids, among_filter}
use Rattle.maid_laws.proofs.Basis.{among_filter_in}
use Rattle.maid_laws.proofs.Collapse.{Apart}
use Rattle.maid_laws.proofs.Members.{not_among}

-- members of a list with one more
among_part : (v x : ℕ) (front back : List ℕ) → Among v (front ++ back) → Among v (front ++ x ∷ back)
among_part v x [] back m = inr m
among_part v x (y ∷ front) back (inl e) = inl e
among_part v x (y ∷ front) back (inr m) = inr (among_part v x front back m)

-- the one put in
among_mid : (x : ℕ) (front back : List ℕ) → Among x (front ++ x ∷ back)
among_mid x [] back = inl refl
among_mid x (y ∷ front) back = inr (among_mid x front back)

-- it, or another
among_back : (v x : ℕ) (front back : List ℕ) → Among v (front ++ x ∷ back) → (v ≡ x) ⊎ Among v (front ++ back)
among_back v x [] back m = m
among_back v x (y ∷ front) back (inl e) = inr (inl e)
among_back v x (y ∷ front) back (inr m) = elim (among_back v x front back m) [ inl e ↦ inl e | inr k ↦ inr (inr k) ]

-- the same members
pub among_shuffled : (v : ℕ) {xs ys : List ℕ} → Shuffled xs ys → Among v xs → Among v ys
among_shuffled v none m = m
among_shuffled v (put {x} front back s) (inl e) = subst (λ z. Among z (front ++ x ∷ back)) (sym e) (among_mid x front back)
among_shuffled v (put {x} front back s) (inr m) = among_part v x front back (among_shuffled v s m)

pub among_unshuffled : (v : ℕ) {xs ys : List ℕ} → Shuffled xs ys → Among v ys → Among v xs
among_unshuffled v none m = m
among_unshuffled v (put {x} front back s) m = back_to (among_back v x front back m) (λ k. among_unshuffled v s k)
  where
    back_to : {A B : Type 0} → (v ≡ x) ⊎ A → (A → B) → (v ≡ x) ⊎ B
    back_to (inl e) f = inl e
    back_to (inr k) f = inr (f k)

-- one more that is avoided
avoids_insert : (u x : ℕ) (front back : List ℕ) → Avoids u (front ++ back) → x ≢ u → Avoids u (front ++ x ∷ back)
avoids_insert u x [] back a n = (n, a)
avoids_insert u x (y ∷ front) back a n = (a.0, avoids_insert u x front back a.1 n)

-- one more that is new
apart_insert : (x : ℕ) (front back : List ℕ) → Apart (front ++ back) → Avoids x (front ++ back) → Apart (front ++ x ∷ back)
apart_insert x [] back a v = (v, a)
apart_insert x (y ∷ front) back a v = (avoids_insert y x front back a.0 (λ e. v.0 (sym e)), apart_insert x front back a.1 v.1)

-- no repetition, rearranged
pub apart_shuffled : {xs ys : List ℕ} → Shuffled xs ys → Apart xs → Apart ys
apart_shuffled none a = a
apart_shuffled (put {x} {xs} front back s) a = apart_insert x front back (apart_shuffled s a.1) (avoids x (front ++ back) (λ m. not_among x xs a.0 (among_unshuffled x s m)))

-- numbers from k on
range_above : (k n v : ℕ) → Among v (range_with_len k n) → k ≤ v
range_above k zero v m = absurd m
range_above k (suc n) v (inl e) = omega arith
range_above k (suc n) v (inr m) = let h : k + 1 ≤ v = range_above (k + 1) n v m in omega arith

-- they differ
pub range_apart : (k n : ℕ) → Apart (range_with_len k n)
range_apart k zero = tt
range_apart k (suc n) = (avoids k (range_with_len (k + 1) n) (λ m. let h : k + 1 ≤ k = range_above (k + 1) n k m in omega arith), range_apart (k + 1) n)

-- all of them
pub in_range : (k n v : ℕ) → k ≤ v → v < k + n → Among v (range_with_len k n)
in_range k zero v a b = absurd (omega arith)
in_range k (suc n) v a b = go (k_or_more k v a) (λ l. in_range (k + 1) n v l (omega arith))
  where
    k_or_more : (k v : ℕ) → k ≤ v → (v ≡ k) ⊎ (k + 1 ≤ v)
    k_or_more k v h = grind arith

    go : (v ≡ k) ⊎ (k + 1 ≤ v) → (k + 1 ≤ v → Among v (range_with_len (k + 1) n)) → Among v (k ∷ range_with_len (k + 1) n)
    go (inl e) f = inl e
    go (inr l) f = inr (f l)

-- and no others
pub among_range : (k n v : ℕ) → Among v (range_with_len k n) → v < k + n
among_range k zero v m = absurd m
among_range k (suc n) v (inl e) = omega arith
among_range k (suc n) v (inr m) = let h : v < k + 1 + n = among_range (k + 1) n v m in omega arith

-- n of them
pub length_range : (k n : ℕ) → length (range_with_len k n) ≡ n
length_range k zero = refl
length_range k (suc n) = ap suc (length_range (k + 1) n)

-- a part avoids what the list avoids
avoids_filter : (p : ℕ → Bool) (u : ℕ) (xs : List ℕ) → Avoids u xs → Avoids u (filter p xs)
avoids_filter p u [] h = tt
avoids_filter p u (x ∷ xs) h = go (p x) (avoids_filter p u xs h.1)
  where
    go : (b : Bool) → Avoids u (filter p xs) → Avoids u (cond b (x ∷ filter p xs) (filter p xs))
    go true r = (h.0, r)
    go false r = r

-- and repeats nothing
pub apart_filter : (p : ℕ → Bool) (xs : List ℕ) → Apart xs → Apart (filter p xs)
apart_filter p [] h = tt
apart_filter p (x ∷ xs) h = go (p x) (apart_filter p xs h.1)
  where
    go : (b : Bool) → Apart (filter p xs) → Apart (cond b (x ∷ filter p xs) (filter p xs))
    go true r = (avoids_filter p x xs h.0, r)
    go false r = r

-- the numbers of the nodes
pub number : (nodes : List NodeView) (v : ℕ) → v < length nodes → Among v (numbers_of nodes)
number nodes v l = in_range 0 (length nodes) v (omega arith) (omega arith)

pub numbered : (nodes : List NodeView) (v : ℕ) → Among v (numbers_of nodes) → v < length nodes
numbered nodes v m = let l : v < 0 + length nodes = among_range 0 (length nodes) v m in omega arith

-- ---- lists put together
pub among_left : (v : ℕ) (xs ys : List ℕ) → Among v xs → Among v (xs ++ ys)
among_left v [] ys m = absurd m
among_left v (x ∷ xs) ys (inl e) = inl e
among_left v (x ∷ xs) ys (inr m) = inr (among_left v xs ys m)

pub among_right : (v : ℕ) (xs ys : List ℕ) → Among v ys → Among v (xs ++ ys)
among_right v [] ys m = m
among_right v (x ∷ xs) ys m = inr (among_right v xs ys m)

-- a member is in one of them
pub among_append : (v : ℕ) (xs ys : List ℕ) → Among v (xs ++ ys) → Among v xs ⊎ Among v ys
among_append v [] ys m = inr m
among_append v (x ∷ xs) ys (inl e) = inl (inl e)
among_append v (x ∷ xs) ys (inr m) = elim (among_append v xs ys m) [ inl k ↦ inl (inr k) | inr k ↦ inr k ]

-- they repeat nothing where neither does and they share nothing
pub apart_append : (xs ys : List ℕ) → Apart xs → Apart ys → ((v : ℕ) → Among v xs → ¬ (Among v ys)) → Apart (xs ++ ys)
apart_append [] ys a b h = b
apart_append (x ∷ xs) ys a b h = (
  avoids x (xs ++ ys) (λ m. elim (among_append x xs ys m) [ inl k ↦ not_among x xs a.0 k | inr k ↦ h x (inl refl) k ]),
  apart_append xs ys a.1 b (λ v m. h v (inr m)),
)

-- a list cut at one of its members
cut : (x : ℕ) (ys : List ℕ) → Among x ys → (front : List ℕ) × (back : List ℕ) × (ys ≡ front ++ x ∷ back)
cut x [] m = absurd m
cut x (y ∷ ys) (inl e) = ([], ys, ap (λ z. z ∷ ys) (sym e))
cut x (y ∷ ys) (inr m) = let r = cut x ys m in (y ∷ r.0, r.1, ap (λ l. y ∷ l) r.2)

-- one taken out
apart_drop : (x : ℕ) (front back : List ℕ) → Apart (front ++ x ∷ back) → Apart (front ++ back) × Avoids x (front ++ back)
apart_drop x [] back a = (a.1, a.0)
apart_drop x (y ∷ front) back a =
    let r = apart_drop x front back a.1 in
    let n : ¬ (Among y (front ++ x ∷ back)) = not_among y (front ++ x ∷ back) a.0 in
    ((avoids y (front ++ back) (λ m. n (among_part y x front back m)), r.0), ((λ e. n (subst (λ z. Among z (front ++ x ∷ back)) (sym e) (among_mid x front back))), r.1))

-- two lists without repetition and with the same members
pub shuffled_of : (xs ys : List ℕ) → Apart xs → Apart ys → ((v : ℕ) → Among v xs → Among v ys) → ((v : ℕ) → Among v ys → Among v xs) → Shuffled xs ys
shuffled_of [] [] a b f g = none
shuffled_of [] (y ∷ ys) a b f g = absurd (g y (inl refl))
shuffled_of (x ∷ xs) ys a b f g =
    let c = cut x ys (f x (inl refl)) in
    let d = apart_drop x c.0 c.1 (subst Apart c.2 b) in
    subst (Shuffled (x ∷ xs)) (sym c.2) (put c.0 c.1 (shuffled_of xs (c.0 ++ c.1) a.1 d.0
    (λ v m. rest v (λ e. not_among x xs a.0 (subst (λ z. Among z xs) e m)) (among_back v x c.0 c.1 (subst (λ l. Among v l) c.2 (f v (inr m)))))
    (λ v m. tail v (λ e. not_among x (c.0 ++ c.1) d.1 (subst (λ z. Among z (c.0 ++ c.1)) e m)) (g v (subst (λ l. Among v l) (sym c.2) (among_part v x c.0 c.1 m))))))
  where
    rest : {A : Type 0} (v : ℕ) → (v ≡ x → ⊥) → (v ≡ x) ⊎ A → A
    rest v n (inl e) = absurd (n e)
    rest v n (inr m) = m

    tail : (v : ℕ) → (v ≡ x → ⊥) → (v ≡ x) ⊎ Among v xs → Among v xs
    tail v n (inl e) = absurd (n e)
    tail v n (inr m) = m

-- what passes a test, of two rearranged lists
pub shuffled_filter : (p : ℕ → Bool) (xs ys : List ℕ) → Apart xs → Shuffled xs ys → Shuffled (filter p xs) (filter p ys)
shuffled_filter p xs ys a s =
    shuffled_of (filter p xs) (filter p ys) (apart_filter p xs a) (apart_filter p ys (apart_shuffled s a))
    (λ v m. let k = among_filter p v xs m in among_filter_in p v ys (among_shuffled v s k.0) k.1)
    (λ v m. let k = among_filter p v ys m in among_filter_in p v xs (among_unshuffled v s k.0) k.1)

-- The list of all worlds has each world once, in order.
use Rattle.std.proofs.Common.{◌≡◌, ◌≢◌, ◌∙◌, ◌⊎◌, ℕ, zero, suc, ◌+◌, ◌-◌, ◌<◌, ◌≤◌, List, [], ◌∷◌, ◌++◌, map, flat_map, length, get_or, slice_index_or, refl, sym, ap, subst, inl, inr, arith, Contains, append_assoc}
use Rattle.std.specs.List.{range_with_len}
use Rattle.maid_model.specs.Laws.{ListsWorlds}
use Rattle.maid_model.specs.Worlds.{worlds, worlds_from, IsWorld}
use Rattle.finite_sums.specs.Members.{Among}
use Rattle.finite_sums.proofs.Members.{range_within, range_has}
use Rattle.maid_model.proofs.Next.{IsWorld-tail}

-- a list of the lists, by cases
abbrev pub Member : List ℕ → List (List ℕ) → Type 0
Member x [] = ⊥
Member x (y ∷ ys) = (x ≡ y) ⊎ Member x ys

member_from_contains : (xs : List (List ℕ)) (x : List ℕ) → Contains xs x → Member x xs
member_from_contains [] x (k, l, e) = absurd (omega arith)
member_from_contains (y ∷ ys) x (zero, l, e) = inl (sym e)
member_from_contains (y ∷ ys) x (suc k, l, e) = inr (member_from_contains ys x (k, omega arith, e))

contains_from_member : (xs : List (List ℕ)) (x : List ℕ) → Member x xs → Contains xs x
contains_from_member [] x h = absurd h
contains_from_member (y ∷ ys) x (inl e) = (0, omega arith, sym e)
contains_from_member (y ∷ ys) x (inr m) = let c = contains_from_member ys x m in (suc c.0, omega (arith, c.1), c.2)

member_left : (x : List ℕ) (xs ys : List (List ℕ)) → Member x xs → Member x (xs ++ ys)
member_left x [] ys h = absurd h
member_left x (y ∷ xs) ys (inl e) = inl e
member_left x (y ∷ xs) ys (inr m) = inr (member_left x xs ys m)

member_right : (x : List ℕ) (xs ys : List (List ℕ)) → Member x ys → Member x (xs ++ ys)
member_right x [] ys h = h
member_right x (y ∷ xs) ys h = inr (member_right x xs ys h)

pub member_either : (x : List ℕ) (xs ys : List (List ℕ)) → Member x (xs ++ ys) → Member x xs ⊎ Member x ys
member_either x [] ys h = inr h
member_either x (y ∷ xs) ys (inl e) = inl (inl e)
member_either x (y ∷ xs) ys (inr m) = elim (member_either x xs ys m) [ inl k ↦ inl (inr k) | inr k ↦ inr k ]

member_map : (s : ℕ) (x : List ℕ) (xs : List (List ℕ)) → Member x xs → Member (s ∷ x) (map (λ ys. s ∷ ys) xs)
member_map s x [] h = absurd h
member_map s x (y ∷ ys) (inl e) = inl (ap (λ l. s ∷ l) e)
member_map s x (y ∷ ys) (inr m) = inr (member_map s x ys m)

-- a world of a block begins with the block's state
pub member_of_map : (s : ℕ) (x : List ℕ) (xs : List (List ℕ)) → Member x (map (λ ys. s ∷ ys) xs) → (r : List ℕ) × (x ≡ s ∷ r) × Member r xs
member_of_map s x [] h = absurd h
member_of_map s x (y ∷ ys) (inl e) = (y, e, inl refl)
member_of_map s x (y ∷ ys) (inr m) = let r = member_of_map s x ys m in (r.0, r.1, inr r.2)

abbrev block : List ℕ → ℕ → List (List ℕ)
block cs s = map (λ ys. s ∷ ys) (worlds cs)

member_blocks : (cs : List ℕ) (s : ℕ) (x : List ℕ) (ss : List ℕ) → Among s ss → Member x (worlds cs) → Member (s ∷ x) (flat_map (block cs) ss)
member_blocks cs s x [] h m = absurd h
member_blocks cs s x (t ∷ ss) (inl e) m = member_left (s ∷ x) (block cs t) (flat_map (block cs) ss) (subst (λ k. Member (s ∷ x) (block cs k)) e (member_map s x (worlds cs) m))
member_blocks cs s x (t ∷ ss) (inr k) m = member_right (s ∷ x) (block cs t) (flat_map (block cs) ss) (member_blocks cs s x ss k m)

member_of_blocks : (cs : List ℕ) (x : List ℕ) (ss : List ℕ) → Member x (flat_map (block cs) ss) → (s : ℕ) × (r : List ℕ) × Among s ss × (x ≡ s ∷ r) × Member r (worlds cs)
member_of_blocks cs x [] h = absurd h
member_of_blocks cs x (t ∷ ss) h = go (member_either x (block cs t) (flat_map (block cs) ss) h) (member_of_blocks cs x ss)
  where
    go : Member x (block cs t) ⊎ Member x (flat_map (block cs) ss) → (Member x (flat_map (block cs) ss) → (s : ℕ) × (r : List ℕ) × Among s ss × (x ≡ s ∷ r) × Member r (worlds cs))
        → (s : ℕ) × (r : List ℕ) × Among s (t ∷ ss) × (x ≡ s ∷ r) × Member r (worlds cs)
    go (inl m) f = let r = member_of_map t x (worlds cs) m in (t, r.0, inl refl, r.1, r.2)
    go (inr m) f = let r = f m in (r.0, r.1, inr r.2, r.3, r.4)

-- ---- all worlds are there, and nothing else
more_world : (c x : ℕ) (cs xs : List ℕ) → x < c → IsWorld cs xs → IsWorld (c ∷ cs) (x ∷ xs)
more_world c x cs xs l w = record { len = omega (arith, w.len); each = each }
  where
    each : (v : ℕ) → v < suc (length xs) → get_or (x ∷ xs) v 0 < get_or (c ∷ cs) v 0
    each zero k = l
    each (suc v) k = w.each v (omega arith)

listed : (cs xs : List ℕ) → IsWorld cs xs → Member xs (worlds cs)
listed [] [] w = inl refl
listed [] (x ∷ xs) w = absurd (omega (arith, w.len))
listed (c ∷ cs) [] w = absurd (omega (arith, w.len))
listed (c ∷ cs) (x ∷ xs) w =
    member_blocks cs x xs (range_with_len 0 c) (range_has 0 c x (omega arith) (let l : x < c = w.each 0 (omega arith) in omega arith)) (listed cs xs (IsWorld-tail c x cs xs w))

nothing_else : (cs xs : List ℕ) → Member xs (worlds cs) → IsWorld cs xs
nothing_else [] xs (inl e) = subst (IsWorld []) (sym e) (record { len = refl; each = λ v l. absurd (omega arith) })
nothing_else [] xs (inr m) = absurd m
nothing_else (c ∷ cs) xs m =
    let r = member_of_blocks cs xs (range_with_len 0 c) m in
    subst (IsWorld (c ∷ cs)) (sym r.3) (more_world c r.0 cs r.1 (let l : r.0 < 0 + c = (range_within 0 c r.0 r.2).1 in omega arith) (nothing_else cs r.1 r.4))

-- ---- each once
abbrev Apart : List (List ℕ) → Type 0
Apart [] = Unit {0}
Apart (x ∷ xs) = ((y : List ℕ) → Member y xs → x ≢ y) × Apart xs

apart_append : (xs ys : List (List ℕ)) → Apart xs → Apart ys → ((x y : List ℕ) → Member x xs → Member y ys → x ≢ y) → Apart (xs ++ ys)
apart_append [] ys a b h = b
apart_append (x ∷ xs) ys a b h = (
  (λ y m. elim (member_either y xs ys m) [ inl k ↦ a.0 y k | inr k ↦ h x y (inl refl) k ]),
  apart_append xs ys a.1 b (λ z y k m. h z y (inr k) m),
)

head_of : List ℕ → ℕ
head_of [] = 0
head_of (x ∷ xs) = x

tail_of : List ℕ → List ℕ
tail_of [] = []
tail_of (x ∷ xs) = xs

same_tail : (s t : ℕ) (xs ys : List ℕ) → s ∷ xs ≡ t ∷ ys → xs ≡ ys
unfolding tail_of
same_tail s t xs ys e = ap tail_of e

same_head : (s t : ℕ) (xs ys : List ℕ) → s ∷ xs ≡ t ∷ ys → s ≡ t
unfolding head_of
same_head s t xs ys e = ap head_of e

apart_map : (s : ℕ) (xs : List (List ℕ)) → Apart xs → Apart (map (λ ys. s ∷ ys) xs)
apart_map s [] a = tt
apart_map s (x ∷ xs) a = (
  (λ y m e. let r = member_of_map s y xs m in a.0 r.0 r.2 (same_tail s s x r.0 (e ∙ r.1))),
  apart_map s xs a.1,
)

apart_blocks : (cs : List ℕ) → Apart (worlds cs) → (k n : ℕ) → Apart (flat_map (block cs) (range_with_len k n))
apart_blocks cs a k zero = tt
apart_blocks cs a k (suc n) =
    apart_append (block cs k) (flat_map (block cs) (range_with_len (k + 1) n)) (apart_map k (worlds cs) a) (apart_blocks cs a (k + 1) n)
    (λ x y m j e.
    let p = member_of_map k x (worlds cs) m in
    let q = member_of_blocks cs y (range_with_len (k + 1) n) j in
    let f : k ≡ q.0 = same_head k q.0 p.0 q.1 (sym p.1 ∙ e ∙ q.3) in
    let l : k + 1 ≤ q.0 = (range_within (k + 1) n q.0 q.2).0 in
    absurd (omega arith))

apart : (cs : List ℕ) → Apart (worlds cs)
apart [] = ((λ y m. absurd m), tt)
apart (c ∷ cs) = apart_blocks cs (apart cs) 0 c

pub member_at : (xs : List (List ℕ)) (j : ℕ) (d : List ℕ) → j < length xs → Member (slice_index_or xs j d) xs
member_at [] j d k = absurd (omega arith)
member_at (y ∷ ys) zero d k = inl refl
member_at (y ∷ ys) (suc j) d k = inr (member_at ys j d (omega arith))

pairs_apart : (xs : List (List ℕ)) → Apart xs → (i j : ℕ) (d : List ℕ) → i < j → j < length xs → slice_index_or xs i d ≢ slice_index_or xs j d
pairs_apart [] a i j d l k = absurd (omega arith)
pairs_apart (x ∷ xs) a i zero d l k = absurd (omega arith)
pairs_apart (x ∷ xs) a zero (suc j) d l k = a.0 (slice_index_or xs j d) (member_at xs j d (omega arith))
pairs_apart (x ∷ xs) a (suc i) (suc j) d l k = pairs_apart xs a.1 i j d (omega arith) (omega arith)

pub lists_worlds : ListsWorlds
lists_worlds = record {
  all = λ counts xs. ((λ w. contains_from_member (worlds counts) xs (listed counts xs w)), (λ c. nothing_else counts xs (member_from_contains (worlds counts) xs c)));
  once = λ counts. pairs_apart (worlds counts) (apart counts);
}

-- ---- the worlds from one on
range_split : (k a b : ℕ) → range_with_len k (a + b) ≡ range_with_len k a ++ range_with_len (k + a) b
range_split k zero b = λ i. range_with_len (z k i) (y b i)
  where
    z : (k : ℕ) → k ≡ k + 0
    z k = omega arith

    y : (b : ℕ) → 0 + b ≡ b
    y b = omega arith
range_split k (suc a) b = ap (range_with_len k) (s a b) ∙ ap (λ l. k ∷ l) (range_split (k + 1) a b) ∙ ap (λ n. k ∷ (range_with_len (k + 1) a ++ range_with_len n b)) (t k a)
  where
    s : (a b : ℕ) → suc a + b ≡ suc (a + b)
    s a b = omega arith

    t : (k a : ℕ) → k + 1 + a ≡ k + suc a
    t k a = omega arith

blocks_append : (f : ℕ → List (List ℕ)) (xs ys : List ℕ) → flat_map f (xs ++ ys) ≡ flat_map f xs ++ flat_map f ys
blocks_append f [] ys = refl
blocks_append f (x ∷ xs) ys = ap (λ l. f x ++ l) (blocks_append f xs ys) ∙ sym (append_assoc (f x) (flat_map f xs) (flat_map f ys))

map_append : (s : ℕ) (xs ys : List (List ℕ)) → map (λ l. s ∷ l) (xs ++ ys) ≡ map (λ l. s ∷ l) xs ++ map (λ l. s ∷ l) ys
map_append s [] ys = refl
map_append s (x ∷ xs) ys = ap (λ l. (s ∷ x) ∷ l) (map_append s xs ys)

pub ends_with : (counts xs : List ℕ) → IsWorld counts xs → (front : List (List ℕ)) × (worlds counts ≡ front ++ worlds_from counts xs)
ends_with [] xs w = ([], refl)
ends_with (c ∷ cs) [] w = absurd (omega (arith, w.len))
ends_with (c ∷ cs) (x ∷ xs) w = go (ends_with cs xs (IsWorld-tail c x cs xs w)) (w.each 0 (omega arith))
  where
    go : (front : List (List ℕ)) × (worlds cs ≡ front ++ worlds_from cs xs) → x < c → (front : List (List ℕ)) × (worlds (c ∷ cs) ≡ front ++ worlds_from (c ∷ cs) (x ∷ xs))
    go (front, e) l = (
      flat_map (block cs) (range_with_len 0 x) ++ map (λ ys. x ∷ ys) front,
      ap (λ n. flat_map (block cs) (range_with_len 0 n)) (three c x l)
          ∙ ap (flat_map (block cs)) (range_split 0 x (suc (c - (x + 1))))
          ∙ blocks_append (block cs) (range_with_len 0 x) (range_with_len (0 + x) (suc (c - (x + 1))))
          ∙ ap (λ n. flat_map (block cs) (range_with_len 0 x) ++ flat_map (block cs) (range_with_len n (suc (c - (x + 1))))) (z x)
          ∙ ap (λ m. flat_map (block cs) (range_with_len 0 x) ++ (m ++ flat_map (block cs) (range_with_len (x + 1) (c - (x + 1))))) (ap (map (λ ys. x ∷ ys)) e ∙ map_append x front (worlds_from cs xs))
          ∙ ap (λ m. flat_map (block cs) (range_with_len 0 x) ++ m) (append_assoc (map (λ ys. x ∷ ys) front) (map (λ ys. x ∷ ys) (worlds_from cs xs)) (flat_map (block cs) (range_with_len (x + 1) (c - (x + 1)))))
          ∙ sym (append_assoc (flat_map (block cs) (range_with_len 0 x)) (map (λ ys. x ∷ ys) front) (map (λ ys. x ∷ ys) (worlds_from cs xs) ++ flat_map (block cs) (range_with_len (x + 1) (c - (x + 1))))),
    )
      where
        z : (x : ℕ) → 0 + x ≡ x
        z x = omega arith

        three : (c x : ℕ) → x < c → c ≡ x + suc (c - (x + 1))
        three c x l = omega arith

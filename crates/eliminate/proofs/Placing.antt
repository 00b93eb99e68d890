-- Slots at places: which are live, and which of these hold a node.
use Rattle.std.proofs.Common.{◌≡◌, ◌∙◌, ℕ, suc, ◌+◌, ◌<◌, ◌≤◌, ◌⊎◌, ◌↔◌, Bool, true, false, cond, not, ◌&&◌, filter, List, [], ◌∷◌, ◌++◌, take, drop, set, length, get_or, slice_index_or, refl, sym, ap, inl, inr, arith}
use Rattle.std.proofs.lemmas.List.{take_more, take_more_set, take-take, take-append-drop, append-nil, append_assoc, length-take-le, length-drop}
use Rattle.std.proofs.lemmas.List.Elements.{filter-append}
use Rattle.node_sets.specs.declared.sets.NodeSet.{NodeSet}
use Rattle.node_sets.specs.Sets.{holds, IsIn}
use Rattle.factor_core.specs.declared.slots.Slot.{Slot}
use Rattle.eliminate.specs.Places.{slots_from, live_slots, scope_at}
use Rattle.eliminate.specs.Steps.{slots_with, slots_without}

-- tests that are passed together are one
pub one_test : (a b : Bool) → (a ≡ true → b ≡ true) → (b ≡ true → a ≡ true) → a ≡ b
one_test true true f g = refl
one_test true false f g = sym (f refl)
one_test false true f g = g refl
one_test false false f g = refl

pub not_true : (b : Bool) → (b ≡ true → ⊥) → b ≡ false
not_true true h = absurd (h refl)
not_true false h = refl

pub from_append : (p : ℕ → Bool) (i : ℕ) (xs ys : List Slot) → slots_from p i (xs ++ ys) ≡ slots_from p i xs ++ slots_from p (i + length xs) ys
from_append p i [] ys = ap (λ k. slots_from p k ys) (let e : i ≡ i + 0 = omega arith in e)
from_append p i (x ∷ xs) ys =
    let e : suc i + length xs ≡ i + suc (length xs) = omega arith in
    ap (λ l. cond (p i) (x ∷ []) [] ++ l) (from_append p (suc i) xs ys ∙ ap (λ k. slots_from p (suc i) xs ++ slots_from p k ys) e)
    ∙ sym (append_assoc (cond (p i) (x ∷ []) []) (slots_from p (suc i) xs) (slots_from p (i + suc (length xs)) ys))

-- none of the places passes
pub from_none : (p : ℕ → Bool) (i : ℕ) (xs : List Slot) → ((k : ℕ) → i ≤ k → k < i + length xs → p k ≡ false) → slots_from p i xs ≡ []
from_none p i [] h = refl
from_none p i (x ∷ xs) h = ap (λ b. cond b (x ∷ []) [] ++ slots_from p (suc i) xs) (h i (omega arith) (omega arith)) ∙ from_none p (suc i) xs (λ k a b. h k (omega arith) (omega arith))

-- all pass
pub from_all : (p : ℕ → Bool) (i : ℕ) (xs : List Slot) → ((k : ℕ) → i ≤ k → k < i + length xs → p k ≡ true) → slots_from p i xs ≡ xs
from_all p i [] h = refl
from_all p i (x ∷ xs) h = ap (λ b. cond b (x ∷ []) [] ++ slots_from p (suc i) xs) (h i (omega arith) (omega arith)) ∙ ap (λ l. x ∷ l) (from_all p (suc i) xs (λ k a b. h k (omega arith) (omega arith)))

-- one test for another
pub from_same : (p q : ℕ → Bool) (i : ℕ) (xs : List Slot) → ((k : ℕ) → i ≤ k → k < i + length xs → p k ≡ q k) → slots_from p i xs ≡ slots_from q i xs
from_same p q i [] h = refl
from_same p q i (x ∷ xs) h = ap (λ b. cond b (x ∷ []) [] ++ slots_from p (suc i) xs) (h i (omega arith) (omega arith)) ∙ ap (λ l. cond (q i) (x ∷ []) [] ++ l) (from_same p q (suc i) xs (λ k a b. h k (omega arith) (omega arith)))

-- from a place on none passes
pub from_front : (p : ℕ → Bool) (n : ℕ) (xs : List Slot) → n ≤ length xs → ((k : ℕ) → n ≤ k → k < length xs → p k ≡ false) → slots_from p 0 xs ≡ slots_from p 0 (take n xs)
from_front p n xs l h =
    let front = length-take-le n xs l in
    let back = length-drop n xs in
    ap (slots_from p 0) (sym (take-append-drop n xs))
    ∙ from_append p 0 (take n xs) (drop n xs)
    ∙ ap (λ ys. slots_from p 0 (take n xs) ++ ys) (from_none p (0 + length (take n xs)) (drop n xs) (λ k a b. h k (omega (arith, a, front)) (omega (arith, b, front, back, l))))
    ∙ append-nil (slots_from p 0 (take n xs))

-- the next place that passes
pub from_more : (p : ℕ → Bool) (n place : ℕ) (xs : List Slot) (d : Slot) → n ≤ place → place < length xs → ((k : ℕ) → n ≤ k → k < place → p k ≡ false) → p place ≡ true
    → slots_from p 0 (take (place + 1) xs) ≡ slots_from p 0 (take n xs) ++ get_or xs place d ∷ []
from_more p n place xs d a l h t =
    let long = length-take-le place xs (omega arith) in
    let here : 0 + length (take place xs) ≡ place = omega (arith, long) in
    ap (slots_from p 0) (take_more xs place d l)
    ∙ from_append p 0 (take place xs) (get_or xs place d ∷ [])
    ∙ ap (λ k. slots_from p 0 (take place xs) ++ slots_from p k (get_or xs place d ∷ [])) here
    ∙ ap (λ b. slots_from p 0 (take place xs) ++ (cond b (get_or xs place d ∷ []) [] ++ [])) t
    ∙ ap (λ ys. ys ++ get_or xs place d ∷ [])
    (from_front p n (take place xs) (omega (arith, a, long)) (λ k b c. h k b (omega (arith, c, long))) ∙ ap (slots_from p 0) (take-take n place xs a))

-- those that pass another test too, which tells of those that pass the first whether they hold the
-- node
pub from_filter : (p h : ℕ → Bool) (v i : ℕ) (f : Bool → Bool) (xs : List Slot) → ((k : ℕ) → k < length xs → p (i + k) ≡ true → h (i + k) ≡ scope_at xs k v)
    → filter (λ s. f (holds s.scope v)) (slots_from p i xs) ≡ slots_from (λ k. p k && f (h k)) i xs
from_filter p h v i f [] e = refl
from_filter p h v i f (x ∷ xs) e =
    let first : i + 0 ≡ i = omega arith in
    filter-append (λ (s : Slot). f (holds s.scope v)) (cond (p i) (x ∷ []) []) (slots_from p (suc i) xs)
    ∙ ap (λ l. l ++ filter (λ (s : Slot). f (holds s.scope v)) (slots_from p (suc i) xs)) (one (p i) (λ t. sym (e 0 (omega arith) (ap p first ∙ t)) ∙ ap h first))
    ∙ ap (λ l. cond (p i && f (h i)) (x ∷ []) [] ++ l) (from_filter p h v (suc i) f xs (λ k l t. let n : suc i + k ≡ i + suc k = omega arith in ap h n ∙ e (suc k) (omega arith) (ap p (sym n) ∙ t)))
  where
    one : (b : Bool) → (b ≡ true → holds x.scope v ≡ h i) → filter (λ (s : Slot). f (holds s.scope v)) (cond b (x ∷ []) []) ≡ cond (b && f (h i)) (x ∷ []) []
    one true same = ap (λ t. cond (f t) (x ∷ []) []) (same refl)
    one false same = refl

-- ---- the steps of the code
-- the slot at the next place is listed
pub gather_more : (p : ℕ → Bool) (n next place : ℕ) (slots found : List Slot) (d : Slot) → n < length found → next ≤ place → place < length slots → ((k : ℕ) → next ≤ k → k < place → p k ≡ false) → p place ≡ true
    → take n found ≡ slots_from p 0 (take next slots) → take (n + 1) (set found n (get_or slots place d)) ≡ slots_from p 0 (take (place + 1) slots)
gather_more p n next place slots found d room a l h t so_far =
    take_more_set found n (get_or slots place d) room ∙ ap (λ ys. ys ++ get_or slots place d ∷ []) so_far ∙ sym (from_more p next place slots d a l h t)

-- one place more is live
pub within_more : (live new : NodeSet) (made : ℕ) → ((k : ℕ) → IsIn live k → k < made) → ((k : ℕ) → IsIn new k ↔ (IsIn live k ⊎ (k ≡ made))) → (k : ℕ) → IsIn new k → k < made + 1
within_more live new made w e k t = here ((e k).0 t)
  where
    here : (IsIn live k ⊎ (k ≡ made)) → k < made + 1
    here (inl m) = omega (arith, w k m)
    here (inr m) = omega (arith, m)

pub live_more : (live new : NodeSet) (made : ℕ) (slots : List Slot) (s : Slot) → made < length slots → ((k : ℕ) → IsIn new k ↔ (IsIn live k ⊎ (k ≡ made)))
    → live_slots new (made + 1) (set slots made s) ≡ live_slots live made slots ++ s ∷ []
live_more live new made slots s l e =
    let long = length-take-le made slots (omega arith) in
    let here : 0 + length (take made slots) ≡ made = omega (arith, long) in
    ap (slots_from (holds new) 0) (take_more_set slots made s l)
    ∙ from_append (holds new) 0 (take made slots) (s ∷ [])
    ∙ ap (λ k. slots_from (holds new) 0 (take made slots) ++ slots_from (holds new) k (s ∷ [])) here
    ∙ ap (λ b. slots_from (holds new) 0 (take made slots) ++ (cond b (s ∷ []) [] ++ [])) ((e made).1 (inr refl))
    ∙ ap (λ ys. ys ++ s ∷ []) (from_same (holds new) (holds live) 0 (take made slots)
    (λ k a b. one_test (holds new k) (holds live k) (λ t. old k (omega (arith, b, long)) ((e k).0 t)) (λ t. (e k).1 (inl t))))
  where
    old : (k : ℕ) → k < made → (IsIn live k ⊎ (k ≡ made)) → holds live k ≡ true
    old k a (inl m) = m
    old k a (inr m) = absurd (omega (arith, a, m))

-- no more than there are
pub from_few : (p : ℕ → Bool) (i : ℕ) (xs : List Slot) → length (slots_from p i xs) ≤ length xs
from_few p i [] = omega arith
from_few p i (x ∷ xs) = here (p i) (from_few p (suc i) xs)
  where
    here : (b : Bool) → length (slots_from p (suc i) xs) ≤ length xs → length (cond b (x ∷ []) [] ++ slots_from p (suc i) xs) ≤ suc (length xs)
    here true l = omega (arith, l)
    here false l = omega (arith, l)

both_pass : (a b : Bool) → a ≡ true → b ≡ true → a && b ≡ true
both_pass true true f g = refl
both_pass true false f g = g
both_pass false b f g = f

pub first_passes : (a b : Bool) → a && b ≡ true → a ≡ true
first_passes true b h = refl
first_passes false b h = h

pub second_passes : (a b : Bool) → a && b ≡ true → b ≡ true
second_passes true b h = h
second_passes false b h = absurd (let g = h in cc)

not_passes : (b : Bool) → (b ≡ true → ⊥) → not b ≡ true
not_passes true h = absurd (h refl)
not_passes false h = refl

pub passes_not : (b : Bool) → not b ≡ true → b ≡ true → ⊥
passes_not true h k = absurd (let g = h in cc)
passes_not false h k = absurd (let g = k in cc)

pub from_nought : (k : ℕ) → 0 + k ≡ k
from_nought k = omega arith

-- where the node's places tell the live slots that hold it
module _ (at : List NodeSet) (live held : NodeSet) (made node : ℕ) (slots : List Slot)
    (tells : (k : ℕ) (none : NodeSet) → IsIn live k → holds (slice_index_or at node none) k ≡ scope_at (take made slots) k node)
    (is : (k : ℕ) (none : NodeSet) → IsIn held k ↔ (IsIn live k × IsIn (slice_index_or at node none) k)) where
  abbrev here : ℕ → Bool
  here = holds (slice_index_or at node live)

  -- the live slots that hold the node
  pub held_slots : slots_from (holds held) 0 (take made slots) ≡ slots_with node (live_slots live made slots)
  held_slots =
      from_same (holds held) (λ k. holds live k && here k) 0 (take made slots) (λ k a b. one_test (holds held k) (holds live k && here k)
      (λ t. both_pass (holds live k) (here k) ((is k live).0 t).0 ((is k live).0 t).1)
      (λ t. (is k live).1 (first_passes (holds live k) (here k) t, second_passes (holds live k) (here k) t)))
      ∙ sym (from_filter (holds live) here node 0 (λ b. b) (take made slots) (λ k l t. ap here (from_nought k) ∙ tells k live (sym (ap (holds live) (from_nought k)) ∙ t)))

  -- and the others
  pub left_slots : (left : NodeSet) → ((k : ℕ) → IsIn left k ↔ (IsIn live k × (IsIn held k → ⊥))) → live_slots left made slots ≡ slots_without node (live_slots live made slots)
  left_slots left e =
      from_same (holds left) (λ k. holds live k && not (here k)) 0 (take made slots) (λ k a b. one_test (holds left k) (holds live k && not (here k))
      (λ t. both_pass (holds live k) (not (here k)) ((e k).0 t).0 (not_passes (here k) (λ h. ((e k).0 t).1 ((is k live).1 (((e k).0 t).0, h)))))
      (λ t. (e k).1 (first_passes (holds live k) (not (here k)) t, λ h. passes_not (here k) (second_passes (holds live k) (not (here k)) t) ((is k live).0 h).1)))
      ∙ sym (from_filter (holds live) here node 0 not (take made slots) (λ k l t. ap here (from_nought k) ∙ tells k live (sym (ap (holds live) (from_nought k)) ∙ t)))

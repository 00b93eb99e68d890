-- Members of lists, and of the first so many of a list.
use Rattle.std.proofs.Common.{◌≡◌, ◌∙◌, ◌⊎◌, ℕ, zero, suc, ◌+◌, ◌<◌, ◌≤◌, min, Bool, true, false, cond, filter, List, [], ◌∷◌, Contains, length, take, slice_index, refl, sym, ap, subst, inl, inr, arith, length-take}
use Rattle.std.proofs.Math.Decide.{ℕ_discrete}
use Rattle.std.proofs.lemmas.List.{get_or_default, get_or-take}
use Rattle.std.specs.List.{range_with_len}
use Rattle.maid_model.specs.Nodes.{IsDecision, decisions_of, is_decision, node_at, numbers_of}
use Rattle.maid_model.specs.Views.{NodeView}

pub after : (y : ℕ) (ys : List ℕ) (x : ℕ) → Contains ys x → Contains (y ∷ ys) x
after y ys x c = (suc c.0, omega (arith, c.1), c.2)

pub head_or_rest : (y : ℕ) (ys : List ℕ) (x : ℕ) → Contains (y ∷ ys) x → (y ≡ x) ⊎ Contains ys x
head_or_rest y ys x (zero, l, e) = inl e
head_or_rest y ys x (suc k, l, e) = inr (k, omega arith, e)

range_has : (k n v : ℕ) → k ≤ v → v < k + n → Contains (range_with_len k n) v
range_has k zero v h l = absurd (omega arith)
range_has k (suc n) v h l = go (ℕ_discrete k v) (λ m. range_has (k + 1) n v m (omega arith))
  where
    next : (k v : ℕ) → k ≤ v → (k ≡ v → ⊥) → k + 1 ≤ v
    next k v h n = omega arith

    some : (k n : ℕ) → 0 < length (range_with_len k (suc n))
    some k n = omega arith

    go : Dec (k ≡ v) → (k + 1 ≤ v → Contains (range_with_len (k + 1) n) v) → Contains (k ∷ range_with_len (k + 1) n) v
    go (yes e) r = (0, some k n, e)
    go (no m) r = after k (range_with_len (k + 1) n) v (r (next k v h m))

filter_has : (p : ℕ → Bool) (x : ℕ) (xs : List ℕ) → Contains xs x → p x ≡ true → Contains (filter p xs) x
filter_has p x [] c e = absurd (omega (arith, c.1))
filter_has p x (y ∷ ys) c e = go (p y) refl (head_or_rest y ys x c) (λ m. filter_has p x ys m e)
  where
    some : (zs : List ℕ) → 0 < length (y ∷ zs)
    some zs = omega arith

    go : (b : Bool) → p y ≡ b → (y ≡ x) ⊎ Contains ys x → (Contains ys x → Contains (filter p ys) x) → Contains (cond b (y ∷ filter p ys) (filter p ys)) x
    go true h (inl f) r = (0, some (filter p ys), f)
    go true h (inr m) r = after y (filter p ys) x (r m)
    go false h (inl f) r = absurd (let clash : true ≡ false = sym e ∙ ap p (sym f) ∙ h in (cc))
    go false h (inr m) r = r m

pub decision_listed : (nodes : List NodeView) (v : ℕ) → IsDecision nodes v → Contains (decisions_of nodes) v
decision_listed nodes v d = filter_has (λ u. is_decision (node_at nodes u).kind) v (numbers_of nodes) (range_has 0 (length nodes) v (omega arith) (let l : v < length nodes = d.within in omega arith)) (ap is_decision d.kind)

-- ---- the first so many
pub taken_whole : (xs : List ℕ) (n : ℕ) → length xs ≤ n → take n xs ≡ xs
taken_whole [] zero h = refl
taken_whole [] (suc n) h = refl
taken_whole (x ∷ xs) zero h = absurd (omega arith)
taken_whole (x ∷ xs) (suc n) h = ap (λ l. x ∷ l) (taken_whole xs n (omega arith))

-- fewer of the first members are among more of them
pub taken_more : (xs : List ℕ) (k n x : ℕ) → k ≤ n → Contains (take k xs) x → Contains (take n xs) x
taken_more xs zero n x h c = absurd (omega (arith, c.1))
taken_more xs (suc k) zero x h c = absurd (omega arith)
taken_more [] (suc k) (suc n) x h c = absurd (omega (arith, c.1))
taken_more (y ∷ xs) (suc k) (suc n) x h (zero, l, e) = (0, omega arith, e)
taken_more (y ∷ xs) (suc k) (suc n) x h (suc i, l, e) = after y (take n xs) x (taken_more xs k n x (omega arith) (i, omega arith, e))

-- a member of the first ones has a place before their end
pub taken_place : (xs : List ℕ) (n x : ℕ) → Contains (take n xs) x → (k : ℕ) × (k < n) × (k < length xs) × (slice_index xs k ≡ x)
taken_place xs n x c =
    let within : c.0 < min n (length xs) = subst (λ m. c.0 < m) (length-take n xs) c.1 in
    let short : c.0 < n = left c.0 n (length xs) within in
    let inside : c.0 < length xs = right c.0 n (length xs) within in
    (c.0, short, inside, get_or_default xs c.0 0 x inside ∙ sym (get_or-take n xs c.0 x short) ∙ c.2)
  where
    left : (k a b : ℕ) → k < min a b → k < a
    left k a b h = omega arith

    right : (k a b : ℕ) → k < min a b → k < b
    right k a b h = omega arith

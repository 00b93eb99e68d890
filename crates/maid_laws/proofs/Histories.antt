-- A start as a list of states, and as a set of nodes with a world.
use Rattle.std.proofs.Common.{◌≡◌, ◌∙◌, ℕ, zero, suc, ◌<◌, ◌≤◌, Bool, true, false, cond, ◌||◌, ◌&&◌, eqb, List, [], ◌∷◌, map, take, drop, length, slice_index, refl, sym, ap, subst, inl, inr, arith, ℤ, pos, ◌*ℤ◌}
use Rattle.maid_model.specs.Subgames.{agrees, world_of_history}
use Rattle.finite_sums.specs.Sums.{World, product_over}
use Rattle.finite_sums.specs.Members.{Among}
use Rattle.finite_sums.proofs.Ints.{one_mul}
use Rattle.maid_laws.proofs.Booleans.{eqb_yes, eqb_no, eqb_same}
use Rattle.maid_laws.proofs.Basis.{product_over-cong}
use Rattle.maid_laws.proofs.Collapse.{Apart}
use Rattle.maid_laws.proofs.Members.{among_index, not_among}

-- v is one of the first nodes of the list, of which the history has states
abbrev pub in_start : List ℕ → List ℕ → ℕ → Bool
in_start order [] v = false
in_start [] (x ∷ history) v = false
in_start (u ∷ order) (x ∷ history) v = eqb u v || in_start order history v

-- the second of two tests
or_right : (a : Bool) {b : Bool} → b ≡ true → (a || b) ≡ true
or_right true h = refl
or_right false h = h

-- a test that fails does not hold
no_true : false ≡ true → ⊥
no_true e = cc

-- ---- places of a start
pub start_at : (order history : List ℕ) (v : ℕ) → in_start order history v ≡ true → (i : ℕ) × (i < length history) × (i < length order) × (slice_index order i ≡ v)
start_at order [] v h = absurd (no_true h)
start_at [] (x ∷ history) v h = absurd (no_true h)
start_at (u ∷ order) (x ∷ history) v h = go (eqb u v) refl h (λ k. start_at order history v k)
  where
    go : (b : Bool) → eqb u v ≡ b → (b || in_start order history v) ≡ true → (in_start order history v ≡ true → (i : ℕ) × (i < length history) × (i < length order) × (slice_index order i ≡ v))
        → (i : ℕ) × (i < suc (length history)) × (i < suc (length order)) × (slice_index (u ∷ order) i ≡ v)
    go true e h r = (0, omega arith, omega arith, eqb_same u v e)
    go false e h r = let k = r h in let a : k.0 < length history = k.1 in let b : k.0 < length order = k.2 in (suc k.0, omega arith, omega arith, k.3)

-- the first nodes are in the start
pub in_start_at : (order history : List ℕ) (i : ℕ) → i < length history → i < length order → in_start order history (slice_index order i) ≡ true
in_start_at order [] i l m = absurd (omega arith)
in_start_at [] (x ∷ history) i l m = absurd (omega arith)
in_start_at (u ∷ order) (x ∷ history) zero l m = ap (λ b. b || in_start order history u) (eqb_yes u u refl)
in_start_at (u ∷ order) (x ∷ history) (suc i) l m = or_right (eqb u (slice_index order i)) (in_start_at order history i (omega arith) (omega arith))

-- the history's world has its states
pub history_at : (order history : List ℕ) → Apart order → (i : ℕ) → i < length history → i < length order → world_of_history order history (slice_index order i) ≡ slice_index history i
history_at order [] a i l m = absurd (omega arith)
history_at [] (x ∷ history) a i l m = absurd (omega arith)
history_at (u ∷ order) (x ∷ history) a zero l m = ap (λ b. cond b x (world_of_history order history u)) (eqb_yes u u refl)
history_at (u ∷ order) (x ∷ history) a (suc i) l m =
    ap (λ b. cond b x (world_of_history order history (slice_index order i))) (eqb_no u (slice_index order i) (λ e. not_among u order a.0 (subst (λ z. Among z order) (sym e) (among_index order i (omega arith)))))
    ∙ history_at order history a.1 i (omega arith) (omega arith)

-- the history's world has states that there are
pub history_range : (count : ℕ → ℕ) → ((v : ℕ) → 0 < count v) → (order history : List ℕ) → ((i : ℕ) → i < length history → slice_index history i < count (slice_index order i)) → (v : ℕ) → world_of_history order history v < count v
history_range count has order [] each v = has v
history_range count has [] (x ∷ history) each v = has v
history_range count has (u ∷ order) (x ∷ history) each v = go (eqb u v) refl (history_range count has order history (λ i l. each (suc i) (omega arith)) v)
  where
    go : (b : Bool) → eqb u v ≡ b → world_of_history order history v < count v → cond b x (world_of_history order history v) < count v
    go true e r = subst (λ z. x < count z) (eqb_same u v e) (each 0 (omega arith))
    go false e r = r

-- ---- agreeing
pub agrees_at : (order history : List ℕ) (w : World) → agrees order history w ≡ true → (i : ℕ) → i < length history → i < length order → w (slice_index order i) ≡ slice_index history i
agrees_at order [] w h i l m = absurd (omega arith)
agrees_at [] (x ∷ history) w h i l m = absurd (omega arith)
agrees_at (u ∷ order) (x ∷ history) w h zero l m = go (eqb (w u) x) refl h
  where
    go : (b : Bool) → eqb (w u) x ≡ b → (b && agrees order history w) ≡ true → w u ≡ x
    go true e k = eqb_same (w u) x e
    go false e k = absurd (no_true k)
agrees_at (u ∷ order) (x ∷ history) w h (suc i) l m = agrees_at order history w (go (eqb (w u) x) h) i (omega arith) (omega arith)
  where
    go : (b : Bool) → (b && agrees order history w) ≡ true → agrees order history w ≡ true
    go true k = k
    go false k = absurd (no_true k)

-- and a world with its states agrees
pub agrees_all : (order history : List ℕ) (w : World) → ((i : ℕ) → i < length history → i < length order → w (slice_index order i) ≡ slice_index history i) → agrees order history w ≡ true
agrees_all order [] w h = refl
agrees_all [] (x ∷ history) w h = refl
agrees_all (u ∷ order) (x ∷ history) w h =
    ap (λ b. b && agrees order history w) (eqb_yes (w u) x (h 0 (omega arith) (omega arith)))
    ∙ agrees_all order history w (λ i l m. h (suc i) (omega arith) (omega arith))

-- ---- the nodes after a start
pub start_product : (f : ℕ → ℤ) (order history : List ℕ) → Apart order → product_over (λ v. cond (in_start order history v) (pos 1) (f v)) order ≡ product_over f (drop (length history) order)
start_product f [] [] a = refl
start_product f (u ∷ order) [] a = refl
start_product f [] (x ∷ history) a = refl
start_product f (u ∷ order) (x ∷ history) a =
    (λ i. cond (eqb_yes u u refl i || in_start order history u) (pos 1) (f u) *ℤ product_over-cong (λ v. cond (eqb u v || in_start order history v) (pos 1) (f v)) (λ v. cond (in_start order history v) (pos 1) (f v)) order
    (λ v m. ap (λ b. cond (b || in_start order history v) (pos 1) (f v)) (eqb_no u v (λ e. not_among u order a.0 (subst (λ z. Among z order) (sym e) m)))) i)
    ∙ one_mul (product_over (λ v. cond (in_start order history v) (pos 1) (f v)) order)
    ∙ start_product f order history a.1

-- ---- the states of a world at the first nodes
pub at_map : (w : World) (order : List ℕ) (i j : ℕ) → j < i → j < length order → slice_index (map w (take i order)) j ≡ w (slice_index order j)
at_map w [] i j l m = absurd (omega arith)
at_map w (u ∷ order) zero j l m = absurd (omega arith)
at_map w (u ∷ order) (suc i) zero l m = refl
at_map w (u ∷ order) (suc i) (suc j) l m = at_map w order i j (omega arith) (omega arith)

-- there are as many
pub length_first : (w : World) (order : List ℕ) (i : ℕ) → i ≤ length order → length (map w (take i order)) ≡ i
length_first w [] zero l = refl
length_first w [] (suc i) l = absurd (omega arith)
length_first w (u ∷ order) zero l = refl
length_first w (u ∷ order) (suc i) l = ap suc (length_first w order i (omega arith))

-- they extend a history with whose states the world agrees
pub extends_map : (w : World) (order history : List ℕ) (i : ℕ) → length history ≤ i → i ≤ length order → ((j : ℕ) → j < length history → w (slice_index order j) ≡ slice_index history j) → take (length history) (map w (take i order)) ≡ history
extends_map w order [] i l m h = refl
extends_map w order (x ∷ history) zero l m h = absurd (omega arith)
extends_map w [] (x ∷ history) (suc i) l m h = absurd (omega arith)
extends_map w (u ∷ order) (x ∷ history) (suc i) l m h = λ k. h 0 (omega arith) k ∷ extends_map w order history i (omega arith) (omega arith) (λ j n. h (suc j) (omega arith)) k

-- a place among the first
pub at_take : (xs : List ℕ) (k j : ℕ) → j < k → slice_index (take k xs) j ≡ slice_index xs j
at_take [] zero j l = absurd (omega arith)
at_take [] (suc k) j l = refl
at_take (x ∷ xs) zero j l = absurd (omega arith)
at_take (x ∷ xs) (suc k) zero l = refl
at_take (x ∷ xs) (suc k) (suc j) l = at_take xs k j (omega arith)

-- and only then
pub map_extends : (w : World) (order history : List ℕ) (i : ℕ) → length history ≤ i → i ≤ length order → take (length history) (map w (take i order)) ≡ history → (j : ℕ) → j < length history → w (slice_index order j) ≡ slice_index history j
map_extends w order history i l m e j n =
    sym (at_map w order i j (omega arith) (omega arith)) ∙ sym (at_take (map w (take i order)) (length history) j n) ∙ ap (λ l. slice_index l j) e

-- a member of the first k of a list
pub among_take : (xs : List ℕ) (k x : ℕ) → Among x (take k xs) → (j : ℕ) × (j < k) × (j < length xs) × (slice_index xs j ≡ x)
among_take [] zero x m = absurd m
among_take [] (suc k) x m = absurd m
among_take (y ∷ xs) zero x m = absurd m
among_take (y ∷ xs) (suc k) x (inl e) = (0, omega arith, omega arith, sym e)
among_take (y ∷ xs) (suc k) x (inr m) = let r = among_take xs k x m in let a : r.0 < k = r.1 in let b : r.0 < length xs = r.2 in (suc r.0, omega arith, omega arith, r.3)

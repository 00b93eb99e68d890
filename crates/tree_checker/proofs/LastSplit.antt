-- The last node of an order, and the first after it, are nodes.
use Rattle.std.proofs.Common.{◌≡◌, ◌∙◌, ℕ, Option, None, Some, zero, suc, ◌-◌, ◌<◌, List, [], ◌∷◌, ◌++◌, length, take, slice_index_or, refl, sym, ap, subst, arith}
use Rattle.std.proofs.lemmas.List.{append-nil, append_assoc}
use Rattle.maid_model.specs.Views.{NodeView}
use Rattle.tree_checker.specs.declared.settings.Before.{Before}
use Rattle.tree_checker.specs.Walks.{IsDownward, with_before}

pub down_front : (nodes : List NodeView) (order tail : List ℕ) → IsDownward nodes (order ++ tail) → (k : ℕ) → k < length order → slice_index_or order k 0 < length nodes
down_front nodes [] tail h k l = absurd (omega arith)
down_front nodes (v ∷ vs) tail h zero l = h.0
down_front nodes (v ∷ vs) tail h (suc k) l = down_front nodes vs tail h.2 k (omega arith)

pub last_inside : (nodes : List NodeView) (order tail : List ℕ) → 0 < length order → IsDownward nodes (order ++ tail) → slice_index_or order (length order - 1) 0 < length nodes
last_inside nodes order tail some h = down_front nodes order tail h (length order - 1) (less (length order) some)
  where
    less : (n : ℕ) → 0 < n → n - 1 < n
    less n h = omega arith

pub tail_inside : (nodes : List NodeView) (order tail : List ℕ) → 0 < length tail → IsDownward nodes (order ++ tail) → slice_index_or tail 0 0 < length nodes
tail_inside nodes [] tail some h = down_front nodes tail [] (subst (IsDownward nodes) (sym (end tail)) h) 0 some
  where
    end : (l : List ℕ) → l ++ [] ≡ l
    end [] = refl
    end (x ∷ xs) = ap (λ l. x ∷ l) (end xs)
tail_inside nodes (v ∷ vs) tail some h = tail_inside nodes vs tail some h.2

-- the node before the last, taken off the front
pub before_whole : (front order : List ℕ) (before : Option Before) (vs : List ℕ) → front ++ with_before before [] ≡ order → front ++ with_before before vs ≡ order ++ vs
before_whole front order None vs e = ap (λ l. l ++ vs) (sym (append-nil front) ∙ e)
before_whole front order (Some before) vs e = sym (append_assoc front (before.node ∷ []) vs) ∙ ap (λ l. l ++ vs) e

pub front_inside : (nodes : List NodeView) (order tail : List ℕ) (n : ℕ) → IsDownward nodes (order ++ tail) → (k : ℕ) → k < length (take n order) → slice_index_or (take n order) k 0 < length nodes
front_inside nodes [] tail zero h k l = absurd (omega (arith, l))
front_inside nodes [] tail (suc n) h k l = absurd (omega (arith, l))
front_inside nodes (v ∷ vs) tail zero h k l = absurd (omega (arith, l))
front_inside nodes (v ∷ vs) tail (suc n) h zero l = h.0
front_inside nodes (v ∷ vs) tail (suc n) h (suc k) l = front_inside nodes vs tail n h.2 k (omega (arith, l))

-- an order is its front and its last node
last_off : (l : List ℕ) (n : ℕ) → length l ≡ suc n → take n l ++ (slice_index_or l n 0 ∷ []) ≡ l
last_off [] n e = absurd (omega (arith, e))
last_off (x ∷ xs) zero e = ap (λ l. x ∷ l) (empty xs (omega (arith, e)))
  where
    empty : (ys : List ℕ) → length ys ≡ 0 → [] ≡ ys
    empty [] e = refl
    empty (y ∷ ys) e = absurd (omega (arith, e))
last_off (x ∷ xs) (suc n) e = ap (λ l. x ∷ l) (last_off xs n (omega (arith, e)))

one_only : (l : List ℕ) → 0 < length l → length l < 2 → slice_index_or l 0 0 ∷ [] ≡ l
one_only [] h k = absurd (omega (arith, h))
one_only (x ∷ []) h k = refl
one_only (x ∷ y ∷ ys) h k = absurd (omega (arith, k))

pub ends_whole : (order tail : List ℕ) → 0 < length order → 0 < length tail → length tail < 2
    → take (length order - 1) order ++ (slice_index_or order (length order - 1) 0 ∷ slice_index_or tail 0 0 ∷ []) ≡ order ++ tail
ends_whole order tail some h k =
    sym (append_assoc (take (length order - 1) order) (slice_index_or order (length order - 1) 0 ∷ []) (slice_index_or tail 0 0 ∷ []))
    ∙ (λ i. last_off order (length order - 1) (back (length order) some) i ++ one_only tail h k i)
  where
    back : (n : ℕ) → 0 < n → n ≡ suc (n - 1)
    back n h = omega arith

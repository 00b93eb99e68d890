-- The first node of a walk and the others, as the code takes them.
use Rattle.std.proofs.Common.{◌≡◌, ◌∙◌, ℕ, suc, ◌-◌, ◌^◌, ◌<◌, ◌≤◌, List, [], ◌∷◌, ◌++◌, length, take, drop, refl, sym, ap, subst, arith, ℤ, pos, ◌+ℤ◌, nat_abs, slice_index_or, FitsSigned}
use Rattle.std.proofs.lemmas.Int.{fits_signed_from_abs}
use Rattle.std.proofs.lemmas.List.{take_all}
use Rattle.std.specs.Int.{w128}
use Rattle.maid_model.specs.Diagrams.{greatest_number}
use Rattle.maid_model.specs.Views.{NodeView, RuleView}
use Rattle.maid_model.specs.Worlds.{world_of}
use Rattle.node_sets.specs.declared.sets.NodeSet.{NodeSet}
use Rattle.tree_checker.specs.Walks.{HasRoomToWalk, IsDownward, gain_with}

pub order_opened : (order : List ℕ) → 0 < length order → order ≡ slice_index_or order 0 0 ∷ take (length order - 1) (drop 1 order)
order_opened [] l = absurd (omega arith)
order_opened (v ∷ vs) l = ap (λ l. v ∷ l) (sym (take_all (length (v ∷ vs) - 1) vs (less (length vs))))
  where
    less : (n : ℕ) → n ≤ suc n - 1
    less n = omega arith

pub shorter : (order : List ℕ) → 0 < length order → length (take (length order - 1) (drop 1 order)) < length order
shorter order l = subst (λ (xs : List ℕ). length (take (length order - 1) (drop 1 order)) < length xs) (sym (order_opened order l)) (omega arith)

pub down_opened : (nodes : List NodeView) (order : List ℕ) → 0 < length order → IsDownward nodes order → IsDownward nodes (slice_index_or order 0 0 ∷ take (length order - 1) (drop 1 order))
down_opened nodes order l h = subst (IsDownward nodes) (order_opened order l) h

-- the same with nodes that stand after those of the order
pub whole_opened : (order tail : List ℕ) → 0 < length order → order ++ tail ≡ slice_index_or order 0 0 ∷ (take (length order - 1) (drop 1 order) ++ tail)
whole_opened order tail l = ap (λ l. l ++ tail) (order_opened order l)

pub down_with : (nodes : List NodeView) (order tail : List ℕ) → 0 < length order → IsDownward nodes (order ++ tail) → IsDownward nodes (slice_index_or order 0 0 ∷ (take (length order - 1) (drop 1 order) ++ tail))
down_with nodes order tail l h = subst (IsDownward nodes) (whole_opened order tail l) h

pub room_with : (nodes : List NodeView) (p : List RuleView) (out : ℕ) (order tail : List ℕ) → 0 < length order → (m : ℕ) (q r : ℤ) → q ≡ r → (gains : List ℤ) (masses : List ℕ)
    → HasRoomToWalk nodes p out (order ++ tail) m r gains masses → HasRoomToWalk nodes p out (slice_index_or order 0 0 ∷ (take (length order - 1) (drop 1 order) ++ tail)) m q gains masses
room_with nodes p out order tail l m q r e gains masses h =
    subst (λ z. HasRoomToWalk nodes p out (slice_index_or order 0 0 ∷ (take (length order - 1) (drop 1 order) ++ tail)) m z gains masses) (sym e) (subst (λ vs. HasRoomToWalk nodes p out vs m r gains masses) (whole_opened order tail l) h)

-- nothing stands before the tail
pub none_before : (order tail : List ℕ) → length order < 1 → order ++ tail ≡ tail
none_before [] tail h = refl
none_before (v ∷ vs) tail h = absurd (omega arith)

pub small_fits : (z : ℤ) → nat_abs z ≤ greatest_number → FitsSigned w128 z
small_fits z h = fits_signed_from_abs w128 z (less (nat_abs z) h)
  where
    less : (n : ℕ) → n ≤ greatest_number → n < 2 ^ 127
    less n h = omega arith

pub room_same : (nodes : List NodeView) (p : List RuleView) (out : ℕ) (vs : List ℕ) (m : ℕ) (gains : List ℤ) (masses : List ℕ) {q r : ℤ} → r ≡ q → HasRoomToWalk nodes p out vs m q gains masses → HasRoomToWalk nodes p out vs m r gains masses
room_same nodes p out vs m gains masses e h = subst (λ z. HasRoomToWalk nodes p out vs m z gains masses) (sym e) h

pub gains_same : (nodes : List NodeView) (p : List RuleView) (out : ℕ) (marks : NodeSet) (vs : List ℕ) (m : ℕ) (xs : List ℕ) (gains gains1 : List ℤ) {q r : ℤ} → r ≡ q
    → ((c : ℕ) → slice_index_or gains1 c (pos 0) ≡ slice_index_or gains c (pos 0) +ℤ gain_with nodes p out marks vs m r c (world_of xs))
    → (c : ℕ) → slice_index_or gains1 c (pos 0) ≡ slice_index_or gains c (pos 0) +ℤ gain_with nodes p out marks vs m q c (world_of xs)
gains_same nodes p out marks vs m xs gains gains1 e h c = h c ∙ ap (λ z. slice_index_or gains c (pos 0) +ℤ gain_with nodes p out marks vs m z c (world_of xs)) e

pub moved : (P : List ℕ → List ℤ → List ℕ → Type 0) {xs ys : List ℕ} {gs hs : List ℤ} {ms ns : List ℕ} → xs ≡ ys → gs ≡ hs → ms ≡ ns → P ys hs ns → P xs gs ms
moved P {xs} {ys} {gs} {hs} {ms} {ns} e f g h = subst (λ l. P l gs ms) (sym e) (subst (λ l. P ys l ms) (sym f) (subst (λ l. P ys hs l) (sym g) h))

pub nought : (n : ℕ) → n ≤ 0 → n ≡ 0
nought n h = omega arith

-- a list that was written over whole
pub written : {X : Type 0} (n : ℕ) (xs zs : List X) → length xs ≡ n → take n (xs ++ zs) ≡ xs
written {X} n xs zs e = ap (λ k. take k (xs ++ zs)) (sym e) ∙ front xs
  where
    front : (ys : List X) → take (length ys) (ys ++ zs) ≡ ys
    front [] = refl
    front (y ∷ ys) = ap (λ l. y ∷ l) (front ys)

-- Where subgames start in the diagram with a copy.
use Rattle.std.proofs.Common.{◌≡◌, ℕ, zero, suc, ◌<◌, ◌≤◌, List, [], ◌∷◌, length, slice_index, refl, ap, inl, inr, arith, rules}
use Rattle.maid_model.specs.Nodes.{states_of}
use Rattle.maid_model.specs.Subgames.{IsListing, IsHistory, Extends, AgreeOnParents, KeepsInformation, IsSubgameStart}
use Rattle.maid_examples.specs.CopySeen.{copied, HasStarts}
use Rattle.maid_examples.proofs.Members.{Among, among_of}

abbrev order : List ℕ
order = 0 ∷ 1 ∷ 2 ∷ []

-- states of the leader and the copy
pair : (state seen : ℕ) → state < 2 → seen < 2 → IsHistory copied order (state ∷ seen ∷ [])
pair state seen l m = record { within = omega arith; each = each }
  where
    each : (i : ℕ) → i < 2 → slice_index (state ∷ seen ∷ []) i < states_of copied (slice_index order i)
    each zero k = l
    each (suc zero) k = m
    each (suc (suc i)) k = absurd (omega arith)

-- the follower can't tell whether the copy is right
not_told : (first second seen : ℕ) → AgreeOnParents copied order 2 (first ∷ seen ∷ []) (second ∷ seen ∷ [])
not_told first second seen zero l a = absurd (unseen (among_of (1 ∷ []) 0 a))
  where
    unseen : Among 0 (1 ∷ []) → ⊥
    unseen (inl e) = omega arith
    unseen (inr m) = m
not_told first second seen (suc zero) l a = refl
not_told first second seen (suc (suc i)) l a = absurd (omega arith)

-- so what extends the start with one state of the leader does so with each
with_each : (start : List ℕ) → KeepsInformation copied order start → length start ≤ 2 → (first second seen : ℕ) → first < 2 → second < 2 → seen < 2 → Extends (first ∷ seen ∷ []) start → Extends (second ∷ seen ∷ []) start
with_each start keeps short first second seen l m n e =
    keeps 2 (first ∷ seen ∷ []) (second ∷ seen ∷ []) short (omega arith) (record { within = omega arith; kind = refl }) (pair first seen l n) (pair second seen m n) refl refl (not_told first second seen) e

not_after_leader : (state : ℕ) → state < 2 → IsSubgameStart copied order (state ∷ []) → ⊥
not_after_leader zero l s = let e = ap (λ xs. slice_index xs 0) (with_each (0 ∷ []) s.keeps (omega arith) 0 1 0 (omega arith) (omega arith) (omega arith) refl) in let f : ◌≡◌ {A = ℕ} 1 0 = e in omega arith
not_after_leader (suc zero) l s = let e = ap (λ xs. slice_index xs 0) (with_each (1 ∷ []) s.keeps (omega arith) 1 0 0 (omega arith) (omega arith) (omega arith) refl) in let f : ◌≡◌ {A = ℕ} 0 1 = e in omega arith
not_after_leader (suc (suc state)) l s = omega arith

not_after_copy : (state : ℕ) → state < 2 → IsSubgameStart copied order (state ∷ state ∷ []) → ⊥
not_after_copy zero l s = let e = ap (λ xs. slice_index xs 0) (with_each (0 ∷ 0 ∷ []) s.keeps (omega arith) 0 1 0 (omega arith) (omega arith) (omega arith) refl) in let f : ◌≡◌ {A = ℕ} 1 0 = e in omega arith
not_after_copy (suc zero) l s = let e = ap (λ xs. slice_index xs 0) (with_each (1 ∷ 1 ∷ []) s.keeps (omega arith) 1 0 1 (omega arith) (omega arith) (omega arith) refl) in let f : ◌≡◌ {A = ℕ} 0 1 = e in omega arith
not_after_copy (suc (suc state)) l s = omega arith

listing : IsListing copied order
listing = search rules

whole : IsSubgameStart copied order []
whole = search rules

pub starts : HasStarts
starts = record { listing = listing; whole = whole; not_after_leader = not_after_leader; not_after_copy = not_after_copy }

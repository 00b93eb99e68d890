-- No active walk leaves a set of steps that is closed: it holds the first step of each walk, and
-- with each step those that may follow.
use Rattle.std.proofs.Common.{◌≡◌, ◌⊎◌, ◌↔◌, ℕ, List, [], ◌∷◌, sym, subst, inl, inr}
use Rattle.maid_model.specs.Walks.{IsJoined, IsCollider, IsActive, last_of, IsReached}

module _ (Arc : ℕ → ℕ → Type 0) (Live Given : ℕ → Type 0) where
  first_live : (x : ℕ) (rest : List ℕ) → IsActive Arc Live Given (x ∷ rest) → Live x
  first_live x [] a = a
  first_live x (y ∷ []) a = a.0
  first_live x (y ∷ (z ∷ rest)) a = a.0

  first_joined : (x y : ℕ) (rest : List ℕ) → IsActive Arc Live Given (x ∷ (y ∷ rest)) → IsJoined Arc x y
  first_joined x y [] a = a.1
  first_joined x y (z ∷ rest) a = a.1

  second_live : (x y : ℕ) (rest : List ℕ) → IsActive Arc Live Given (x ∷ (y ∷ rest)) → Live y
  second_live x y [] a = a.2
  second_live x y (z ∷ rest) a = first_live y (z ∷ rest) a.3

  module _ (Step : ℕ → ℕ → Type 0) (closed : (x y z : ℕ) → Step x y → IsJoined Arc y z → Live z → IsCollider Arc x y z ↔ Given y → Step y z) where
    -- by induction over the walk
    ends : (x y : ℕ) (rest : List ℕ) → Step x y → IsActive Arc Live Given (x ∷ (y ∷ rest)) → (u : ℕ) × Step u (last_of y rest)
    ends x y [] s a = (x, s)
    ends x y (z ∷ rest) s a = ends y z rest (closed x y z s (first_joined y z rest a.3) (second_live y z rest a.3) a.2) a.3

    -- a walk of no step, or the end of its last step
    pub end_of_walk : (from to : ℕ) → ((y : ℕ) → IsJoined Arc from y → Live y → Step from y) → IsReached Arc Live Given from to → (to ≡ from) ⊎ ((u : ℕ) × Step u to)
    end_of_walk from to first r = go r.rest r.active r.ends
      where
        go : (rest : List ℕ) → IsActive Arc Live Given (from ∷ rest) → last_of from rest ≡ to → (to ≡ from) ⊎ ((u : ℕ) × Step u to)
        go [] a e = inl (sym e)
        go (y ∷ rest) a e = inr (subst (λ t. (u : ℕ) × Step u t) e (ends from y rest (first y (first_joined from y rest a) (second_live from y rest a)) a))

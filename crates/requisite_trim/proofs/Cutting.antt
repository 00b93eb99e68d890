-- A walk from a node that may be given or not.
use Rattle.std.proofs.Common.{◌≡◌, ◌≢◌, ◌⊎◌, ℕ, List, [], ◌∷◌, ◌↔◌, ◌∙◌, inl, inr, refl, subst}
use Rattle.std.proofs.Math.Decide.{ℕ_discrete}
use Rattle.maid_model.specs.Walks.{IsActive, last_of, IsReached}

-- two given sets that differ at x alone
module _ (Arc : ℕ → ℕ → Type 0) (Live P Q : ℕ → Type 0) (x : ℕ) (same : (y : ℕ) → y ≢ x → P y ↔ Q y) where
  -- the walk from b is active given Q, or from its last visit of x on it is
  abbrev IsCut : ℕ → List ℕ → Type 0
  IsCut b rest = IsActive Arc Live Q (b ∷ rest) ⊎ ((r : List ℕ) × IsActive Arc Live Q (x ∷ r) × (last_of x r ≡ last_of b rest))

  cut_at : (b y z : ℕ) (rest : List ℕ) → IsActive Arc Live P (b ∷ (y ∷ (z ∷ rest))) → IsCut y (z ∷ rest) → Dec (y ≡ x) → IsCut b (y ∷ (z ∷ rest))
  cut_at b y z rest h (inr k) d = inr k
  cut_at b y z rest h (inl k) (yes e) = inr (z ∷ rest, subst (λ u. IsActive Arc Live Q (u ∷ (z ∷ rest))) e k, refl)
  cut_at b y z rest h (inl k) (no n) = inl (h.0, h.1, ((λ m. (same y n).0 (h.2.0 m)), (λ q. h.2.1 ((same y n).1 q))), k)

  cut : (b : ℕ) (rest : List ℕ) → IsActive Arc Live P (b ∷ rest) → IsCut b rest
  cut b [] h = inl h
  cut b (y ∷ []) h = inl h
  cut b (y ∷ (z ∷ rest)) h = cut_at b y z rest h (cut y (z ∷ rest) h.3) (ℕ_discrete y x)

  -- what is reached from x given the one set is reached given the other
  pub reached_either : (to : ℕ) → IsReached Arc Live P x to → IsReached Arc Live Q x to
  reached_either to h = elim (cut x h.rest h.active) as (λ _. IsReached Arc Live Q x to) [
    | inl k ↦ record { rest = h.rest; active = k; ends = h.ends }
    | inr k ↦ record { rest = k.0; active = k.1; ends = k.2 ∙ h.ends }
  ]

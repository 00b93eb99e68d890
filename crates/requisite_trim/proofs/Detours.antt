-- One more arc into a decision makes no new walk from its tail: given the decision and its other
-- parents, a walk that takes the arc comes back to the tail or is blocked.
use Rattle.std.proofs.Common.{◌≡◌, ◌≢◌, ◌⊎◌, ◌↔◌, ◌∙◌, ℕ, List, [], ◌∷◌, inl, inr, refl, sym, ap, subst}
use Rattle.std.proofs.Math.Decide.{ℕ_discrete}
use Rattle.maid_model.specs.Relevance.{IsInFamilyBut}
use Rattle.maid_model.specs.Walks.{IsJoined, IsCollider, IsActive, last_of, IsReached}

-- the arcs More are those of Arc and the one from x to d
module _ (Arc More : ℕ → ℕ → Type 0) (Live Living : ℕ → Type 0) (x d : ℕ) (old : (u v : ℕ) → Arc u v → More u v) (which : (u v : ℕ) → More u v → Arc u v ⊎ ((u ≡ x) × (v ≡ d)))
    (alive : (v : ℕ) → Live v ↔ Living v) where
  abbrev Given : ℕ → Type 0
  Given = IsInFamilyBut Arc d x

  abbrev Givens : ℕ → Type 0
  Givens = IsInFamilyBut More d x

  -- the same nodes are given
  given_more : (v : ℕ) → Given v → Givens v
  given_more v (inl e) = inl e
  given_more v (inr a) = inr (old v d a.0, a.1)

  given_less : (v : ℕ) → Givens v → Given v
  given_less v (inl e) = inl e
  given_less v (inr a) = other (which v d a.0)
    where
      other : Arc v d ⊎ ((v ≡ x) × (d ≡ d)) → Given v
      other (inl o) = inr (o, a.1)
      other (inr n) = absurd (a.1 n.0)

  -- ---- a walk without the arc is one with it
  joined_more : (u v : ℕ) → IsJoined Arc u v → IsJoined More u v
  joined_more u v (inl a) = inl (old u v a)
  joined_more u v (inr a) = inr (old v u a)

  heads_more : (u v w : ℕ) → (IsCollider Arc u v w ↔ Given v) → (IsCollider More u v w ↔ Givens v)
  heads_more u v w h = ((λ m. meet (which u v m.0) (which w v m.1)), (λ g. let m = h.1 (given_less v g) in (old u v m.0, old w v m.1)))
    where
      meet : Arc u v ⊎ ((u ≡ x) × (v ≡ d)) → Arc w v ⊎ ((w ≡ x) × (v ≡ d)) → Givens v
      meet (inl a) (inl b) = given_more v (h.0 (a, b))
      meet (inl a) (inr n) = inl n.1
      meet (inr n) b = inl n.1

  active_more : (u : ℕ) (rest : List ℕ) → IsActive Arc Live Given (u ∷ rest) → IsActive More Living Givens (u ∷ rest)
  active_more u [] h = (alive u).0 h
  active_more u (v ∷ []) h = ((alive u).0 h.0, joined_more u v h.1, (alive v).0 h.2)
  active_more u (v ∷ (w ∷ rest)) h = ((alive u).0 h.0, joined_more u v h.1, heads_more u v w h.2, active_more v (w ∷ rest) h.3)

  pub reached_more : (to : ℕ) → IsReached Arc Live Given x to → IsReached More Living Givens x to
  reached_more to h = record { rest = h.rest; active = active_more x h.rest h.active; ends = h.ends }

  -- ---- a walk with the arc is one without it from its last visit of x on
  module _ (no_two : (u v : ℕ) → Arc u v → Arc v u → ⊥) where
    abbrev IsCut : ℕ → List ℕ → Type 0
    IsCut u rest = IsActive Arc Live Given (u ∷ rest) ⊎ ((r : List ℕ) × IsActive Arc Live Given (x ∷ r) × (last_of x r ≡ last_of u rest))

    joined_less : (u v : ℕ) → v ≢ x → v ≢ d → IsJoined More u v → IsJoined Arc u v
    joined_less u v n m (inl a) = go (which u v a)
      where
        go : Arc u v ⊎ ((u ≡ x) × (v ≡ d)) → IsJoined Arc u v
        go (inl o) = inl o
        go (inr e) = absurd (m e.1)
    joined_less u v n m (inr a) = go (which v u a)
      where
        go : Arc v u ⊎ ((v ≡ x) × (u ≡ d)) → IsJoined Arc u v
        go (inl o) = inr o
        go (inr e) = absurd (n e.0)

    into : (u v : ℕ) → v ≢ d → More u v → Arc u v
    into u v m a = go (which u v a)
      where
        go : Arc u v ⊎ ((u ≡ x) × (v ≡ d)) → Arc u v
        go (inl o) = o
        go (inr e) = absurd (m e.1)

    heads_less : (u v w : ℕ) → v ≢ d → (IsCollider More u v w ↔ Givens v) → (IsCollider Arc u v w ↔ Given v)
    heads_less u v w m h = (
      (λ c. given_less v (h.0 (old u v c.0, old w v c.1))),
      (λ g. let c = h.1 (given_more v g) in (into u v m c.0, into w v m c.1)),
    )

    tail : (v w : ℕ) (rest : List ℕ) → IsActive Arc Live Given (v ∷ (w ∷ rest)) → IsActive Arc Live Given (w ∷ rest)
    tail v w [] h = h.2
    tail v w (y ∷ rest) h = h.3

    -- no walk gets past d and one of its given parents
    blocked : (w : ℕ) (rest : List ℕ) → Arc w d → Given w → IsActive Arc Live Given (d ∷ (w ∷ rest)) → (Given (last_of w rest) → ⊥) → ⊥
    blocked w [] a g h free = free g
    blocked w (y ∷ rest) a g h free = no_two w d a (h.2.1 g).0

    -- so it does not come to d
    not_past : (u v w : ℕ) (rest : List ℕ) → v ≡ d → w ≢ x → (IsCollider More u v w ↔ Givens v) → IsActive Arc Live Given (v ∷ (w ∷ rest)) → (Given (last_of w rest) → ⊥) → ⊥
    not_past u v w rest e n h k free = go (which w v (h.1 (inl e)).1)
      where
        go : Arc w v ⊎ ((w ≡ x) × (v ≡ d)) → ⊥
        go (inl a) = let b = subst (Arc w) e a in blocked w rest b (inr (b, n)) (subst (λ y. IsActive Arc Live Given (y ∷ (w ∷ rest))) e k) free
        go (inr f) = n f.0

    step : (u v w : ℕ) (rest : List ℕ) → IsActive More Living Givens (u ∷ (v ∷ (w ∷ rest))) → (Given (last_of w rest) → ⊥) → IsCut v (w ∷ rest) → Dec (v ≡ x) → Dec (w ≡ x) → Dec (v ≡ d) → IsCut u (v ∷ (w ∷ rest))
    step u v w rest h free (inr k) p q r = inr k
    step u v w rest h free (inl k) (yes e) q r = inr (w ∷ rest, subst (λ y. IsActive Arc Live Given (y ∷ (w ∷ rest))) e k, refl)
    step u v w rest h free (inl k) (no n) (yes e) r = inr (rest, subst (λ y. IsActive Arc Live Given (y ∷ rest)) e (tail v w rest k), ap (λ y. last_of y rest) (sym e))
    step u v w rest h free (inl k) (no n) (no m) (yes e) = absurd (not_past u v w rest e m h.2 k free)
    step u v w rest h free (inl k) (no n) (no m) (no o) = inl ((alive u).1 h.0, joined_less u v n o h.1, heads_less u v w o h.2, k)

    last_step : (u v : ℕ) → IsActive More Living Givens (u ∷ (v ∷ [])) → (Given v → ⊥) → Dec (v ≡ x) → IsCut u (v ∷ [])
    last_step u v h free (yes e) = inr ([], subst Live e ((alive v).1 h.2), sym e)
    last_step u v h free (no n) = inl ((alive u).1 h.0, joined_less u v n (λ e. free (inl e)) h.1, (alive v).1 h.2)

    cut : (u : ℕ) (rest : List ℕ) → IsActive More Living Givens (u ∷ rest) → (Given (last_of u rest) → ⊥) → IsCut u rest
    cut u [] h free = inl ((alive u).1 h)
    cut u (v ∷ []) h free = last_step u v h free (ℕ_discrete v x)
    cut u (v ∷ (w ∷ rest)) h free = step u v w rest h free (cut v (w ∷ rest) h.3 free) (ℕ_discrete v x) (ℕ_discrete w x) (ℕ_discrete v d)

    pub reached_less : (to : ℕ) → (Given to → ⊥) → IsReached More Living Givens x to → IsReached Arc Live Given x to
    reached_less to free h = elim (cut x h.rest h.active (λ g. free (subst Given h.ends g))) as (λ _. IsReached Arc Live Given x to) [
      | inl k ↦ record { rest = h.rest; active = k; ends = h.ends }
      | inr k ↦ record { rest = k.0; active = k.1; ends = k.2 ∙ h.ends }
    ]

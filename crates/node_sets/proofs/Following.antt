-- Sets that grow along steps, wave by wave.
use Rattle.std.proofs.Common.{◌≡◌, ℕ, ◌+◌, ◌<◌, Bool, true, false, ◌⊎◌, ◌↔◌, inl, inr, refl, subst, sym, ◌∙◌, arith}
use Rattle.std.proofs.lemmas.Bool.{cases_lt, false≢true}
use Rattle.node_sets.specs.declared.sets.NodeSet.{NodeSet}
use Rattle.node_sets.specs.Sets.{holds, IsIn, IsFirstFrom, HasNoneFrom, room}
use Rattle.node_sets.specs.Paths.{IsPath, Here, Along, LeadsFrom}
use Rattle.node_sets.proofs.Growing.{room_less}
use Rattle.node_sets.proofs.Turning.{path_then}

-- a set that is closed holds all that paths lead to from it
pub path_marked : {Arc : ℕ → ℕ → Type 0} {Set : ℕ → Type 0} → ((a b : ℕ) → Arc a b → Set a → Set b) → (v from : ℕ) → IsPath Arc from v → Set from → Set v
path_marked c v from Here s = s
path_marked c v from (Along {v = b} h p) s = path_marked c v b p (c from b h s)

pub leads_again : (Arc : ℕ → ℕ → Type 0) (Start Next : ℕ → Type 0) → ((v : ℕ) → Next v → LeadsFrom Arc Start v) → (v : ℕ) → LeadsFrom Arc Next v → LeadsFrom Arc Start v
leads_again Arc Start Next f v (m, s, p) = let h = f m s in (h.0, h.1, path_then v m p h.0 h.2)

module _ (Step : ℕ → ℕ → Type 0) where
  -- the nodes to which a step leads from a node of the set below that number
  abbrev pub IsSteppedTo : NodeSet → ℕ → NodeSet → Type 0
  IsSteppedTo set from reached = (v : ℕ) → IsIn reached v ↔ ((u : ℕ) × (u < from) × IsIn set u × Step u v)

  -- one node more, the next of the set
  pub stepped_more : (set : NodeSet) (from u : ℕ) (reached step next : NodeSet) → IsFirstFrom set from u → ((v : ℕ) → IsIn step v ↔ Step u v) →
      ((v : ℕ) → IsIn next v ↔ (IsIn reached v ⊎ IsIn step v)) → IsSteppedTo set from reached → IsSteppedTo set (u + 1) next
  stepped_more set from u reached step next first steps both h v = (
    (λ m. elim ((both v).0 m) as (λ _. (w : ℕ) × (w < u + 1) × IsIn set w × Step w v) [
      | inl o ↦ let w = (h v).0 o in let l = w.1 in let k = first.not_before in (w.0, omega arith, w.2, w.3)
      | inr s ↦ (u, omega arith, first.inside, (steps v).0 s)
    ]),
    (λ w. elim (cases_lt w.0 from) as (λ _. IsIn next v) [
      | inl l ↦ (both v).1 (inl ((h v).1 (w.0, l, w.2, w.3)))
      | inr l ↦ elim (cases_lt w.0 u) as (λ _. IsIn next v) [
        | inl k ↦ absurd (first.first w.0 l k w.2)
        | inr k ↦
            let j = w.1 in
            let e : w.0 ≡ u = omega arith in
            (both v).1 (inr ((steps v).1 (subst (λ x. Step x v) e w.3)))
      ]
    ]),
  )

  -- all of the set
  pub stepped_all : (set : NodeSet) (from : ℕ) (reached : NodeSet) → HasNoneFrom set from → IsSteppedTo set from reached →
      (v : ℕ) → IsIn reached v ↔ ((u : ℕ) × IsIn set u × Step u v)
  stepped_all set from reached none h v = (
    (λ m. let w = (h v).0 m in (w.0, w.2, w.3)),
    (λ w. elim (cases_lt w.0 from) as (λ _. IsIn reached v) [
      | inl l ↦ (h v).1 (w.0, l, w.1, w.2)
      | inr l ↦ absurd (none w.0 l w.1)
    ]),
  )

  -- what is reached, and of it what was followed
  pub record IsFollowed (start reached followed : NodeSet) : Type 0 where
    pub kept : (v : ℕ) → IsIn start v → IsIn reached v
    pub sound : (v : ℕ) → IsIn reached v → LeadsFrom Step (IsIn start) v
    pub handed_on : (u v : ℕ) → IsIn followed u → Step u v → IsIn reached v
    pub within : (v : ℕ) → IsIn followed v → IsIn reached v

  -- one wave more, from all that is reached and was not followed
  pub followed_more : (start reached followed fresh steps next : NodeSet) → ((v : ℕ) → IsIn fresh v ↔ (IsIn reached v × (IsIn followed v → ⊥))) →
      ((v : ℕ) → IsIn steps v ↔ ((u : ℕ) × IsIn fresh u × Step u v)) → ((v : ℕ) → IsIn next v ↔ (IsIn reached v ⊎ IsIn steps v)) →
      IsFollowed start reached followed → IsFollowed start next reached
  followed_more start reached followed fresh steps next are stepped both h = record {
    kept = λ v m. (both v).1 (inl (h.kept v m));
    sound = λ v m. elim ((both v).0 m) as (λ _. LeadsFrom Step (IsIn start) v) [
      | inl o ↦ h.sound v o
      | inr s ↦
          let w = (stepped v).0 s in
          leads_again Step (IsIn start) (IsIn reached) h.sound v (w.0, ((are w.0).0 w.1).0, Along w.2 Here)
    ];
    handed_on = λ u v m s. handed u v m s (holds followed u) refl;
    within = λ v m. (both v).1 (inl m);
  }
    where
      handed : (u v : ℕ) → IsIn reached u → Step u v → (b : Bool) → holds followed u ≡ b → IsIn next v
      handed u v m s true e = (both v).1 (inl (h.handed_on u v e s))
      handed u v m s false e = (both v).1 (inr ((stepped v).1 (u, (are u).1 (m, λ k. false≢true (sym e ∙ k)), s)))

  -- something is followed that was not
  pub followed_less : (start reached followed fresh : NodeSet) (v : ℕ) → ((v : ℕ) → IsIn fresh v ↔ (IsIn reached v × (IsIn followed v → ⊥))) → IsFirstFrom fresh 0 v →
      IsFollowed start reached followed → room reached < room followed
  followed_less start reached followed fresh v are first h = let new = (are v).0 first.inside in less (holds followed v) refl new.0 new.1
    where
      less : (b : Bool) → holds followed v ≡ b → IsIn reached v → (IsIn followed v → ⊥) → room reached < room followed
      less true e m n = absurd (n e)
      less false e m n = room_less followed reached v first.small h.within e m

  -- where all that is reached was followed, it is all to which steps lead
  pub followed_all : (start reached followed fresh : NodeSet) → ((v : ℕ) → IsIn fresh v ↔ (IsIn reached v × (IsIn followed v → ⊥))) → HasNoneFrom fresh 0 →
      IsFollowed start reached followed → (v : ℕ) → IsIn reached v ↔ LeadsFrom Step (IsIn start) v
  followed_all start reached followed fresh are none h v = (
    h.sound v,
    (λ w. path_marked {Arc = Step} {Set = IsIn reached} (λ a b s m. handed a b m s (holds followed a) refl) v w.0 w.2 (h.kept w.0 w.1)),
  )
    where
      handed : (u v : ℕ) → IsIn reached u → Step u v → (b : Bool) → holds followed u ≡ b → IsIn reached v
      handed u v m s true e = h.handed_on u v e s
      handed u v m s false e = absurd (none u (omega arith) ((are u).1 (m, λ k. false≢true (sym e ∙ k))))

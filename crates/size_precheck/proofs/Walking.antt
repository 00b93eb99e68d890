-- A walk over the nodes of a set from the first on, each of which is written at its own place.
use Rattle.std.proofs.Common.{◌≡◌, ◌⊎◌, ◌↔◌, ℕ, ◌+◌, ◌<◌, ◌≤◌, subst, inl, inr, arith}
use Rattle.std.proofs.lemmas.Bool.{cases_lt}
use Rattle.node_sets.specs.Sets.{IsIn, IsFirstFrom}
use Rattle.node_sets.specs.declared.sets.NodeSet.{NodeSet}

module _ (set : NodeSet) (from v : ℕ) (first : IsFirstFrom set from v) where
  -- what holds of the members so far and of the one found holds of the members up to it
  pub walked : (P : ℕ → Type 0) → ((x : ℕ) → x < from → IsIn set x → (x ≡ v → ⊥) → P x) → P v → (x : ℕ) → x < v + 1 → IsIn set x → P x
  walked P old new x l m = elim (cases_lt x from) as (λ _. P x) [
    | inl b ↦ old x b m (λ e. let n = first.not_before in absurd (omega arith))
    | inr a ↦ elim (cases_lt x v) as (λ _. P x) [
      | inl b ↦ absurd (first.first x a b m)
      | inr g ↦ let e : v ≡ x = omega arith in subst P e new
    ]
  ]

-- at the end the walk has met each member
pub all_walked : (set : NodeSet) (from x : ℕ) → ((w : ℕ) → from ≤ w → IsIn set w → ⊥) → IsIn set x → x < from
all_walked set from x none m = elim (cases_lt x from) as (λ _. x < from) [ inl l ↦ l | inr g ↦ absurd (none x g m) ]

-- a walk that gathers what belongs to the members: what is gathered up to the one found, and at the
-- end
module _ (set : NodeSet) (Belongs : ℕ → ℕ → Type 0) (from : ℕ) (nodes : NodeSet) (so_far : (u : ℕ) → IsIn nodes u ↔ ((t : ℕ) × (t < from) × IsIn set t × Belongs t u)) where
  pub gathered_more : (v : ℕ) (own after : NodeSet) → IsFirstFrom set from v → ((u : ℕ) → IsIn own u ↔ Belongs v u) → ((u : ℕ) → IsIn after u ↔ (IsIn nodes u ⊎ IsIn own u)) → (u : ℕ) → IsIn after u ↔ ((t : ℕ) × (t < v + 1) × IsIn set t × Belongs t u)
  gathered_more v own after first is all u = (
    (λ m. elim ((all u).0 m) as (λ _. (t : ℕ) × (t < v + 1) × IsIn set t × Belongs t u) [
      | inl b ↦ let h = (so_far u).0 b in (h.0, (let n = first.not_before in let l = h.1 in omega arith), h.2, h.3)
      | inr a ↦ (v, omega arith, first.inside, (is u).0 a)
    ]),
    (λ h. elim (cases_lt h.0 from) as (λ _. IsIn after u) [
      | inl b ↦ (all u).1 (inl ((so_far u).1 (h.0, b, h.2, h.3)))
      | inr a ↦ elim (cases_lt h.0 v) as (λ _. IsIn after u) [
        | inl b ↦ absurd (first.first h.0 a b h.2)
        | inr g ↦ let l = h.1 in let e : h.0 ≡ v = omega arith in (all u).1 (inr ((is u).1 (subst (λ t. Belongs t u) e h.3)))
      ]
    ]),
  )

  pub gathered_all : ((w : ℕ) → from ≤ w → IsIn set w → ⊥) → (u : ℕ) → IsIn nodes u ↔ ((t : ℕ) × IsIn set t × Belongs t u)
  gathered_all none u = (
    (λ m. let h = (so_far u).0 m in (h.0, h.2, h.3)),
    (λ h. (so_far u).1 (h.0, all_walked set from h.0 none h.1, h.1, h.2)),
  )

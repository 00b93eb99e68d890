-- Sets of parents and of children, while arcs are taken away.
use Rattle.std.proofs.Common.{◌≡◌, ℕ, ◌+◌, ◌<◌, List, length, get_or, set, ◌↔◌, inl, inr, sym, ap, subst, ◌∙◌, arith}
use Rattle.std.proofs.lemmas.Bool.{cases_eq, cases_lt}
use Rattle.std.proofs.lemmas.List.{get_or-set_same, get_or-set_other}
use Rattle.node_sets.specs.declared.sets.NodeSet.{NodeSet}
use Rattle.node_sets.specs.Sets.{IsIn, IsFirstFrom, no_nodes}

-- the sets are those from before, but v is in none of those below n whose number is in the set
abbrev pub LosesBelow : (ℕ → ℕ → Type 0) → NodeSet → ℕ → ℕ → List NodeSet → Type 0
LosesBelow Before from n v sets = (u w : ℕ) → IsIn (get_or sets u no_nodes) w ↔ (Before u w × ((u < n) × IsIn from u × (w ≡ v) → ⊥))

pub loses_none : (sets : List NodeSet) (from : NodeSet) (v : ℕ) → LosesBelow (λ u w. IsIn (get_or sets u no_nodes) w) from 0 v sets
loses_none sets from v u w = ((λ m. (m, (λ a. let l = a.0 in absurd (omega arith)))), (λ h. h.0))

-- one node more of the set
pub loses_more : (Before : ℕ → ℕ → Type 0) (from : NodeSet) (n i v : ℕ) (sets : List NodeSet) (new : NodeSet) → i < length sets → IsFirstFrom from n i →
    ((x : ℕ) → IsIn new x ↔ (IsIn (get_or sets i no_nodes) x × (x ≡ v → ⊥))) → LosesBelow Before from n v sets → LosesBelow Before from (i + 1) v (set sets i new)
loses_more Before from n i v sets new small first loses h u w = elim (cases_eq u i) as (λ _. IsIn (get_or (set sets i new) u no_nodes) w ↔ (Before u w × ((u < i + 1) × IsIn from u × (w ≡ v) → ⊥))) [
  | inl e ↦
      let same : get_or (set sets i new) u no_nodes ≡ new = ap (λ k. get_or (set sets i new) k no_nodes) e ∙ get_or-set_same sets i new no_nodes small in
      let old : get_or sets u no_nodes ≡ get_or sets i no_nodes = ap (λ k. get_or sets k no_nodes) e in
      let low = first.not_before in (
        (λ m.
            let kept = (loses w).0 (subst (λ s. IsIn s w) same m) in
            (((h u w).0 (subst (λ s. IsIn s w) (sym old) kept.0)).0, (λ a. kept.1 a.2))),
        (λ k. subst (λ s. IsIn s w) (sym same) ((loses w).1 (
          subst (λ s. IsIn s w) old ((h u w).1 (k.0, (λ a. let l = a.0 in absurd (omega arith)))),
          (λ f. k.1 (omega arith, subst (IsIn from) (sym e) first.inside, f)),
        ))),
      )
  | inr n_e ↦
      let same : get_or (set sets i new) u no_nodes ≡ get_or sets u no_nodes = get_or-set_other sets i u new no_nodes n_e in
      let low = first.not_before in (
        (λ m.
            let kept = (h u w).0 (subst (λ s. IsIn s w) same m) in (
              kept.0,
              (λ a. elim (cases_lt u n) as (λ _. ⊥) [
                | inl l ↦ kept.1 (l, a.1, a.2)
                | inr l ↦ let k = a.0 in first.first u l (omega arith) a.1
              ]),
            )),
        (λ k. subst (λ s. IsIn s w) (sym same) ((h u w).1 (k.0, (λ a. let l = a.0 in k.1 (omega arith, a.1, a.2))))),
      )
]

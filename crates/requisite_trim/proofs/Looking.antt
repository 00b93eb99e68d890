-- Looking along a list of parents, and along the nodes.
use Rattle.std.proofs.Common.{◌≡◌, ◌∙◌, ℕ, ◌+◌, ◌<◌, ◌≤◌, List, length, get_or, inl, inr, sym, ap, subst, arith}
use Rattle.std.specs.Prelude.{Contains}
use Rattle.std.proofs.lemmas.Bool.{cases_eq}
use Rattle.std.proofs.lemmas.List.{get_or_default}
use Rattle.maid_model.specs.Views.{NodeView}
use Rattle.maid_model.specs.Nodes.{parents_of}
use Rattle.maid_model.specs.Relevance.{IsRequisite}
use Rattle.maid_model.specs.Trimming.{SeesRequisites}
use Rattle.requisite_trim.specs.Steps.{IsFirstUnneeded}

-- one number more has the property
pub below_more : (P : ℕ → Type 0) (n : ℕ) → ((k : ℕ) → k < n → P k) → P n → (k : ℕ) → k < n + 1 → P k
below_more P n h p k l = elim (cases_eq k n) as (λ _. P k) [
  | inl e ↦ subst P (sym e) p
  | inr ne ↦ h k (omega arith)
]

module _ (nodes : List NodeView) (d : ℕ) (items : List ℕ) (same : items ≡ parents_of nodes d) where
  -- the parents before the place are requisite, and that at the place is not
  pub first_at : (i : ℕ) → i < length items → (IsRequisite nodes d (get_or items i 0) → ⊥) → ((k : ℕ) → k < i → IsRequisite nodes d (get_or items k 0)) → IsFirstUnneeded nodes d (get_or items i 0)
  first_at i l never earlier = record {
    place = i;
    within = subst (λ (xs : List ℕ). i < length xs) same l;
    there = ap (λ (xs : List ℕ). get_or xs i 0) (sym same);
    not_requisite = never;
    earlier = λ k m. subst (λ (xs : List ℕ). IsRequisite nodes d (get_or xs k 0)) same (earlier k m);
  }

  -- all are requisite
  pub all_seen : (n : ℕ) → length items ≤ n → ((k : ℕ) → k < n → IsRequisite nodes d (get_or items k 0)) → SeesRequisites nodes d
  all_seen n le h x arc =
      let there : Contains items x = subst (λ (xs : List ℕ). Contains xs x) (sym same) arc in
      let l = there.1 in
      subst (λ y. IsRequisite nodes d y) (get_or_default items there.0 0 x there.1 ∙ there.2) (h there.0 (omega arith))

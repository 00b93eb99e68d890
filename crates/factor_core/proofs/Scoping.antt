-- Tests of membership in scopes.
use Rattle.std.proofs.Common.{◌≡◌, ◌↔◌, ◌∙◌, ℕ, Bool, true, false, ◌||◌, List, drop, inl, inr, refl, sym}
use Rattle.std.proofs.lemmas.Bool.{cases_eq}
use Rattle.node_sets.specs.declared.sets.NodeSet.{NodeSet}
use Rattle.node_sets.specs.Sets.{holds, IsIn}
use Rattle.factor_core.specs.declared.slots.Slot.{Slot}
use Rattle.factor_core.specs.Scopes.{united, united_but}
use Rattle.cell_rings.proofs.Runs.{chosen, not_chosen}

pub not_held : (b : Bool) → (b ≡ true → ⊥) → b ≡ false
not_held true h = absurd (h refl)
not_held false h = refl

same_test : (a b : Bool) → ((a ≡ true) → (b ≡ true)) → ((b ≡ true) → (a ≡ true)) → a ≡ b
same_test true b f g = sym (f refl)
same_test false true f g = g refl
same_test false false f g = refl

-- the scope so far, and the slots to come
abbrev pub IsUnitedSoFar : List Slot → ℕ → NodeSet → Type 0
IsUnitedSoFar slots i scope = (v : ℕ) → (holds scope v || united (drop i slots) v) ≡ united slots v

-- the scope without a node
pub joined_is : (slots : List Slot) (x : ℕ) (old new : NodeSet) → ((v : ℕ) → holds old v ≡ united slots v) → ((v : ℕ) → IsIn new v ↔ (IsIn old v × (v ≡ x → ⊥))) → (v : ℕ) → holds new v ≡ united_but slots x v
joined_is slots x old new is left v =
    elim (cases_eq v x) [
      | inl e ↦ not_held (holds new v) (λ t. ((left v).0 t).1 e) ∙ sym (chosen v x false (united slots v) e)
      | inr ne ↦ same_test (holds new v) (holds old v) (λ t. ((left v).0 t).0) (λ t. (left v).1 (t, ne)) ∙ is v ∙ sym (not_chosen v x false (united slots v) ne)
    ]

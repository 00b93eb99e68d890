-- What a set holds after one of its words changes.
use Rattle.std.proofs.Common.{◌≡◌, ℕ, ◌/◌, ◌%◌, ◌<◌, true, false, List, length, get_or, set, ◌⊎◌, ◌↔◌, inl, inr, sym, ap, subst, ◌∙◌, eqb}
use Rattle.std.specs.Int.{bit_at}
use Rattle.std.proofs.lemmas.Bool.{cases_eq, false≢true}
use Rattle.node_sets.specs.declared.sets.NodeSet.{NodeSet}
use Rattle.node_sets.specs.Sets.{holds, IsIn, Adds}
use Rattle.node_sets.proofs.Bits.{bit_here, bit_elsewhere, set_is}
use Rattle.node_sets.proofs.Growing.{room_less}

module _ (words : List ℕ) (v word : ℕ) (within : v / 64 < length words) where
  abbrev now : NodeSet
  now = record { words = words }

  abbrev after : NodeSet
  after = record { words = set words (v / 64) word }

  -- the set gains v, which it lacked
  pub gains : v < 256 → holds now v ≡ false → bit_at word (v % 64) ≡ 1 →
      ((i : ℕ) → i < 64 → (i ≡ v % 64 → ⊥) → bit_at word i ≡ bit_at (get_or words (v / 64) 0) i) → Adds (λ x. x ≡ v) now after true
  unfolding holds
  gains l lacks here others = record {
    all = λ x. elim (cases_eq x v) as (λ _. IsIn after x ↔ (IsIn now x ⊎ (x ≡ v))) [
      | inl e ↦ ((λ _. inr e), (λ _. subst (IsIn after) (sym e) there))
      | inr n ↦ ((λ m. inl (sym (away x n) ∙ m)), elim [ inl m ↦ away x n ∙ m | inr e ↦ absurd (n e) ])
    ];
    same = λ e. absurd (false≢true (sym e));
    fewer = λ _. room_less now after v l kept lacks there;
  }
    where
      away : (x : ℕ) → (x ≡ v → ⊥) → holds after x ≡ holds now x
      away x n = ap (λ b. eqb b 1) (bit_elsewhere words v word within others x n)

      there : IsIn after v
      there = set_is _ (bit_here words v word within ∙ here)

      kept : (x : ℕ) → IsIn now x → IsIn after x
      kept x m = elim (cases_eq x v) as (λ _. IsIn after x) [ inl e ↦ subst (IsIn after) (sym e) there | inr n ↦ away x n ∙ m ]

  -- the set loses v
  pub loses : bit_at word (v % 64) ≡ 0 → ((i : ℕ) → i < 64 → (i ≡ v % 64 → ⊥) → bit_at word i ≡ bit_at (get_or words (v / 64) 0) i) →
      (x : ℕ) → IsIn after x ↔ (IsIn now x × (x ≡ v → ⊥))
  unfolding holds
  loses here others x = elim (cases_eq x v) as (λ _. IsIn after x ↔ (IsIn now x × (x ≡ v → ⊥))) [
    | inl e ↦ ((λ m. absurd (gone (subst (IsIn after) e m))), (λ h. absurd (h.1 e)))
    | inr n ↦ ((λ m. (sym (away n) ∙ m, n)), (λ h. away n ∙ h.0))
  ]
    where
      away : (x ≡ v → ⊥) → holds after x ≡ holds now x
      away n = ap (λ b. eqb b 1) (bit_elsewhere words v word within others x n)

      gone : IsIn after v → ⊥
      gone m = false≢true (sym (ap (λ b. eqb b 1) (bit_here words v word within ∙ here)) ∙ m)

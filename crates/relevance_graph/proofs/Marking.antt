-- Marks written node by node.
use Rattle.std.proofs.Common.{◌≡◌, ◌⊎◌, ◌↔◌, ℕ, ◌+◌, ◌<◌, Bool, true, false, List, length, set, inl, inr, sym, subst, arith, get_or-set_same, get_or-set_other}
use Rattle.std.proofs.lemmas.Bool.{cases_eq}
use Rattle.diagram_graph.specs.Needs.{IsMarkedIn}

-- the mark of one node more is written, and tells of it
module _ (P : ℕ → Type 0) (marks : List Bool) (v : ℕ) (b : Bool) (within : v < length marks) (here : (b ≡ true) ↔ P v) (before : (x : ℕ) → x < v → IsMarkedIn marks x ↔ P x) where
  told_at : (x : ℕ) → x < v + 1 → (x ≡ v) ⊎ (x ≡ v → ⊥) → IsMarkedIn (set marks v b) x ↔ P x
  told_at x less (inl e) = subst (λ y. IsMarkedIn (set marks v b) y ↔ P y) (sym e) (rw (get_or-set_same marks v b false within) here)
  told_at x less (inr n) = rw (get_or-set_other marks v x b false n) (before x (omega (arith, less, n)))

  pub told_next : (x : ℕ) → x < v + 1 → IsMarkedIn (set marks v b) x ↔ P x
  told_next x less = told_at x less (cases_eq x v)

-- Equations and orders of whole numbers may be shown as if finitely many facts had been decided.
use Rattle.std.proofs.Common.{◌≡◌, ◌≢◌, ◌⊎◌, ◌∙◌, ℕ, Bool, true, false, cond, eqb, List, [], ◌∷◌, sym, subst, inl, inr, ℤ, ◌≤ℤ◌, ◌<ℤ◌, arith}
use Rattle.std.proofs.lemmas.Bool.Decides.{nat_tests}
use Rattle.std.proofs.lemmas.Int.{ints}
use Rattle.std.proofs.Math.IntN.{ℤ_discrete}
use Rattle.std.proofs.Math.Decide.{ℕ_discrete}
use Rattle.finite_sums.specs.Members.{Among}
use Rattle.maid_laws.proofs.Booleans.{not_both}
use Rattle.maid_laws.proofs.Basis.{Tells}

-- tests of finitely many facts
pub not_not_dec : (P : Type 0) → ¬ ¬ (Dec P)
not_not_dec P k = k (no (λ p. k (yes p)))

-- by induction over the list: as long as the goal is false each member may be decided
pub tests : (P : ℕ → Type 0) (xs : List ℕ) → ¬ ¬ ((p : ℕ → Bool) × Tells p P xs)
tests P [] k = k ((λ v. true), record { yes = λ v m e. absurd m; no = λ v m e. absurd m })
tests P (x ∷ xs) k = tests P xs (λ r. not_not_dec (P x) (λ d. k (more r d)))
  where
    at_x : (b : Bool) (p : ℕ → Bool) (v : ℕ) → v ≡ x → cond (eqb v x) b (p v) ≡ b
    at_x b p v e = grind (arith, nat_tests)

    off_x : (b : Bool) (p : ℕ → Bool) (v : ℕ) → v ≢ x → cond (eqb v x) b (p v) ≡ p v
    off_x b p v n = grind (arith, nat_tests)

    more : ((p : ℕ → Bool) × Tells p P xs) → Dec (P x) → (p : ℕ → Bool) × Tells p P (x ∷ xs)
    more (p, t) (yes y) = (
      (λ v. cond (eqb v x) true (p v)),
      record {
        yes = λ v m e. go v m e (ℕ_discrete v x);
        no = λ v m e. stop v m e (ℕ_discrete v x);
      },
    )
      where
        in_rest : (v : ℕ) → Among v (x ∷ xs) → v ≢ x → Among v xs
        in_rest v (inl e) n = absurd (n e)
        in_rest v (inr m) n = m

        go : (v : ℕ) → Among v (x ∷ xs) → cond (eqb v x) true (p v) ≡ true → Dec (v ≡ x) → P v
        go v m e (yes f) = subst P (sym f) y
        go v m e (no n) = t.yes v (in_rest v m n) (sym (off_x true p v n) ∙ e)

        stop : (v : ℕ) → Among v (x ∷ xs) → cond (eqb v x) true (p v) ≡ false → Dec (v ≡ x) → ¬ (P v)
        stop v m e (yes f) = absurd (not_both (cond (eqb v x) true (p v)) (at_x true p v f) e)
        stop v m e (no n) = t.no v (in_rest v m n) (sym (off_x true p v n) ∙ e)
    more (p, t) (no y) = (
      (λ v. cond (eqb v x) false (p v)),
      record {
        yes = λ v m e. go v m e (ℕ_discrete v x);
        no = λ v m e. stop v m e (ℕ_discrete v x);
      },
    )
      where
        in_rest : (v : ℕ) → Among v (x ∷ xs) → v ≢ x → Among v xs
        in_rest v (inl e) n = absurd (n e)
        in_rest v (inr m) n = m

        go : (v : ℕ) → Among v (x ∷ xs) → cond (eqb v x) false (p v) ≡ true → Dec (v ≡ x) → P v
        go v m e (yes f) = absurd (not_both (cond (eqb v x) false (p v)) e (at_x false p v f))
        go v m e (no n) = t.yes v (in_rest v m n) (sym (off_x false p v n) ∙ e)

        stop : (v : ℕ) → Among v (x ∷ xs) → cond (eqb v x) false (p v) ≡ false → Dec (v ≡ x) → ¬ (P v)
        stop v m e (yes f) = λ h. y (subst P f h)
        stop v m e (no n) = t.no v (in_rest v m n) (sym (off_x false p v n) ∙ e)

-- an equation of whole numbers may be shown by way of contradiction
pub by_contradiction : (a b : ℤ) → ¬ ¬ (a ≡ b) → a ≡ b
by_contradiction a b h = go (ℤ_discrete a b)
  where
    go : Dec (a ≡ b) → a ≡ b
    go (yes e) = e
    go (no n) = absurd (h n)

-- so may an order
pub le_stable : (a b : ℤ) → ¬ ¬ (a ≤ℤ b) → a ≤ℤ b
le_stable a b h = go (cases a b)
  where
    cases : (a b : ℤ) → (a ≤ℤ b) ⊎ (b <ℤ a)
    cases a b = grind (arith, ints)

    clash : (a b : ℤ) → b <ℤ a → a ≤ℤ b → ⊥
    clash a b l k = omega (arith, ints)

    go : (a ≤ℤ b) ⊎ (b <ℤ a) → a ≤ℤ b
    go (inl l) = l
    go (inr l) = absurd (h (clash a b l))

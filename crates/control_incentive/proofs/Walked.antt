-- A set of the nodes with a property, by one node after another.
use Rattle.std.proofs.Common.{◌≡◌, ◌↔◌, ◌⊎◌, ℕ, ◌+◌, ◌<◌, arith, sym, subst, inl, inr}
use Rattle.std.proofs.Math.Decide.{ℕ_discrete}

module _ (Among Of : ℕ → Type 0) (v : ℕ) (before : (u : ℕ) → Among u ↔ ((u < v) × Of u)) where
  kept : (u : ℕ) → Among u → (u < v + 1) × Of u
  kept u m = let h = (before u).0 m in (omega (arith, h.0), h.1)

  earlier : (u : ℕ) → u < v + 1 → (u ≡ v → ⊥) → u < v
  earlier u l n = omega (arith, l, n)

  -- the node has it, and comes in
  pub taken : (More : ℕ → Type 0) → ((u : ℕ) → More u ↔ (Among u ⊎ (u ≡ v))) → Of v → (u : ℕ) → More u ↔ ((u < v + 1) × Of u)
  taken More added own u = ((λ m. there ((added u).0 m)), (λ h. back h (ℕ_discrete u v)))
    where
      there : Among u ⊎ (u ≡ v) → (u < v + 1) × Of u
      there (inl m) = kept u m
      there (inr e) = (omega (arith, e), subst Of (sym e) own)

      back : (u < v + 1) × Of u → Dec (u ≡ v) → More u
      back h (yes e) = (added u).1 (inr e)
      back h (no n) = (added u).1 (inl ((before u).1 (earlier u h.0 n, h.1)))

  -- the node does not have it
  pub passed : (Of v → ⊥) → (u : ℕ) → Among u ↔ ((u < v + 1) × Of u)
  passed none u = ((λ m. kept u m), (λ h. back h (ℕ_discrete u v)))
    where
      back : (u < v + 1) × Of u → Dec (u ≡ v) → Among u
      back h (yes e) = absurd (none (subst Of e h.1))
      back h (no n) = (before u).1 (earlier u h.0 n, h.1)

-- How many numbers below a bound pass a test.
use Rattle.std.proofs.Common.{◌≡◌, ◌∙◌, ◌⊎◌, ℕ, zero, suc, ◌+◌, ◌<◌, ◌≤◌, Bool, true, false, cond, refl, sym, subst, inl, inr, arith}
use Rattle.std.proofs.Math.Decide.{ℕ_discrete}

pub true_or_false : (b : Bool) → (b ≡ true) ⊎ (b ≡ false)
true_or_false true = inl refl
true_or_false false = inr refl

pub not_both : (b : Bool) → b ≡ true → b ≡ false → ⊥
not_both b h k = absurd (let e : true ≡ false = sym h ∙ k in cc)

abbrev pub count_below : ℕ → (ℕ → Bool) → ℕ
count_below zero f = 0
count_below (suc n) f = count_below n f + cond (f n) 1 0

pub count_le : (n : ℕ) (f : ℕ → Bool) → count_below n f ≤ n
count_le zero f = omega arith
count_le (suc n) f = go (f n) (count_le n f)
  where
    go : (b : Bool) → count_below n f ≤ n → count_below n f + cond b 1 0 ≤ suc n
    go true h = omega arith
    go false h = omega arith

-- g passes what f passes
abbrev pub Within : ℕ → (ℕ → Bool) → (ℕ → Bool) → Type 0
Within n f g = (v : ℕ) → v < n → f v ≡ true → g v ≡ true

pub count_within : (n : ℕ) (f g : ℕ → Bool) → Within n f g → count_below n f ≤ count_below n g
count_within zero f g h = omega arith
count_within (suc n) f g h = go (f n) (g n) (h n (omega arith)) (count_within n f g (λ v l. h v (omega arith)))
  where
    go : (a b : Bool) → (a ≡ true → b ≡ true) → count_below n f ≤ count_below n g → count_below n f + cond a 1 0 ≤ count_below n g + cond b 1 0
    go true true h l = omega arith
    go true false h l = absurd (let e : false ≡ true = h refl in cc)
    go false true h l = omega arith
    go false false h l = omega arith

below_last : (P : ℕ → Type 0) (n : ℕ) → ((v : ℕ) → v < n → P v) → P n → (v : ℕ) → v < suc n → P v
below_last P n h k v l = go (ℕ_discrete v n)
  where
    less : (v n : ℕ) → v < suc n → (v ≡ n → ⊥) → v < n
    less v n l m = omega arith

    go : Dec (v ≡ n) → P v
    go (yes e) = subst P (sym e) k
    go (no m) = h v (less v n l m)

-- it passes more, or nothing more
pub more_or_same : (n : ℕ) (f g : ℕ → Bool) → Within n f g → (count_below n f < count_below n g) ⊎ Within n g f
more_or_same zero f g h = inr (λ v l e. absurd (omega arith))
more_or_same (suc n) f g h = go (f n) (g n) refl refl (more_or_same n f g (λ v l. h v (omega arith))) (count_within n f g (λ v l. h v (omega arith)))
  where
    go : (a b : Bool) → f n ≡ a → g n ≡ b → (count_below n f < count_below n g) ⊎ Within n g f → count_below n f ≤ count_below n g
        → (count_below n f + cond a 1 0 < count_below n g + cond b 1 0) ⊎ Within (suc n) g f
    go a true ea eb (inl l) k = inl (one a l)
      where
        one : (a : Bool) → count_below n f < count_below n g → count_below n f + cond a 1 0 < count_below n g + 1
        one true l = omega arith
        one false l = omega arith
    go true false ea eb (inl l) k = absurd (not_both (g n) (h n (omega arith) ea) eb)
    go false false ea eb (inl l) k = inl (omega arith)
    go true true ea eb (inr s) k = inr (below_last (λ v. g v ≡ true → f v ≡ true) n s (λ e. ea))
    go false true ea eb (inr s) k = inl (omega arith)
    go a false ea eb (inr s) k = inr (below_last (λ v. g v ≡ true → f v ≡ true) n s (λ e. absurd (not_both (g n) e eb)))

-- where all pass they are as many as there are numbers
pub all_pass : (n : ℕ) (f : ℕ → Bool) → n ≤ count_below n f → (v : ℕ) → v < n → f v ≡ true
all_pass zero f h = λ v l. absurd (omega arith)
all_pass (suc n) f h = go (f n) refl h (count_le n f) (all_pass n f)
  where
    go : (b : Bool) → f n ≡ b → suc n ≤ count_below n f + cond b 1 0 → count_below n f ≤ n → (n ≤ count_below n f → (v : ℕ) → v < n → f v ≡ true) → (v : ℕ) → v < suc n → f v ≡ true
    go true e h k r = below_last (λ v. f v ≡ true) n (r (omega arith)) e
    go false e h k r = absurd (omega arith)

-- it passes one more
pub count_strict : (n : ℕ) (f g : ℕ → Bool) (w : ℕ) → Within n f g → w < n → f w ≡ false → g w ≡ true → count_below n f < count_below n g
count_strict n f g w h l no_f yes_g = elim (more_or_same n f g h) [ inl m ↦ m | inr s ↦ absurd (not_both (f w) (s w l yes_g) no_f) ]

-- The bit of a number in a list of words, after one word changes, and in words that are made from
-- those of two sets.
use Rattle.std.proofs.Common.{◌≡◌, ℕ, zero, suc, ◌-◌, ◌/◌, ◌%◌, ◌<◌, ◌≤◌, true, List, [], ◌∷◌, length, get_or, set, ◌⊎◌, ◌↔◌, inl, inr, refl, sym, ap, ◌∙◌, arith, eqb, max, min}
use Rattle.std.specs.Int.{bit_at}
use Rattle.std.proofs.lemmas.Bool.{cases_eq}
use Rattle.std.proofs.lemmas.Bool.Decides.{nat_tests}
use Rattle.std.proofs.lemmas.List.{get_or-set_same, get_or-set_other, get_or_past}
use Rattle.std.proofs.lemmas.Nat.Bits.{bit_at-zero}

-- the number's bit
abbrev pub bit_of : List ℕ → ℕ → ℕ
bit_of words x = bit_at (get_or words (x / 64) 0) (x % 64)

same_place : (x v : ℕ) → x / 64 ≡ v / 64 → x % 64 ≡ v % 64 → x ≡ v
same_place x v a b = omega arith

pub small : (x : ℕ) → x % 64 < 64
small x = omega arith

-- ---- one word changes
module _ (words : List ℕ) (v word : ℕ) (within : v / 64 < length words) where
  pub bit_here : bit_of (set words (v / 64) word) v ≡ bit_at word (v % 64)
  bit_here = ap (λ w. bit_at w (v % 64)) (get_or-set_same words (v / 64) word 0 within)

  pub bit_elsewhere : ((i : ℕ) → i < 64 → (i ≡ v % 64 → ⊥) → bit_at word i ≡ bit_at (get_or words (v / 64) 0) i) → (x : ℕ) → (x ≡ v → ⊥) → bit_of (set words (v / 64) word) x ≡ bit_of words x
  bit_elsewhere others x n = elim (cases_eq (x / 64) (v / 64)) as (λ _. bit_of (set words (v / 64) word) x ≡ bit_of words x) [
    | inl e ↦
        ap (λ w. bit_at (get_or (set words (v / 64) word) w 0) (x % 64)) e
        ∙ ap (λ w. bit_at w (x % 64)) (get_or-set_same words (v / 64) word 0 within)
        ∙ others (x % 64) (small x) (λ f. n (same_place x v e f))
        ∙ ap (λ w. bit_at (get_or words w 0) (x % 64)) (sym e)
    | inr f ↦ ap (λ w. bit_at w (x % 64)) (get_or-set_other words (v / 64) (x / 64) word 0 f)
  ]

-- ---- the test of a bit
pub set_is : (b : ℕ) → b ≡ 1 → eqb b 1 ≡ true
set_is b e = grind (arith, nat_tests)

pub is_set : (b : ℕ) → eqb b 1 ≡ true → b ≡ 1
is_set b e = grind (arith, nat_tests)

pub either_bit : (a b : ℕ) → a < 2 → b < 2 → (eqb (max a b) 1 ≡ true) ↔ ((eqb a 1 ≡ true) ⊎ (eqb b 1 ≡ true))
either_bit a b l m = (
  (λ h. let e = is_set (max a b) h in elim (cases_eq a 1) as (λ _. (eqb a 1 ≡ true) ⊎ (eqb b 1 ≡ true)) [ inl f ↦ inl (set_is a f) | inr n ↦ inr (set_is b (omega arith)) ]),
  elim [ inl h ↦ let e = is_set a h in set_is (max a b) (omega arith) | inr h ↦ let e = is_set b h in set_is (max a b) (omega arith) ],
)

pub both_bits : (a b : ℕ) → a < 2 → b < 2 → (eqb (min a b) 1 ≡ true) ↔ ((eqb a 1 ≡ true) × (eqb b 1 ≡ true))
both_bits a b l m = (
  (λ h. let e = is_set (min a b) h in (set_is a (omega arith), set_is b (omega arith))),
  (λ h. let e = is_set a h.0 in let f = is_set b h.1 in set_is (min a b) (omega arith)),
)

pub without_bit : (a b : ℕ) → a < 2 → b < 2 → (eqb (min a (1 - b)) 1 ≡ true) ↔ ((eqb a 1 ≡ true) × (eqb b 1 ≡ true → ⊥))
without_bit a b l m = (
  (λ h. let e = is_set (min a (1 - b)) h in (set_is a (omega arith), (λ k. let f = is_set b k in absurd (omega arith)))),
  (λ h. let e = is_set a h.0 in elim (cases_eq b 1) as (λ _. eqb (min a (1 - b)) 1 ≡ true) [ inl f ↦ absurd (h.1 (set_is b f)) | inr n ↦ set_is (min a (1 - b)) (omega arith) ]),
)

-- ---- words made from those of two sets, place by place
module _ (ws vs : List ℕ) (l : length ws ≡ 4) (m : length vs ≡ 4) (f : ℕ → ℕ → ℕ) (none : f 0 0 ≡ 0) where
  pub four_words : (k : ℕ) → get_or (f (get_or ws 0 0) (get_or vs 0 0) ∷ f (get_or ws 1 0) (get_or vs 1 0) ∷ f (get_or ws 2 0) (get_or vs 2 0) ∷ f (get_or ws 3 0) (get_or vs 3 0) ∷ []) k 0 ≡ f (get_or ws k 0) (get_or vs k 0)
  four_words zero = refl
  four_words (suc zero) = refl
  four_words (suc (suc zero)) = refl
  four_words (suc (suc (suc zero))) = refl
  four_words (suc (suc (suc (suc k)))) = past (suc (suc (suc (suc k)))) (omega arith)
    where
      past : (k : ℕ) → 4 ≤ k → 0 ≡ f (get_or ws k 0) (get_or vs k 0)
      past k h = sym (ap (λ w. f w (get_or vs k 0)) (get_or_past ws k 0 (omega arith)) ∙ ap (λ w. f 0 w) (get_or_past vs k 0 (omega arith)) ∙ none)

no_word : (k : ℕ) (words : List ℕ) → words ≡ 0 ∷ 0 ∷ 0 ∷ 0 ∷ [] → get_or words k 0 ≡ 0
no_word zero words e = ap (λ (ws : List ℕ). get_or ws 0 0) e
no_word (suc zero) words e = ap (λ (ws : List ℕ). get_or ws 1 0) e
no_word (suc (suc zero)) words e = ap (λ (ws : List ℕ). get_or ws 2 0) e
no_word (suc (suc (suc zero))) words e = ap (λ (ws : List ℕ). get_or ws 3 0) e
no_word (suc (suc (suc (suc k)))) words e = ap (λ (ws : List ℕ). get_or ws (suc (suc (suc (suc k)))) 0) e

pub no_bit : (words : List ℕ) → words ≡ 0 ∷ 0 ∷ 0 ∷ 0 ∷ [] → (x : ℕ) → bit_of words x ≡ 0
no_bit words e x = ap (λ w. bit_at w (x % 64)) (no_word (x / 64) words e) ∙ bit_at-zero (x % 64)

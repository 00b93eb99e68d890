-- Which conditions of rows can be told: that words stand in a list, that something holds of all
-- items, and the like.
use Rattle.std.proofs.Common.{◌≡◌, ◌⊎◌, inl, inr, ℕ, Bool, true, false, List, [], ◌∷◌, All, Contains, Option, None, Some, refl, sym, arith}
use Rattle.std.proofs.lemmas.Bool.{false≢true}
use Rattle.std.proofs.lemmas.List.Elements.{All-nil, All-cons, All-head, All-tail}
use Rattle.std.proofs.lemmas.Slice.Eq.{bytes_eq-Decides}
use Rattle.std.specs.Bool.{Decides}
use Rattle.std.specs.Option.{IsSome}
use Rattle.std.specs.Str.{bytes_eq}
use Rattle.maid_model.specs.declared.diagrams.Kind.{Kind}
use Rattle.maid_model.specs.declared.diagrams.Kind.TheVariants.{Chance, Decision, Utility}
use Rattle.net_build.proofs.AttributeLemmas.{contains_none, contains_cases, contains_later}

pub dec_false : (b : Bool) → Dec (b ≡ false)
dec_false true = no (λ e. false≢true (sym e))
dec_false false = yes refl

pub dec_utility : (k : Kind) → Dec (k ≡ Utility)
dec_utility Chance = no (λ e. cc)
dec_utility Decision = no (λ e. cc)
dec_utility Utility = yes refl

pub dec_some : {X : Type 0} (o : Option X) → Dec (IsSome o)
dec_some None = no false≢true
dec_some (Some x) = yes refl

pub dec_none : {X : Type 0} (o : Option X) → Dec (o ≡ None)
dec_none None = yes refl
dec_none (Some x) = no (λ e. cc)

pub dec_not : {A : Type 0} → Dec A → Dec (A → ⊥)
dec_not (yes a) = no (λ n. n a)
dec_not (no n) = yes n

pub dec_both : {A B : Type 0} → Dec A → Dec B → Dec (A × B)
dec_both (yes a) (yes b) = yes (a, b)
dec_both (yes a) (no n) = no (λ h. n h.1)
dec_both (no n) d = no (λ h. n h.0)

pub dec_all : {X : Type 0} (P : X → Type 0) → ((x : X) → Dec (P x)) → (xs : List X) → Dec (All P xs)
dec_all P decide [] = yes (All-nil P)
dec_all P decide (x ∷ xs) = go (decide x) (dec_all P decide xs) where
  go : Dec (P x) → Dec (All P xs) → Dec (All P (x ∷ xs))
  go (yes p) (yes all) = yes (All-cons P x xs p all)
  go (yes p) (no n) = no (λ all. n (All-tail P x xs all))
  go (no n) d = no (λ all. n (All-head P x xs all))

dec_bytes : (xs ys : List ℕ) → Dec (xs ≡ ys)
dec_bytes xs ys = by_test (bytes_eq xs ys) (bytes_eq-Decides xs ys) where
  by_test : (b : Bool) → Decides b (xs ≡ ys) → Dec (xs ≡ ys)
  by_test true d = yes (d.0 refl)
  by_test false d = no (λ e. false≢true (d.1 e))

-- a word stands among others
pub dec_contains : (words : List (List ℕ)) (word : List ℕ) → Dec (Contains words word)
dec_contains [] word = no (contains_none word)
dec_contains (w ∷ words) word = go (dec_bytes w word) (dec_contains words word) where
  neither : (w ≡ word → ⊥) → (Contains words word → ⊥) → (w ≡ word) ⊎ Contains words word → ⊥
  neither n m (inl e) = n e
  neither n m (inr c) = m c

  go : Dec (w ≡ word) → Dec (Contains words word) → Dec (Contains (w ∷ words) word)
  go (yes e) d = yes (0, omega arith, e)
  go (no n) (yes c) = yes (contains_later w word words c)
  go (no n) (no m) = no (λ c. neither n m (contains_cases w word words c))

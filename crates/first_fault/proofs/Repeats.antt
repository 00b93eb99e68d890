-- The first repeat: where the numbers before it differ, the rest finds what the whole list has.
use Rattle.std.proofs.Common.{◌≡◌, ◌≢◌, ℕ, suc, ◌+◌, ◌<◌, inl, inr, List, [], ◌∷◌, ◌++◌, length, None, Some, refl, sym, ◌∙◌, ap, subst, append_assoc, length-append, arith}
use Rattle.std.specs.Prelude.{Contains, AllPairs}
use Rattle.std.proofs.Math.Seq.{get_or-append_seam}
use Rattle.std.proofs.lemmas.List.{append-nil, get_or_append_left, get_or_default}
use Rattle.std.proofs.lemmas.List.Quantifiers.{all_pairs_push}
use Rattle.first_fault.specs.Passes.{Pass, rule, each_after}
use Rattle.first_fault.specs.Tables.{FindsNoRepeat, FindsTheRepeat, IsFirstRepeat, repeats}

abbrev Differ : List ℕ → Type 0
Differ xs = AllPairs (λ n later. n ≢ later) xs

abbrev repeat_row : List ℕ → ℕ → Pass ℕ
repeat_row earlier n = rule (Contains earlier n) n

inside : (n m whole : ℕ) → whole ≡ n + suc m → n < whole
inside n m whole e = omega arith

-- and none stands before itself
not_earlier : (xs : List ℕ) (y : ℕ) (ys : List ℕ) → Differ (xs ++ y ∷ ys) → Contains xs y → ⊥
not_earlier xs y ys differ (k, h, e) =
    differ k (length xs) y h (inside (length xs) (length ys) (length (xs ++ y ∷ ys)) (length-append xs (y ∷ ys)))
    (get_or_append_left xs (y ∷ ys) y k h ∙ e ∙ sym (get_or-append_seam xs y ys y))

-- one more that stands not before
one_more : (xs : List ℕ) (y : ℕ) → Differ xs → (Contains xs y → ⊥) → Differ (xs ++ y ∷ [])
one_more xs y differ new = all_pairs_push (λ n later. n ≢ later) xs y differ (λ k d h e. new (k, h, get_or_default xs k y d h ∙ e))

moved : (earlier : List ℕ) (x : ℕ) (xs : List ℕ) → (earlier ++ x ∷ []) ++ xs ≡ earlier ++ x ∷ xs
moved earlier x xs = append_assoc earlier (x ∷ []) xs

none_to : (earlier xs : List ℕ) → Differ earlier → each_after repeat_row earlier xs None → Differ (earlier ++ xs)
none_to earlier [] differ h = subst Differ (sym (append-nil earlier)) differ
none_to earlier (x ∷ xs) differ h = subst Differ (moved earlier x xs) (none_to (earlier ++ x ∷ []) xs (one_more earlier x differ h.0) h.1)

none_from : (earlier xs : List ℕ) → Differ (earlier ++ xs) → each_after repeat_row earlier xs None
none_from earlier [] differ = tt
none_from earlier (x ∷ xs) differ = (not_earlier earlier x xs differ, none_from (earlier ++ x ∷ []) xs (subst Differ (sym (moved earlier x xs)) differ))

none_differ : Differ []
none_differ i j d l h = absurd (omega arith)

pub no_repeat : FindsNoRepeat
no_repeat numbers = (none_to [] numbers none_differ, none_from [] numbers)

record Splits (earlier xs : List ℕ) (n : ℕ) : Type 0 where
  before : List ℕ
  after : List ℕ
  is : xs ≡ before ++ n ∷ after
  differ : Differ (earlier ++ before)
  repeated : Contains (earlier ++ before) n

some_to : (earlier xs : List ℕ) (n : ℕ) → Differ earlier → each_after repeat_row earlier xs (Some n) → Splits earlier xs n
some_to earlier [] n differ h = absurd h
some_to earlier (x ∷ xs) n differ (inl h) = record {
  before = [];
  after = xs;
  is = ap (λ y. y ∷ xs) (sym h.1);
  differ = subst Differ (sym (append-nil earlier)) differ;
  repeated = subst (λ zs. Contains zs n) (sym (append-nil earlier)) (subst (Contains earlier) (sym h.1) h.0);
}
some_to earlier (x ∷ xs) n differ (inr h) = behind (some_to (earlier ++ x ∷ []) xs n (one_more earlier x differ h.0) h.1) where
  behind : Splits (earlier ++ x ∷ []) xs n → Splits earlier (x ∷ xs) n
  behind s = record {
    before = x ∷ s.before;
    after = s.after;
    is = ap (λ ys. x ∷ ys) s.is;
    differ = subst Differ (moved earlier x s.before) s.differ;
    repeated = subst (λ ys. Contains ys n) (moved earlier x s.before) s.repeated;
  }

some_from : (earlier before after : List ℕ) (n : ℕ) → Differ (earlier ++ before) → Contains (earlier ++ before) n → each_after repeat_row earlier (before ++ n ∷ after) (Some n)
some_from earlier [] after n differ h = inl (subst (λ ys. Contains ys n) (append-nil earlier) h, refl)
some_from earlier (x ∷ before) after n differ h =
    inr (not_earlier earlier x before differ, some_from (earlier ++ x ∷ []) before after n (subst Differ (sym (moved earlier x before)) differ) (subst (λ ys. Contains ys n) (sym (moved earlier x before)) h))

pub first_repeat : FindsTheRepeat
first_repeat numbers n = (to, λ r. subst (λ xs. repeats xs (Some n)) (sym r.is) (some_from [] r.before r.after n r.differ r.repeated)) where
  given : Splits [] numbers n → IsFirstRepeat numbers n
  given s = record { before = s.before; after = s.after; is = s.is; differ = s.differ; repeated = s.repeated }

  to : repeats numbers (Some n) → IsFirstRepeat numbers n
  to h = given (some_to [] numbers n none_differ h)

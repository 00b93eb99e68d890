-- The choice of a row, improved: the walk over the states, row by row, and gains that compare
-- alike.
use Rattle.std.proofs.Common.{◌≡◌, ◌∙◌, ◌⊎◌, ◌↔◌, ℕ, ◌+◌, ◌<◌, List, [], ◌∷◌, ◌++◌, All, None, length, length-append, slice_index_or, refl, sym, ap, subst, inl, inr, arith, pos, ℤ, ◌≤ℤ◌, ◌<ℤ◌}
use Rattle.std.proofs.lemmas.List.{get_or_append_left}
use Rattle.std.proofs.lemmas.List.Elements.{All-push}
use Rattle.std.proofs.Math.Decide.{ℕ_discrete}
use Rattle.std.proofs.lemmas.Int.{ints}
use Rattle.maid_model.specs.declared.answers.Row.{Row}
use Rattle.maid_model.specs.Answers.{no_row}
use Rattle.maid_model.specs.Gains.{gain_in}
use Rattle.reach_laws.specs.Updates.{IsImproved}
use Rattle.policy_update.specs.Steps.{state_gain}
use Rattle.reach_laws.proofs.Steps.{compare, row_cases}

-- what is not at most is greater, and what is greater is not at most
greater : (x y : ℤ) → ((y ≤ℤ x) → ⊥) → x <ℤ y
greater x y n = go (compare y x)
  where
    go : (y ≤ℤ x) ⊎ (x <ℤ y) → x <ℤ y
    go (inl h) = absurd (n h)
    go (inr h) = h

pub not_most : (x y : ℤ) → x <ℤ y → (y ≤ℤ x) → ⊥
not_most x y h k = omega (arith, ints)

-- the gains of the states compare alike
abbrev pub ComparesAlike : (ℕ → ℤ) → (ℕ → ℤ) → ℕ → Type 0
ComparesAlike g h n = (s t : ℕ) → s < n → t < n → (g s ≤ℤ g t) ↔ (h s ≤ℤ h t)

less_alike : (g h : ℕ → ℤ) (n : ℕ) → ComparesAlike g h n → (s t : ℕ) → s < n → t < n → g s <ℤ g t → h s <ℤ h t
less_alike g h n e s t k l less = greater (h s) (h t) (λ m. not_most (g s) (g t) less ((e t s l k).1 m))

less_back : (g h : ℕ → ℤ) (n : ℕ) → ComparesAlike g h n → (s t : ℕ) → s < n → t < n → h s <ℤ h t → g s <ℤ g t
less_back g h n e s t k l less = greater (g s) (g t) (λ m. not_most (h s) (h t) less ((e t s l k).0 m))

pub improved_alike : (g h : ℕ → ℤ) (n before after : ℕ) → ComparesAlike g h n → IsImproved g n before after → IsImproved h n before after
improved_alike g h n before after e i = record {
  was = i.was;
  within = i.within;
  keeps = λ all. i.keeps (λ s l. (e s before l i.was).1 (all s l));
  takes = λ s l less.
      let f = i.takes s l (less_back g h n e before s i.was l less) in
      record {
        within = f.within;
        greatest = λ t m. (e t after m f.within).0 (f.greatest t m);
        first = λ t m. less_alike g h n e t after (below t after n m f.within) f.within (f.first t m);
      };
}
  where
    below : (t a n : ℕ) → t < a → a < n → t < n
    below t a n h k = omega arith

-- equal gains compare alike
pub equal_alike : (g h : ℕ → ℤ) (n : ℕ) → ((s : ℕ) → s < n → g s ≡ h s) → ComparesAlike g h n
equal_alike g h n e s t k l = ((λ a. subst (λ x. x ≤ℤ h t) (e s k) (subst (λ y. g s ≤ℤ y) (e t l) a)), (λ a. subst (λ x. x ≤ℤ g t) (sym (e s k)) (subst (λ y. h s ≤ℤ y) (sym (e t l)) a)))

-- ---- a walk over the states
-- so far the best state is the old choice, or it gains more than that and is the first such
pub record IsBestSoFar (gain : ℕ → ℤ) (choice best k : ℕ) : Type 0 where
  pub kept : (best ≡ choice) ⊎ ((gain choice <ℤ gain best) × ((s : ℕ) → s < best → gain s <ℤ gain best))
  pub greatest : (s : ℕ) → s < k → gain s ≤ℤ gain best
  pub no_less : gain choice ≤ℤ gain best

at_most : (k s : ℕ) → s < k + 1 → (s ≡ k → ⊥) → s < k
at_most k s l n = omega (arith, l)

pub best_more : (gain : ℕ → ℤ) (choice best k : ℕ) → IsBestSoFar gain choice best k → gain best <ℤ gain k → IsBestSoFar gain choice k (k + 1)
best_more gain choice best k h more = record {
  kept = inr (after (gain choice) (gain best) (gain k) h.no_less more, λ s l. after (gain s) (gain best) (gain k) (h.greatest s l) more);
  greatest = λ s l. go s l (ℕ_discrete s k);
  no_less = less (gain choice) (gain k) (after (gain choice) (gain best) (gain k) h.no_less more);
}
  where
    after : (a b c : ℤ) → a ≤ℤ b → b <ℤ c → a <ℤ c
    after a b c h k = omega (arith, ints)

    less : (a b : ℤ) → a <ℤ b → a ≤ℤ b
    less a b h = omega (arith, ints)

    same : (a b : ℤ) → a ≡ b → a ≤ℤ b
    same a b e = omega (arith, ints)

    go : (s : ℕ) → s < k + 1 → Dec (s ≡ k) → gain s ≤ℤ gain k
    go s l (yes e) = same (gain s) (gain k) (ap gain e)
    go s l (no n) = less (gain s) (gain k) (after (gain s) (gain best) (gain k) (h.greatest s (at_most k s l n)) more)

pub best_same : (gain : ℕ → ℤ) (choice best k : ℕ) → IsBestSoFar gain choice best k → gain k ≤ℤ gain best → IsBestSoFar gain choice best (k + 1)
best_same gain choice best k h few = record { kept = h.kept; greatest = λ s l. go s l (ℕ_discrete s k); no_less = h.no_less }
  where
    go : (s : ℕ) → s < k + 1 → Dec (s ≡ k) → gain s ≤ℤ gain best
    go s l (yes e) = subst (λ z. gain z ≤ℤ gain best) (sym e) few
    go s l (no n) = h.greatest s (at_most k s l n)

-- a row has one improved choice, so one that changes does not stay
pub one_choice : (gain : ℕ → ℤ) (states before after : ℕ) → IsImproved gain states before after → IsImproved gain states before before → after ≡ before
one_choice gain states before after i j = go (row_cases gain states before after i)
  where
    go : ((after ≡ before) × ((s : ℕ) → s < states → gain s ≤ℤ gain before)) ⊎ (gain before <ℤ gain after) → after ≡ before
    go (inl h) = h.0
    go (inr less) = absurd (not_most (gain before) (gain after) less ((j.takes after i.within less).greatest after i.within))

-- a row that is improved by its own gains is improved by those of all rows
pub improved_in : (gains own : List ℤ) (states row before after : ℕ) → length own ≡ states → ((s : ℕ) → s < states → slice_index_or own s (pos 0) ≡ gain_in gains states s row) → IsImproved (state_gain own) (length own) before after
    → IsImproved (λ s. gain_in gains states s row) states before after
improved_in gains own states row before after count same h =
    improved_alike (state_gain own) (λ s. gain_in gains states s row) states before after (equal_alike (state_gain own) (λ s. gain_in gains states s row) states same) (subst (λ n. IsImproved (state_gain own) n before after) count h)

-- ---- row by row
-- the first rows, each improved by its own gains, and without worths
pub record AreImprovedTo (gain : ℕ → ℕ → ℤ) (states : ℕ) (before : List Row) (n : ℕ) (after : List Row) : Type 0 where
  pub count : length after ≡ n
  pub each : (row : ℕ) → row < n → IsImproved (λ s. gain s row) states (slice_index_or before row no_row).choice (slice_index_or after row no_row).choice
  pub worthless : All (λ (r : Row). r.worth ≡ None) after

pub rows_more : (gain : ℕ → ℕ → ℤ) (states : ℕ) (before : List Row) (n : ℕ) (after : List Row) (r : Row) → AreImprovedTo gain states before n after
    → IsImproved (λ s. gain s n) states (slice_index_or before n no_row).choice r.choice → r.worth ≡ None → AreImprovedTo gain states before (n + 1) (after ++ r ∷ [])
rows_more gain states before n after r h here none = record {
  count = length-append after (r ∷ []) ∙ ap (λ k. k + 1) h.count;
  each = λ row l. go row l (ℕ_discrete row n);
  worthless = All-push (λ (x : Row). x.worth ≡ None) after r h.worthless none;
}
  where
    last : slice_index_or (after ++ r ∷ []) n no_row ≡ r
    last = ap (λ k. slice_index_or (after ++ r ∷ []) k no_row) (sym h.count) ∙ end after
      where
        end : (xs : List Row) → slice_index_or (xs ++ r ∷ []) (length xs) no_row ≡ r
        end [] = refl
        end (x ∷ xs) = end xs

    go : (row : ℕ) → row < n + 1 → Dec (row ≡ n) → IsImproved (λ s. gain s row) states (slice_index_or before row no_row).choice (slice_index_or (after ++ r ∷ []) row no_row).choice
    go row l (yes e) = subst (λ k. IsImproved (λ s. gain s k) states (slice_index_or before k no_row).choice (slice_index_or (after ++ r ∷ []) k no_row).choice) (sym e)
        (subst (λ x. IsImproved (λ s. gain s n) states (slice_index_or before n no_row).choice x.choice) (sym last) here)
    go row l (no m) = subst (λ x. IsImproved (λ s. gain s row) states (slice_index_or before row no_row).choice x.choice) (sym (get_or_append_left after (r ∷ []) no_row row (subst (λ k. row < k) (sym h.count) (at_most n row l m)))) (h.each row (at_most n row l m))

-- A list grows by one item.
use Rattle.std.proofs.Common.{◌≡◌, ◌∙◌, ℕ, ◌+◌, ◌<◌, ◌≤◌, List, [], ◌∷◌, ◌++◌, length, get_or, inl, inr, sym, ap, subst, arith}
use Rattle.std.proofs.lemmas.Bool.{cases_lt}
use Rattle.std.proofs.lemmas.List.{get_or_append_left, get_or_push, length_push}

module _ {A : Type 0} (xs ys : List A) (x : A) (n : ℕ) (grown : ys ≡ xs ++ x ∷ []) (count : length xs ≡ n) where
  pub one_more : length ys ≡ n + 1
  one_more = ap length grown ∙ length_push xs x ∙ ap (λ k. k + 1) count

  -- each item so far has its fact, and so has the next
  pub each_more : (P : ℕ → A → Type 0) (d : A) → ((k : ℕ) → k < n → P k (get_or xs k d)) → P n x → (k : ℕ) → k < n + 1 → P k (get_or ys k d)
  each_more P d h here k l = elim (cases_lt k n) as (λ _. P k (get_or ys k d)) [
    | inl less ↦
        subst (P k) (sym (ap (λ zs. get_or zs k d) grown ∙ get_or_append_left xs (x ∷ []) d k (subst (λ m. k < m) (sym count) less))) (h k less)
    | inr more ↦
        let same : n ≡ k = omega arith in
        subst (λ j. P j (get_or ys j d)) same (subst (P n) (sym (ap (λ zs. get_or zs n d) grown ∙ get_or_push xs x d n count)) here)
  ]

-- a loop that has come to its end
pub at_end : (i end n : ℕ) → end ≤ i → i ≤ end → end ≡ n → i ≡ n
at_end i end n h k e = omega arith

pub below_end : (i end n : ℕ) → i < end → end ≡ n → i < n
below_end i end n h e = omega arith

-- The numbers of a range, one number more at a time.
use Rattle.std.proofs.Common.{◌≡◌, ◌∙◌, ℕ, zero, suc, ◌+◌, [], ◌∷◌, ◌++◌, Bool, true, false, cond, filter, ap, arith, add-one}
use Rattle.std.proofs.lemmas.List.{append-nil}
use Rattle.std.proofs.lemmas.List.Elements.{filter-append}
use Rattle.std.specs.List.{range_with_len}

-- one number more stands at the end
pub range_push : (k n : ℕ) → range_with_len k (suc n) ≡ range_with_len k n ++ (k + n) ∷ []
range_push k zero = ap (λ x. x ∷ []) (omega arith)
range_push k (suc n) = ap (λ x. k ∷ x) (range_push (k + 1) n ∙ ap (λ x. range_with_len (k + 1) n ++ x ∷ []) (omega arith))

-- and of those that pass a test, if it passes
pub filter_more : (p : ℕ → Bool) (n : ℕ) → filter p (range_with_len 0 (n + 1)) ≡ filter p (range_with_len 0 n) ++ cond (p n) (n ∷ []) []
filter_more p n =
    ap (λ k. filter p (range_with_len 0 k)) (add-one n) ∙ ap (filter p) (range_push 0 n) ∙ filter-append p (range_with_len 0 n) ((0 + n) ∷ [])
    ∙ ap (λ k. filter p (range_with_len 0 n) ++ filter p (k ∷ [])) (none n)
  where
    none : (k : ℕ) → 0 + k ≡ k
    none k = omega arith

-- it stands at the end where it passes
pub filter_yes : (p : ℕ → Bool) (n : ℕ) → p n ≡ true → filter p (range_with_len 0 (n + 1)) ≡ filter p (range_with_len 0 n) ++ n ∷ []
filter_yes p n e = filter_more p n ∙ ap (λ b. filter p (range_with_len 0 n) ++ cond b (n ∷ []) []) e

-- and is left out where it doesn't
pub filter_no : (p : ℕ → Bool) (n : ℕ) → p n ≡ false → filter p (range_with_len 0 (n + 1)) ≡ filter p (range_with_len 0 n)
filter_no p n e = filter_more p n ∙ ap (λ b. filter p (range_with_len 0 n) ++ cond b (n ∷ []) []) e ∙ append-nil (filter p (range_with_len 0 n))

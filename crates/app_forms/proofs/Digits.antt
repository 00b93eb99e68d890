-- The digits of small numbers, and the search for the number whose digits a word is.
use Rattle.std.proofs.Common.{◌≡◌, ◌∙◌, ℕ, suc, ◌+◌, ◌-◌, ◌/◌, ◌%◌, ◌<◌, ◌≤◌, Bool, true, false, cond, [], ◌∷◌, ◌++◌, Some, ap, arith, decimal}
use Rattle.std.proofs.lemmas.Fmt.{decimal_digit, decimal_step}
use Rattle.std.specs.Prelude.{find}
use Rattle.std.specs.List.{range_with_len}

-- a number from 10 to 99 has two digits
pub two_digits : (k : ℕ) → 10 ≤ k → k < 100 → decimal k ≡ (48 + k / 10) ∷ (48 + k % 10) ∷ []
two_digits k more less = decimal_step k more (omega (arith, less)) ∙ ap (λ xs. xs ++ (48 + k % 10) ∷ []) (decimal_digit (k / 10) (omega (arith, less)))

-- the first of the numbers from k to 60 is k or one of those behind it
step : (p : ℕ → Bool) (k : ℕ) → k ≤ 60 → find p (range_with_len k (61 - k)) ≡ cond (p k) (Some k) (find p (range_with_len (k + 1) (61 - (k + 1))))
step p k h = let e : 61 - k ≡ suc (61 - (k + 1)) = omega (arith, h) in ap (λ n. find p (range_with_len k n)) e

pub found_here : (p : ℕ → Bool) (k : ℕ) → k ≤ 60 → p k ≡ true → find p (range_with_len k (61 - k)) ≡ Some k
found_here p k h e = step p k h ∙ ap (λ b. cond b (Some k) (find p (range_with_len (k + 1) (61 - (k + 1))))) e

pub found_behind : (p : ℕ → Bool) (k : ℕ) → k ≤ 60 → p k ≡ false → find p (range_with_len k (61 - k)) ≡ find p (range_with_len (k + 1) (61 - (k + 1)))
found_behind p k h e = step p k h ∙ ap (λ b. cond b (Some k) (find p (range_with_len (k + 1) (61 - (k + 1))))) e

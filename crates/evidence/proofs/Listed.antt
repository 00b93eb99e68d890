-- A list with one entry more.
use Rattle.std.proofs.Common.{◌≡◌, ℕ, zero, suc, ◌+◌, ◌<◌, List, [], ◌∷◌, ◌++◌, length, slice_index_or, arith}

pub long_more : {X : Type 0} (xs : List X) (x : X) → length (xs ++ x ∷ []) ≡ length xs + 1
long_more [] x = omega arith
long_more (y ∷ xs) x = let e = long_more xs x in omega arith

-- what holds of each place and of the new entry holds of each place then
pub at_more : {X : Type 0} (P : ℕ → X → Type 0) (xs : List X) (x d : X) → ((u : ℕ) → u < length xs → P u (slice_index_or xs u d)) → ((n : ℕ) → n ≡ length xs → P n x)
    → (u : ℕ) → u < length xs + 1 → P u (slice_index_or (xs ++ x ∷ []) u d)
at_more P [] x d each last zero l = last zero (omega arith)
at_more P [] x d each last (suc u) l = absurd (omega (arith, l))
at_more P (y ∷ xs) x d each last zero l = each zero (omega arith)
at_more P (y ∷ xs) x d each last (suc u) l = at_more (λ v. P (suc v)) xs x d (λ v m. each (suc v) (omega (arith, m))) (λ n e. last (suc n) (omega (arith, e))) u (omega (arith, l))

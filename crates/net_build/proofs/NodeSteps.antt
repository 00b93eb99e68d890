-- A list of items, each with a property of its place, goes on by one.
use Rattle.std.proofs.Common.{◌≡◌, ◌⊎◌, inl, inr, ℕ, ◌+◌, ◌<◌, List, [], ◌∷◌, ◌++◌, length, get_or, arith}
use Rattle.std.proofs.Math.ListN.{get_or-append}
use Rattle.std.proofs.Math.Seq.{get_or-append_seam}

-- one more item of which the property of its place holds
pub items_more : {X : Type 0} (P : ℕ → X → Type 0) (xs new : List X) (x : X) (n : ℕ) → length xs ≡ n → ((v : ℕ) (d : X) → v < n → P v (get_or xs v d)) → P n x → new ≡ xs ++ x ∷ [] → (v : ℕ) (d : X) → v < n + 1 → P v (get_or new v d)
items_more P xs new x n len all this is v d h = rw is (by_place (split v n h)) where
  split : (a b : ℕ) → a < b + 1 → (a < b) ⊎ (a ≡ b)
  split a b l = grind arith

  by_place : (v < n) ⊎ (v ≡ n) → P v (get_or (xs ++ x ∷ []) v d)
  by_place (inl l) = rw (get_or-append xs (x ∷ []) d v (omega (arith, len, l))) (all v d l)
  by_place (inr e) = rw (e, ← len, get_or-append_seam xs x [] d) (rw len this)

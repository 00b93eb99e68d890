-- Lists with one member behind the others.
use Rattle.std.proofs.Common.{◌≡◌, ℕ, List, [], ◌∷◌, ◌++◌, drop, get_or, length, length-append, refl, sym, ap, arith}

-- such a list is not empty
behind_some : (xs : List ℕ) (x : ℕ) → 0 ≡ length (xs ++ x ∷ []) → ⊥
behind_some xs x e = let more = length-append xs (x ∷ []) in omega (arith, e, more)

-- two such lists are the same only where their parts are
pub parts_same : (xs ys : List ℕ) (x y : ℕ) → xs ++ x ∷ [] ≡ ys ++ y ∷ [] → (xs ≡ ys) × (x ≡ y)
parts_same [] [] x y e = (refl, ap (λ (l : List ℕ). get_or l 0 0) e)
parts_same [] (v ∷ ys) x y e = absurd (behind_some ys y (ap (λ (l : List ℕ). length (drop 1 l)) e))
parts_same (u ∷ xs) [] x y e = absurd (behind_some xs x (sym (ap (λ (l : List ℕ). length (drop 1 l)) e)))
parts_same (u ∷ xs) (v ∷ ys) x y e =
    let first : u ≡ v = ap (λ (l : List ℕ). get_or l 0 0) e in
    let rest = parts_same xs ys x y (ap (λ (l : List ℕ). drop 1 l) e) in
    ((λ i. first i ∷ rest.0 i), rest.1)

-- Lists whose elements are related one by one.
use Rattle.std.proofs.Common.{◌≡◌, ℕ, zero, suc, ◌<◌, List, [], ◌∷◌, length, get_or, refl, ap, arith}
use Rattle.std.specs.List.{AllZip}

pub zip_length : {X Y : Type 0} (R : X → Y → Type 0) (xs : List X) (ys : List Y) → AllZip R xs ys → length ys ≡ length xs
zip_length R [] [] h = refl
zip_length R [] (y ∷ ys) h = absurd h
zip_length R (x ∷ xs) [] h = absurd h
zip_length R (x ∷ xs) (y ∷ ys) h = ap suc (zip_length R xs ys h.1)

pub zip_at : {X Y : Type 0} (R : X → Y → Type 0) (xs : List X) (ys : List Y) → AllZip R xs ys → (i : ℕ) (d : X) (e : Y) → i < length ys → R (get_or xs i d) (get_or ys i e)
zip_at R [] [] h i d e l = absurd (omega arith)
zip_at R [] (y ∷ ys) h i d e l = absurd h
zip_at R (x ∷ xs) [] h i d e l = absurd h
zip_at R (x ∷ xs) (y ∷ ys) h zero d e l = h.0
zip_at R (x ∷ xs) (y ∷ ys) h (suc i) d e l = zip_at R xs ys h.1 i d e (omega arith)

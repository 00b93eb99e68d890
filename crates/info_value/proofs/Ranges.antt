-- Lists made of the numbers of a range, one number after another.
use Rattle.std.proofs.Common.{◌≡◌, ◌∙◌, ℕ, ◌+◌, List, [], ◌∷◌, ◌++◌, Bool, true, false, cond, filter, map, flat_map, refl, ap}
use Rattle.std.proofs.lemmas.Grind.{flat_map-append}
use Rattle.std.proofs.lemmas.List.{append-nil, map-append}
use Rattle.std.specs.List.{range_with_len}
use Rattle.finite_sums.proofs.Ranges.{filter_more}

-- what it is mapped to stands at the end
pub pairs_more : {A : Type 0} (p : ℕ → Bool) (f : ℕ → A) (n : ℕ) → map f (filter p (range_with_len 0 (n + 1))) ≡ map f (filter p (range_with_len 0 n)) ++ cond (p n) (f n ∷ []) []
pairs_more p f n = ap (map f) (filter_more p n) ∙ map-append f (filter p (range_with_len 0 n)) (cond (p n) (n ∷ []) []) ∙ ap (λ ys. map f (filter p (range_with_len 0 n)) ++ ys) (at (p n))
  where
    at : (b : Bool) → map f (cond b (n ∷ []) []) ≡ cond b (f n ∷ []) []
    at true = refl
    at false = refl

pub lists_more : {A : Type 0} (p : ℕ → Bool) (f : ℕ → List A) (n : ℕ) → flat_map f (filter p (range_with_len 0 (n + 1))) ≡ flat_map f (filter p (range_with_len 0 n)) ++ cond (p n) (f n) []
lists_more p f n = ap (flat_map f) (filter_more p n) ∙ flat_map-append f (filter p (range_with_len 0 n)) (cond (p n) (n ∷ []) []) ∙ ap (λ ys. flat_map f (filter p (range_with_len 0 n)) ++ ys) (at (p n))
  where
    at : (b : Bool) → flat_map f (cond b (n ∷ []) []) ≡ cond b (f n) []
    at true = append-nil (f n)
    at false = refl

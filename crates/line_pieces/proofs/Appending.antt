-- One more piece behind the pieces so far.
use Rattle.std.proofs.Common.{◌≡◌, ℕ, ◌+◌, ◌<◌, List, [], ◌∷◌, ◌++◌, map, length, take, get_or, flat_map, refl, sym, ap, ◌∙◌, Ok, Err}
use Rattle.std.specs.Bool.{if◌then◌else◌}
use Rattle.std.specs.Prelude.{Result}
use Rattle.std.specs.Result.{OnOk, is_ok}
use Rattle.std.proofs.lemmas.List.{take_more, append_assoc, append-nil}
use Rattle.std.proofs.lemmas.Grind.{flat_map-append}

one_more : {A : Type 0} (f : A → List ℕ) (xs : List A) (i : ℕ) (d : A) → i < length xs → flat_map f (take (i + 1) xs) ≡ flat_map f (take i xs) ++ f (get_or xs i d)
one_more f xs i d l = ap (λ ys. flat_map f ys) (take_more xs i d l) ∙ flat_map-append f (take i xs) (get_or xs i d ∷ []) ∙ ap (λ ys. flat_map f (take i xs) ++ ys) (append-nil (f (get_or xs i d)))

pub piece_more : {A : Type 0} (f : A → List ℕ) (xs : List A) (i : ℕ) (d : A) (start before after : List ℕ) → i < length xs → before ≡ start ++ flat_map f (take i xs) → after ≡ before ++ f (get_or xs i d) → after ≡ start ++ flat_map f (take (i + 1) xs)
piece_more f xs i d start before after l so_far more =
    more ∙ ap (λ ys. ys ++ f (get_or xs i d)) so_far ∙ append_assoc start (flat_map f (take i xs)) (f (get_or xs i d)) ∙ ap (λ ys. start ++ ys) (sym (one_more f xs i d l))

map_flat : {A : Type 0} (f : A → List ℕ) (xs : List A) → flat_map (λ piece. 32 ∷ piece) (map f xs) ≡ flat_map (λ x. 32 ∷ f x) xs
map_flat f [] = refl
map_flat f (x ∷ xs) = ap (λ ys. (32 ∷ f x) ++ ys) (map_flat f xs)

-- the same for pieces that each stand after one space
pub spaced_more : {A : Type 0} (f : A → List ℕ) (xs : List A) (i : ℕ) (d : A) (start before spaced after : List ℕ) → i < length xs
    → before ≡ start ++ flat_map (λ piece. 32 ∷ piece) (map f (take i xs)) → spaced ≡ before ++ 32 ∷ [] → after ≡ spaced ++ f (get_or xs i d)
    → after ≡ start ++ flat_map (λ piece. 32 ∷ piece) (map f (take (i + 1) xs))
spaced_more f xs i d start before spaced after l so_far space more =
    piece_more (λ x. 32 ∷ f x) xs i d start before after l (so_far ∙ ap (λ ys. start ++ ys) (map_flat f (take i xs)))
    (more ∙ ap (λ ys. ys ++ f (get_or xs i d)) space ∙ append_assoc before (32 ∷ []) (f (get_or xs i d)))
    ∙ ap (λ ys. start ++ ys) (sym (map_flat f (take (i + 1) xs)))

-- what a call appends where it ends well
pub on_ok : {R E : Type 0} (r : Result R E) (before text after : List ℕ) → after ≡ (if is_ok r then before ++ text else before) → OnOk r (after ≡ before ++ text)
on_ok (Ok x) before text after e = e
on_ok (Err x) before text after e = tt

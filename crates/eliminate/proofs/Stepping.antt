-- The parts of a list that a test leaves, as one step over stored tables takes them.
use Rattle.std.proofs.Common.{◌≡◌, ◌+◌, ◌<◌, ◌≤◌, Bool, true, not, filter, List, [], ◌∷◌, length, refl, arith, All}
use Rattle.std.proofs.lemmas.List.Filters.{length-filter_both}
use Rattle.ring_sums.proofs.Each.{Each, each_of, all_of, each_map, each_filter}

-- a part of what all have
pub all_filter : {X : Type 0} (P : X → Type 0) (p : X → Bool) (xs : List X) → All P xs → All P (filter p xs)
all_filter P p xs h = all_of P (filter p xs) (each_map (λ x. P x × (p x ≡ true)) P (λ x k. k.0) (filter p xs) (each_filter P p xs (each_of P xs h)))

-- and what the test says
pub all_pass : {X : Type 0} (p : X → Bool) (xs : List X) → All (λ x. p x ≡ true) (filter p xs)
all_pass {X} p xs = all_of (λ x. p x ≡ true) (filter p xs) (each_map (λ x. Unit {0} × (p x ≡ true)) (λ x. p x ≡ true) (λ x k. k.1) (filter p xs) (each_filter (λ x. Unit {0}) p xs (units xs)))
  where
    units : (ys : List X) → Each (λ x. Unit {0}) ys
    units [] = tt
    units (y ∷ ys) = (tt, units ys)

-- where one leaves, there is a place
pub fewer : {X : Type 0} (p : X → Bool) (xs : List X) → 0 < length (filter p xs) → length (filter (λ x. not (p x)) xs) + 1 ≤ length xs
fewer p xs some = omega (arith, length-filter_both p (λ x. not (p x)) (λ x. refl) xs)

-- The kept nodes of a part: their list, and their numbers in it.
use Rattle.std.proofs.Common.{◌≡◌, ◌∙◌, ◌↔◌, ℕ, ◌+◌, ◌<◌, Bool, true, cond, List, [], ◌∷◌, ◌++◌, map, filter, length, slice_index, refl, sym, ap, subst, inl, inr, arith}
use Rattle.std.specs.List.{range_with_len}
use Rattle.std.specs.Prelude.{Contains, slice_set}
use Rattle.std.proofs.lemmas.Bool.{cases_eq}
use Rattle.std.proofs.lemmas.List.{get_or-set_same, get_or-set_other, get_or_default}
use Rattle.std.proofs.lemmas.List.FromFn.{filter_of_map_range_with_len_more}
use Rattle.std.proofs.Math.Decide.{ℕ_discrete}
use Rattle.finite_sums.specs.Members.{Among}
use Rattle.finite_sums.proofs.Lists.{among_filter}
use Rattle.finite_sums.proofs.Members.{among_from_contains, contains_from_among, filter_has}
use Rattle.maid_laws.proofs.Booleans.{bool_same}
use Rattle.maid_laws.proofs.Members.{apart_of}
use Rattle.maid_model.specs.Graph.{AllDifferent}
use Rattle.maid_model.specs.Parts.{place_in}
use Rattle.part_laws.proofs.Places.{place_at}

-- ---- lists that a test picks
map_itself : (xs : List ℕ) → map (λ x. x) xs ≡ xs
map_itself [] = refl
map_itself (x ∷ xs) = ap (λ l. x ∷ l) (map_itself xs)

-- one number more
pub picked_more : (p : ℕ → Bool) (n : ℕ) → filter p (range_with_len 0 (n + 1)) ≡ filter p (range_with_len 0 n) ++ cond (p n) (n ∷ []) []
picked_more p n =
    ap (filter p) (sym (map_itself (range_with_len 0 (n + 1))))
    ∙ filter_of_map_range_with_len_more p (λ x. x) 0 n n (omega arith)
    ∙ ap (λ l. filter p l ++ cond (p n) (n ∷ []) []) (map_itself (range_with_len 0 n))

-- tests that agree on the list pick the same
picked_same : (p q : ℕ → Bool) (xs : List ℕ) → ((v : ℕ) → Among v xs → p v ≡ q v) → filter p xs ≡ filter q xs
picked_same p q [] h = refl
picked_same p q (x ∷ xs) h =
    let rest = picked_same p q xs (λ v m. h v (inr m)) in
    λ i. cond (h x (inl refl) i) (x ∷ rest i) (rest i)

-- a test of what another picks picks the same
pub picked_told : (p q : ℕ → Bool) (xs : List ℕ) → ((v : ℕ) → (p v ≡ true) ↔ Contains (filter q xs) v) → filter p xs ≡ filter q xs
picked_told p q xs h = picked_same p q xs (λ v m. bool_same (p v) (q v)
    (λ e. (among_filter q v xs (among_from_contains (filter q xs) v ((h v).0 e))).1)
    (λ e. (h v).1 (contains_from_among (filter q xs) v (filter_has q v xs m e))))

-- functions that agree on the list
pub mapped_same : (f g : ℕ → ℕ) (us : List ℕ) → ((u : ℕ) → Contains us u → f u ≡ g u) → map f us ≡ map g us
mapped_same f g us h = go us (λ u m. h u (contains_from_among us u m))
  where
    go : (us : List ℕ) → ((u : ℕ) → Among u us → f u ≡ g u) → map f us ≡ map g us
    go [] h = refl
    go (u ∷ us) h = let rest = go us (λ x m. h x (inr m)) in λ i. h u (inl refl) i ∷ rest i

-- ---- places
-- of the first n of the list the places are told
abbrev pub Told : List ℕ → List ℕ → ℕ → Type 0
Told kept places n = (k : ℕ) → k < n → slice_index places (slice_index kept k) ≡ place_in kept (slice_index kept k)

pub told_more : (kept places : List ℕ) (n : ℕ) → AllDifferent kept → n < length kept → slice_index kept n < length places → Told kept places n → Told kept (slice_set places (slice_index kept n) n) (n + 1)
told_more kept places n differ l m h k b = go (ℕ_discrete (slice_index kept k) (slice_index kept n))
  where
    there : slice_index (slice_set places (slice_index kept n) n) (slice_index kept n) ≡ place_in kept (slice_index kept n)
    there = get_or-set_same places (slice_index kept n) n 0 m ∙ sym (place_at kept (apart_of kept differ) n l)

    go : Dec (slice_index kept k ≡ slice_index kept n) → slice_index (slice_set places (slice_index kept n) n) (slice_index kept k) ≡ place_in kept (slice_index kept k)
    go (yes e) = subst (λ v. slice_index (slice_set places (slice_index kept n) n) v ≡ place_in kept v) (sym e) there
    go (no ne) = get_or-set_other places (slice_index kept n) (slice_index kept k) n 0 ne ∙ h k (elim (cases_eq k n) as (λ _. k < n) [
      | inl e ↦ absurd (ne (ap (slice_index kept) e))
      | inr other ↦ omega arith
    ])

pub told_all : (kept places : List ℕ) (n : ℕ) → length kept ≡ n → Told kept places n → (v : ℕ) → Contains kept v → slice_index places v ≡ place_in kept v
told_all kept places n e h v m =
    let l = m.1 in
    subst (λ u. slice_index places u ≡ place_in kept u) (sym (get_or_default kept m.0 v 0 m.1) ∙ m.2) (h m.0 (omega arith))

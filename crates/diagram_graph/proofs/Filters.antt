-- Lists of parents that lose some.
use Rattle.std.proofs.Common.{◌≡◌, ◌∙◌, ℕ, ◌*◌, ◌<◌, ◌≤◌, Bool, true, false, not, cond, filter, List, [], ◌∷◌, length, refl, subst, arith}
use Rattle.std.specs.List.Retain.{RetainsInTurn}
use Rattle.std.proofs.lemmas.List.Filters.{length-filter_both}
use Rattle.std.proofs.lemmas.Nat.{mul-le}
use Rattle.maid_model.specs.Nodes.{rows_under}
use Rattle.finite_sums.specs.Sums.{nat_sum_over}

-- where no call changes the closure or the element, `retain` leaves what passes the test
pub filter_retained : {X F : Type 0} (R : F → X → Bool → F → X → Type 0) (test : X → Bool) (f : F)
    → ((x : X) (b : Bool) (f' : F) (y : X) → R f x b f' y → (b ≡ test x) × (f' ≡ f) × (y ≡ x))
    → (xs ys : List X) → RetainsInTurn R f xs ys → ys ≡ filter test xs
filter_retained R test f says [] ys h = h
filter_retained R test f says (x ∷ xs) ys h =
    let said = says x h.0 h.1 h.2 h.3 in
    let later = subst (λ g. RetainsInTurn R g xs h.4) said.1 h.5 in
    let rest = filter_retained R test f says xs h.4 later in
    h.6 ∙ (λ i. cond (said.0 i) (said.2 i ∷ rest i) (rest i))

pub filter_le : (p : ℕ → Bool) (xs : List ℕ) → length (filter p xs) ≤ length xs
filter_le p xs = let e = length-filter_both p (λ x. not (p x)) (λ x. refl) xs in omega arith

-- fewer parents, fewer rows
pub rows_le : (count : ℕ → ℕ) → ((v : ℕ) → 0 < count v) → (p : ℕ → Bool) (us : List ℕ) → rows_under count (filter p us) ≤ rows_under count us
rows_le count has p [] = omega arith
rows_le count has p (u ∷ us) = at (p u) (rows_le count has p us)
  where
    at : (b : Bool) → rows_under count (filter p us) ≤ rows_under count us → rows_under count (cond b (u ∷ filter p us) (filter p us)) ≤ count u * rows_under count us
    at true h = mul-le (count u) (rows_under count (filter p us)) (count u) (rows_under count us) (omega arith) h
    at false h = let one : 1 * rows_under count us ≤ count u * rows_under count us = mul-le 1 (rows_under count us) (count u) (rows_under count us) (has u) (omega arith) in omega arith

pub sum_over_le : (f g : ℕ → ℕ) → ((v : ℕ) → f v ≤ g v) → (vs : List ℕ) → nat_sum_over f vs ≤ nat_sum_over g vs
sum_over_le f g h [] = omega arith
sum_over_le f g h (v ∷ vs) = let a = h v in let b = sum_over_le f g h vs in omega arith

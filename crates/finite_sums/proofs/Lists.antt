-- Lists of node numbers.
use Rattle.std.proofs.Common.{◌≡◌, ◌⊎◌, ◌∙◌, ℕ, Bool, true, false, cond, filter, List, [], ◌∷◌, ◌++◌, refl, sym, ap, inl, inr, ℤ, ◌*ℤ◌}
use Rattle.std.proofs.Math.Decide.{ℕ_discrete}
use Rattle.finite_sums.specs.Members.{Among, Shuffled, none, put}
use Rattle.finite_sums.specs.Looks.{Ignores, IgnoresAll, EachIgnoresAll}
use Rattle.finite_sums.specs.Sums.{World, with_state, sum_over, product_over}
use Rattle.finite_sums.proofs.Ints.{mul_left_comm}
use Rattle.finite_sums.proofs.Sums.{sum_below_cong, sum_over_front}
use Rattle.finite_sums.specs.Members.{Avoids}

pub avoids : (u : ℕ) (xs : List ℕ) → ¬ (Among u xs) → Avoids u xs
avoids u [] h = tt
avoids u (x ∷ xs) h = ((λ e. h (inl (sym e))), avoids u xs (λ m. h (inr m)))

pub decide_among : (u : ℕ) (xs : List ℕ) → Dec (Among u xs)
decide_among u [] = no (λ h. h)
decide_among u (x ∷ xs) = go (ℕ_discrete u x) (decide_among u xs)
  where
    go : Dec (u ≡ x) → Dec (Among u xs) → Dec ((u ≡ x) ⊎ Among u xs)
    go (yes e) d = yes (inl e)
    go (no n) (yes m) = yes (inr m)
    go (no n) (no k) = no (λ h. elim h [ inl e ↦ n e | inr m ↦ k m ])

-- what a filter keeps is in the list and passes
pub among_filter : (p : ℕ → Bool) (x : ℕ) (xs : List ℕ) → Among x (filter p xs) → Among x xs × (p x ≡ true)
among_filter p x [] h = absurd h
among_filter p x (y ∷ ys) h = go (p y) refl (λ m. among_filter p x ys m) h
  where
    go : (b : Bool) → p y ≡ b → (Among x (filter p ys) → Among x ys × (p x ≡ true)) → Among x (cond b (y ∷ filter p ys) (filter p ys)) → Among x (y ∷ ys) × (p x ≡ true)
    go true e r (inl f) = (inl f, ap p f ∙ e)
    go true e r (inr m) = (inr (r m).0, (r m).1)
    go false e r m = (inr (r m).0, (r m).1)

pub all_ignored : (count : ℕ → ℕ) (f : World → ℤ) (us : List ℕ) → ((u : ℕ) → Among u us → Ignores count f u) → IgnoresAll count f us
all_ignored count f [] h = tt
all_ignored count f (u ∷ us) h = (h u (inl refl), all_ignored count f us (λ x m. h x (inr m)))

pub each_ignored : (count : ℕ → ℕ) (table : ℕ → World → ℤ) (vs us : List ℕ) → ((v : ℕ) → Among v vs → (u : ℕ) → Among u us → Ignores count (table v) u) → EachIgnoresAll count table vs us
each_ignored count table [] us h = tt
each_ignored count table (v ∷ vs) us h = (all_ignored count (table v) us (h v (inl refl)), each_ignored count table vs us (λ x m. h x (inr m)))

pub product_over-front : (f : ℕ → ℤ) (us : List ℕ) (v : ℕ) (vs : List ℕ) → product_over f (us ++ v ∷ vs) ≡ f v *ℤ product_over f (us ++ vs)
product_over-front f [] v vs = refl
product_over-front f (u ∷ us) v vs = ap (λ x. f u *ℤ x) (product_over-front f us v vs) ∙ mul_left_comm (f u) (f v) (product_over f (us ++ vs))

pub product_over-shuffled : (f : ℕ → ℤ) {xs ys : List ℕ} → Shuffled xs ys → product_over f xs ≡ product_over f ys
product_over-shuffled f none = refl
product_over-shuffled f (put {x} front back s) = ap (λ y. f x *ℤ y) (product_over-shuffled f s) ∙ sym (product_over-front f front x back)

pub sum_over-shuffled : (count : ℕ → ℕ) (f : World → ℤ) {xs ys : List ℕ} → Shuffled xs ys → (w : World) → sum_over count xs f w ≡ sum_over count ys f w
sum_over-shuffled count f none w = refl
sum_over-shuffled count f (put {x} {xs} front back s) w =
    sum_below_cong (count x) (λ t. sum_over count xs f (with_state w x t)) (λ t. sum_over count (front ++ back) f (with_state w x t)) (λ t l. sum_over-shuffled count f s (with_state w x t))
    ∙ sym (sum_over_front count front x back f w)

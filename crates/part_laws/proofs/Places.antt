-- Members of a list by their places, and sums over members by sums over places.
use Rattle.std.proofs.Common.{◌≡◌, ◌≢◌, ◌⊎◌, ◌∙◌, ℕ, zero, suc, ◌+◌, ◌*◌, ◌<◌, cond, List, [], ◌∷◌, map, length, slice_index, refl, sym, ap, subst, inl, inr, arith, ℤ, ◌+ℤ◌, ◌*ℤ◌}
use Rattle.std.proofs.Math.Decide.{ℕ_discrete}
use Rattle.std.proofs.Math.Path.{fun_ext}
use Rattle.std.specs.List.{range_with_len}
use Rattle.finite_sums.specs.Sums.{World, with_state, sum_below, sum_over, sum_each, product_over, nat_product_over, nat_sum_over}
use Rattle.finite_sums.specs.Members.{Among}
use Rattle.finite_sums.proofs.Lists.{decide_among}
use Rattle.finite_sums.proofs.Sums.{sum_below_cong}
use Rattle.maid_model.specs.Parts.{place_in}
use Rattle.maid_laws.proofs.Booleans.{eqb_yes, eqb_no}
use Rattle.maid_laws.proofs.Collapse.{Apart}
use Rattle.maid_laws.proofs.Members.{not_among}

place_here : (x v : ℕ) (xs : List ℕ) → x ≡ v → place_in (x ∷ xs) v ≡ 0
place_here x v xs e = ap (λ b. cond b 0 (suc (place_in xs v))) (eqb_yes x v e)

place_there : (x v : ℕ) (xs : List ℕ) → x ≢ v → place_in (x ∷ xs) v ≡ suc (place_in xs v)
place_there x v xs n = ap (λ b. cond b 0 (suc (place_in xs v))) (eqb_no x v n)

-- at a member's place stands the member
pub at_place : (xs : List ℕ) (v : ℕ) → Among v xs → slice_index xs (place_in xs v) ≡ v
at_place [] v m = absurd m
at_place (x ∷ xs) v m = go (ℕ_discrete x v) m (λ k. at_place xs v k)
  where
    go : Dec (x ≡ v) → (v ≡ x) ⊎ Among v xs → (Among v xs → slice_index xs (place_in xs v) ≡ v) → slice_index (x ∷ xs) (place_in (x ∷ xs) v) ≡ v
    go (yes e) k r = ap (slice_index (x ∷ xs)) (place_here x v xs e) ∙ e
    go (no n) (inl e) r = absurd (n (sym e))
    go (no n) (inr k) r = ap (slice_index (x ∷ xs)) (place_there x v xs n) ∙ r k

-- the place is inside the list
pub place_below : (xs : List ℕ) (v : ℕ) → Among v xs → place_in xs v < length xs
place_below [] v m = absurd m
place_below (x ∷ xs) v m = go (ℕ_discrete x v) m (λ k. place_below xs v k)
  where
    go : Dec (x ≡ v) → (v ≡ x) ⊎ Among v xs → (Among v xs → place_in xs v < length xs) → place_in (x ∷ xs) v < suc (length xs)
    go (yes e) k r = let p : place_in (x ∷ xs) v ≡ 0 = place_here x v xs e in omega arith
    go (no n) (inl e) r = absurd (n (sym e))
    go (no n) (inr k) r = let p : place_in (x ∷ xs) v ≡ suc (place_in xs v) = place_there x v xs n in let l : place_in xs v < length xs = r k in omega arith

-- what is no member has a place past the end
pub place_past : (xs : List ℕ) (v : ℕ) → ¬ (Among v xs) → place_in xs v ≡ length xs
place_past [] v n = refl
place_past (x ∷ xs) v n = place_there x v xs (λ e. n (inl (sym e))) ∙ ap suc (place_past xs v (λ m. n (inr m)))

-- a place has a member
pub among_at : (xs : List ℕ) (k : ℕ) → k < length xs → Among (slice_index xs k) xs
among_at [] k l = absurd (omega arith)
among_at (x ∷ xs) zero l = inl refl
among_at (x ∷ xs) (suc k) l = inr (among_at xs k (omega arith))

-- where none stands twice, its place is that place
pub place_at : (xs : List ℕ) → Apart xs → (k : ℕ) → k < length xs → place_in xs (slice_index xs k) ≡ k
place_at [] a k l = absurd (omega arith)
place_at (x ∷ xs) a zero l = place_here x x xs refl
place_at (x ∷ xs) a (suc k) l =
    let l' : k < length xs = omega arith in
    place_there x (slice_index xs k) xs (λ e. not_among x xs a.0 (subst (λ z. Among z xs) (sym e) (among_at xs k l')))
    ∙ ap suc (place_at xs a.1 k l')

shifted : {A : Type 0} (f : ℕ → A) (a n : ℕ) → map f (range_with_len (a + 1) n) ≡ map (λ k. f (k + 1)) (range_with_len a n)
shifted f a zero = refl
shifted f a (suc n) = ap (λ l. f (a + 1) ∷ l) (shifted f (a + 1) n)

-- the members at all places are the list
pub all_places : (xs : List ℕ) → map (slice_index xs) (range_with_len 0 (length xs)) ≡ xs
all_places [] = refl
all_places (x ∷ xs) = ap (λ l. x ∷ l) (shifted (slice_index (x ∷ xs)) 0 (length xs) ∙ ap (λ f. map f (range_with_len 0 (length xs))) (fun_ext next) ∙ all_places xs)
  where
    one_more : (k : ℕ) → k + 1 ≡ suc k
    one_more k = omega arith

    next : (k : ℕ) → slice_index (x ∷ xs) (k + 1) ≡ slice_index xs k
    next k = ap (slice_index (x ∷ xs)) (one_more k)

-- products and sums over members
pub product_over-map : (f : ℕ → ℤ) (g : ℕ → ℕ) (ks : List ℕ) → product_over f (map g ks) ≡ product_over (λ k. f (g k)) ks
product_over-map f g [] = refl
product_over-map f g (k ∷ ks) = ap (λ x. f (g k) *ℤ x) (product_over-map f g ks)

pub nat_product_over-map : (f : ℕ → ℕ) (g : ℕ → ℕ) (ks : List ℕ) → nat_product_over f (map g ks) ≡ nat_product_over (λ k. f (g k)) ks
nat_product_over-map f g [] = refl
nat_product_over-map f g (k ∷ ks) = ap (λ x. f (g k) * x) (nat_product_over-map f g ks)

pub sum_each-map : (f : ℕ → ℤ) (g : ℕ → ℕ) (ks : List ℕ) → sum_each f (map g ks) ≡ sum_each (λ k. f (g k)) ks
sum_each-map f g [] = refl
sum_each-map f g (k ∷ ks) = ap (λ x. f (g k) +ℤ x) (sum_each-map f g ks)

-- a world of places as a world of members
abbrev pub spread : List ℕ → World → World
spread xs w v = w (place_in xs v)

module _ (xs : List ℕ) (apart : Apart xs) where
  -- a state at a place is a state at its member
  spread_with : (w : World) (k s : ℕ) → k < length xs → with_state (spread xs w) (slice_index xs k) s ≡ spread xs (with_state w k s)
  spread_with w k s l = fun_ext (λ u. go u (ℕ_discrete u (slice_index xs k)))
    where
      other : (u : ℕ) → u ≢ slice_index xs k → Dec (Among u xs) → place_in xs u ≢ k
      other u n (yes m) e = n (sym (at_place xs u m) ∙ ap (slice_index xs) e)
      other u n (no m) e = let p : place_in xs u ≡ length xs = place_past xs u m in omega arith

      go : (u : ℕ) → Dec (u ≡ slice_index xs k) → with_state (spread xs w) (slice_index xs k) s u ≡ spread xs (with_state w k s) u
      go u (yes e) =
          ap (λ b. cond b s (w (place_in xs u))) (eqb_yes u (slice_index xs k) e)
          ∙ sym (ap (λ b. cond b s (w (place_in xs u))) (eqb_yes (place_in xs u) k (ap (place_in xs) e ∙ place_at xs apart k l)))
      go u (no n) =
          ap (λ b. cond b s (w (place_in xs u))) (eqb_no u (slice_index xs k) n)
          ∙ sym (ap (λ b. cond b s (w (place_in xs u))) (eqb_no (place_in xs u) k (other u n (decide_among u xs))))

  -- a sum over members is a sum over their places
  pub sum_over_places : (count counts : ℕ → ℕ) → ((k : ℕ) → k < length xs → counts k ≡ count (slice_index xs k))
      → (ks : List ℕ) → ((k : ℕ) → Among k ks → k < length xs) → (f : World → ℤ) (w : World)
      → sum_over count (map (slice_index xs) ks) f (spread xs w) ≡ sum_over counts ks (λ x. f (spread xs x)) w
  sum_over_places count counts same [] h f w = refl
  sum_over_places count counts same (k ∷ ks) h f w =
      let l : k < length xs = h k (inl refl) in
      sum_below_cong (count (slice_index xs k)) (λ s. sum_over count (map (slice_index xs) ks) f (with_state (spread xs w) (slice_index xs k) s)) (λ s. sum_over counts ks (λ x. f (spread xs x)) (with_state w k s))
      (λ s j. ap (sum_over count (map (slice_index xs) ks) f) (spread_with w k s l) ∙ sum_over_places count counts same ks (λ i m. h i (inr m)) f (with_state w k s))
      ∙ ap (λ n. sum_below n (λ s. sum_over counts ks (λ x. f (spread xs x)) (with_state w k s))) (sym (same k l))

pub nat_sum_over-map : (f : ℕ → ℕ) (g : ℕ → ℕ) (ks : List ℕ) → nat_sum_over f (map g ks) ≡ nat_sum_over (λ k. f (g k)) ks
nat_sum_over-map f g [] = refl
nat_sum_over-map f g (k ∷ ks) = ap (λ x. f (g k) + x) (nat_sum_over-map f g ks)

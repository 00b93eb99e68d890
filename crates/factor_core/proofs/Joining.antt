-- The join of several slots as a walk: the places by definition are those that the walk comes to.
use Rattle.std.proofs.Common.{◌≡◌, ℕ, zero, suc, ◌+◌, ◌-◌, ◌*◌, ◌<◌, ◌≤◌, Bool, true, false, cond, List, [], ◌∷◌, ◌++◌, take, drop, length, get_or, refl, sym, ap, ◌∙◌, arith, inl, inr}
use Rattle.std.proofs.Math.Nat.{mul-le-mul_right}
use Rattle.std.proofs.lemmas.List.{take-append-drop}
use Rattle.std.proofs.lemmas.Bool.{cases_eq}
use Rattle.factor_core.specs.Walks.{shifted}
use Rattle.finite_sums.specs.Sums.{World, InRange}
use Rattle.factor_core.specs.Tables.{size_from, place_from, stride_of, moved, out_place, listed, with_extra}
use Rattle.factor_core.proofs.Shifts.{length-shifted, get-shifted}

-- f v + .. over the k numbers from v on
pub sum_from : (ℕ → ℕ) → ℕ → ℕ → ℕ
sum_from f v zero = 0
sum_from f v (suc k) = f v + sum_from f (suc v) k

sum_from_cong : (f g : ℕ → ℕ) (k v : ℕ) → ((u : ℕ) → v ≤ u → u < v + k → f u ≡ g u) → sum_from f v k ≡ sum_from g v k
unfolding sum_from
sum_from_cong f g zero v h = refl
sum_from_cong f g (suc k) v h =
    let here : f v ≡ g v = h v (omega arith) (omega arith) in
    let rest : sum_from f (suc v) k ≡ sum_from g (suc v) k = sum_from_cong f g k (suc v) (λ u a b. h u (omega arith) (omega arith)) in
    cc

module _ (count : ℕ → ℕ) (h : ℕ → Bool) where
  -- a place is below the size
  pub place_below : (w : World) → InRange count w → (k v : ℕ) → place_from count h w v k < size_from count h v k
  place_below w ok zero v = omega arith
  place_below w ok (suc k) v = step (h v) (place_below w ok k (suc v))
    where
      step : (b : Bool) → place_from count h w (suc v) k < size_from count h (suc v) k → cond b (w v * size_from count h (suc v) k) 0 + place_from count h w (suc v) k < cond b (count v) 1 * size_from count h (suc v) k
      step true rest =
          let more : (w v + 1) * size_from count h (suc v) k ≤ count v * size_from count h (suc v) k = mul-le-mul_right (size_from count h (suc v) k) (let l = ok.state v in omega arith) in
          omega (arith, rest, more)
      step false rest = omega (arith, rest)

  -- a place is the sum of the states times the strides
  pub place_is_sum : (w : World) (n k v : ℕ) → v + k ≡ n → place_from count h w v k ≡ sum_from (λ u. w u * stride_of count n h u) v k
  unfolding sum_from
  place_is_sum w n zero v e = refl
  place_is_sum w n (suc k) v e =
      let left : n - suc v ≡ k = omega arith in
      let rest = place_is_sum w n k (suc v) (omega arith) in
      here (h v) left rest
    where
      here : (b : Bool) → n - suc v ≡ k → place_from count h w (suc v) k ≡ sum_from (λ u. w u * stride_of count n h u) (suc v) k → cond b (w v * size_from count h (suc v) k) 0 + place_from count h w (suc v) k ≡ w v * cond b (size_from count h (suc v) (n - suc v)) 0 + sum_from (λ u. w u * stride_of count n h u) (suc v) k
      here true left rest = omega (arith, rest, ap (λ j. w v * size_from count h (suc v) j) left)
      here false left rest = omega (arith, rest)

pub out-append : (f : ℕ → ℕ) (xs ys : List ℕ) (w : World) → out_place f (xs ++ ys) w ≡ out_place f xs w + out_place f ys w
out-append f [] ys w = omega arith
out-append f (x ∷ xs) ys w = omega (arith, out-append f xs ys w)

-- x may stand anywhere in a sum
pub out_extra : (f : ℕ → ℕ) (j x : ℕ) (vs : List ℕ) (w : World) → out_place f (with_extra j x vs) w ≡ w x * f x + out_place f vs w
out_extra f j x vs w =
    let whole = ap (λ l. out_place f l w) (take-append-drop j vs) in
    omega (arith, out-append f (take j vs) (x ∷ drop j vs) w, out-append f (take j vs) (drop j vs) w, whole)

pub out_listed : (f : ℕ → ℕ) (h : ℕ → Bool) (w : World) (k v : ℕ) → out_place f (listed h v k) w ≡ sum_from (λ u. cond (h u) (w u * f u) 0) v k
unfolding sum_from
out_listed f h w zero v = refl
out_listed f h w (suc k) v = here (h v) (out_listed f h w k (suc v))
  where
    here : (b : Bool) → out_place f (listed h (suc v) k) w ≡ sum_from (λ u. cond (h u) (w u * f u) 0) (suc v) k → out_place f (cond b (v ∷ []) [] ++ listed h (suc v) k) w ≡ cond b (w v * f v) 0 + sum_from (λ u. cond (h u) (w u * f u) 0) (suc v) k
    here true rest = omega (arith, rest)
    here false rest = omega (arith, rest)

-- a sum of f with the term at x set apart
sum_without : (f : ℕ → ℕ) (h : ℕ → Bool) (x k v : ℕ) → h x ≡ false → ((u : ℕ) → v ≤ u → u < v + k → (u ≡ x → ⊥) → h u ≡ false → f u ≡ 0) → (v ≤ x → x < v + k → ⊥) → sum_from f v k ≡ sum_from (λ u. cond (h u) (f u) 0) v k
sum_without f h x k v none zero_there away =
    sum_from_cong f (λ u. cond (h u) (f u) 0) k v (λ u a b. here (h u) u (λ e. zero_there u a b (λ same. away (omega arith) (omega arith)) e))
  where
    here : (b : Bool) (u : ℕ) → (b ≡ false → f u ≡ 0) → f u ≡ cond b (f u) 0
    here true u z = refl
    here false u z = z refl

pub sum_with : (f : ℕ → ℕ) (h : ℕ → Bool) (x k v : ℕ) → h x ≡ false → ((u : ℕ) → v ≤ u → u < v + k → (u ≡ x → ⊥) → h u ≡ false → f u ≡ 0) → v ≤ x → x < v + k → sum_from f v k ≡ f x + sum_from (λ u. cond (h u) (f u) 0) v k
unfolding sum_from
sum_with f h x zero v none zero_there a b = absurd (omega arith)
sum_with f h x (suc k) v none zero_there a b =
    elim (cases_eq v x) [
      | inl e ↦
          let rest = sum_without f h x k (suc v) none (λ u c d. zero_there u (omega arith) (omega arith)) (λ c d. omega arith) in
          let gone : cond (h v) (f v) 0 ≡ 0 = ap (λ b. cond b (f v) 0) (ap h e ∙ none) in
          omega (arith, rest, gone, ap f e)
      | inr ne ↦
          let rest = sum_with f h x k (suc v) none (λ u c d. zero_there u (omega arith) (omega arith)) (let c : suc v ≤ x = grind arith in c) (omega arith) in
          omega (arith, rest, here (h v) (λ e. zero_there v (omega arith) (omega arith) ne e))
    ]
  where
    here : (b : Bool) → (b ≡ false → f v ≡ 0) → f v ≡ cond b (f v) 0
    here true z = refl
    here false z = z refl

-- the place of a cell is the sum of the strides along the walk
pub place_along : (count : ℕ → ℕ) (n x j : ℕ) (h kept : ℕ → Bool) (w : World) → x < n → kept x ≡ false → ((u : ℕ) → u < n → (u ≡ x → ⊥) → kept u ≡ false → h u ≡ false) → out_place (stride_of count n h) (with_extra j x (listed kept 0 n)) w ≡ place_from count h w 0 n
place_along count n x j h kept w inside none covers =
    let f = λ (u : ℕ). w u * stride_of count n h u in
    out_extra (stride_of count n h) j x (listed kept 0 n) w
    ∙ ap (λ k. w x * stride_of count n h x + k) (out_listed (stride_of count n h) kept w n 0)
    ∙ sym (sum_with f kept x n 0 none (λ u a b ne e. ap (λ b. w u * cond b (size_from count h (suc u) (n - suc u)) 0) (covers u (omega arith) ne e) ∙ (let z : w u * 0 ≡ 0 = omega arith in z)) (omega arith) (omega arith))
    ∙ sym (place_is_sum count h w n n 0 (omega arith))

-- the same where no node is summed
pub place_along_kept : (count : ℕ → ℕ) (n : ℕ) (h kept : ℕ → Bool) (w : World) → kept n ≡ false → ((u : ℕ) → u < n → kept u ≡ false → h u ≡ false) → out_place (stride_of count n h) (listed kept 0 n) w ≡ place_from count h w 0 n
place_along_kept count n h kept w none covers =
    let f = λ (u : ℕ). w u * stride_of count n h u in
    out_listed (stride_of count n h) kept w n 0
    ∙ sym (sum_without f kept n n 0 none (λ u a b ne e. ap (λ b. w u * cond b (size_from count h (suc u) (n - suc u)) 0) (covers u (omega arith) e) ∙ (let z : w u * 0 ≡ 0 = omega arith in z)) (λ a b. omega arith))
    ∙ sym (place_is_sum count h w n n 0 (omega arith))

-- each operand's place along the walk
pub get-moved : (row : ℕ → List ℕ) (vs : List ℕ) (w : World) (places : List ℕ) (i : ℕ) → i < length places → get_or (moved row vs w places) i 0 ≡ get_or places i 0 + out_place (λ v. get_or (row v) i 0) vs w
get-moved row [] w places i l = omega arith
get-moved row (v ∷ vs) w places i l =
    let len = length-shifted (w v) (row v) places in
    let rest = get-moved row vs w (shifted (w v) (row v) places) i (omega (arith, len)) in
    omega (arith, rest, get-shifted (w v) (row v) places i l)

pub length-moved : (row : ℕ → List ℕ) (vs : List ℕ) (w : World) (places : List ℕ) → length (moved row vs w places) ≡ length places
length-moved row [] w places = refl
length-moved row (v ∷ vs) w places = length-moved row vs w (shifted (w v) (row v) places) ∙ length-shifted (w v) (row v) places

pub out_place_cong : (f g : ℕ → ℕ) (vs : List ℕ) (w : World) → ((v : ℕ) → f v ≡ g v) → out_place f vs w ≡ out_place g vs w
out_place_cong f g [] w h = refl
out_place_cong f g (v ∷ vs) w h = omega (arith, out_place_cong f g vs w h, ap (λ k. w v * k) (h v))

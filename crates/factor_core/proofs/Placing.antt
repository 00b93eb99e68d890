-- The place of a cell, one node after another.
use Rattle.std.proofs.Common.{◌≡◌, ℕ, zero, suc, ◌+◌, ◌-◌, ◌*◌, ◌<◌, ◌≤◌, Bool, true, false, cond, List, [], ◌∷◌, ◌++◌, drop, length, get_or, refl, ap, ◌∙◌, arith}
use Rattle.std.proofs.Math.Nat.{mul-le-mul_right}
use Rattle.finite_sums.specs.Sums.{World}
use Rattle.factor_core.specs.Tables.{size_from, place_from, listed}
use Rattle.factor_core.proofs.Listing.{listed_step}

first_of : (v i : ℕ) (order rest : List ℕ) → drop i order ≡ v ∷ rest → (get_or order i 0 ≡ v) × (i < length order) × (drop (i + 1) order ≡ rest)
first_of v zero order rest e = (ap (λ l. get_or l 0 0) e, omega (arith, ap length e), ap (drop 1) e)
first_of v (suc i) [] rest e = absurd (omega (arith, ap length e))
first_of v (suc i) (o ∷ order) rest e =
    let below = first_of v i order rest e in
    (below.0, omega (arith, below.1), ap (λ k. drop k (o ∷ order)) (let f : suc i + 1 ≡ suc (i + 1) = omega arith in f) ∙ below.2)

module _ (count : ℕ → ℕ) (h : ℕ → Bool) (n : ℕ) where
  -- the nodes from v on, their size and a place in them
  left : (v : ℕ) → v < n → n - v ≡ suc (n - (v + 1))
  left v l = omega arith

  pub size_step : (v : ℕ) → v < n → size_from count h v (n - v) ≡ cond (h v) (count v) 1 * size_from count h (v + 1) (n - (v + 1))
  size_step v l = ap (λ k. size_from count h v k) (left v l) ∙ ap (λ u. cond (h v) (count v) 1 * size_from count h u (n - (v + 1))) (let f : suc v ≡ v + 1 = omega arith in f)

  pub place_step : (w : World) (v : ℕ) → v < n → place_from count h w v (n - v) ≡ cond (h v) (w v * size_from count h (v + 1) (n - (v + 1))) 0 + place_from count h w (v + 1) (n - (v + 1))
  place_step w v l = ap (λ k. place_from count h w v k) (left v l) ∙ ap (λ u. cond (h v) (w v * size_from count h u (n - (v + 1))) 0 + place_from count h w u (n - (v + 1))) (let f : suc v ≡ v + 1 = omega arith in f)

  -- the first node left, where it is held
  pub first_left : (v i : ℕ) (order : List ℕ) → v < n → h v ≡ true → drop i order ≡ listed h v (n - v) → (get_or order i 0 ≡ v) × (i < length order) × (drop (i + 1) order ≡ listed h (v + 1) (n - (v + 1)))
  first_left v i order l held e =
      let all : drop i order ≡ v ∷ listed h (v + 1) (n - (v + 1)) = e ∙ listed_step h n v l ∙ ap (λ b. cond b (v ∷ []) [] ++ listed h (v + 1) (n - (v + 1))) held in
      first_of v i order (listed h (v + 1) (n - (v + 1))) all

  -- the same nodes are left where it isn't held
  pub none_left : (v i : ℕ) (order : List ℕ) → v < n → h v ≡ false → drop i order ≡ listed h v (n - v) → drop i order ≡ listed h (v + 1) (n - (v + 1))
  none_left v i order l held e = e ∙ listed_step h n v l ∙ ap (λ b. cond b (v ∷ []) [] ++ listed h (v + 1) (n - (v + 1))) held

  pub size_some : ((u : ℕ) → 0 < count u) → (k v : ℕ) → 0 < size_from count h v k
  size_some some zero v = omega arith
  size_some some (suc k) v = positive (cond (h v) (count v) 1) (size_from count h (suc v) k) (either (h v)) (size_some some k (suc v))
    where
      either : (b : Bool) → 0 < cond b (count v) 1
      either true = some v
      either false = omega arith

      positive : (a b : ℕ) → 0 < a → 0 < b → 0 < a * b
      positive a b l m = let step : 1 * b ≤ a * b = mul-le-mul_right b l in omega arith

  module _ (v : ℕ) (l : v < n) (place next s : ℕ) where
    pub next_size : (b : Bool) → h v ≡ b → next ≡ cond b (place * count v + s) place → (b ≡ true → s < count v) → (m : ℕ) → (place + 1) * size_from count h v (n - v) ≤ m → (next + 1) * size_from count h (v + 1) (n - (v + 1)) ≤ m
    next_size true e is fits m h' =
        let rest = size_from count h (v + 1) (n - (v + 1)) in
        let size : size_from count h v (n - v) ≡ count v * rest = size_step v l ∙ ap (λ b. cond b (count v) 1 * rest) e in
        let less : s < count v = fits refl in
        let step : (place * count v + s + 1) * rest ≤ ((place + 1) * count v) * rest = mul-le-mul_right rest (let one : place * count v + s + 1 ≤ (place + 1) * count v = omega arith in one) in
        omega (arith, step, ap (λ x. (place + 1) * x) size, ap (λ x. (x + 1) * rest) is, h')
    next_size false e is fits m h' =
        let rest = size_from count h (v + 1) (n - (v + 1)) in
        let size : size_from count h v (n - v) ≡ 1 * rest = size_step v l ∙ ap (λ b. cond b (count v) 1 * rest) e in
        omega (arith, ap (λ x. (place + 1) * x) size, ap (λ x. (x + 1) * rest) is, h')

    pub next_place_is : (w : World) (b : Bool) → h v ≡ b → next ≡ cond b (place * count v + s) place → (b ≡ true → w v ≡ s) → (total : ℕ) → place * size_from count h v (n - v) + place_from count h w v (n - v) ≡ total → next * size_from count h (v + 1) (n - (v + 1)) + place_from count h w (v + 1) (n - (v + 1)) ≡ total
    next_place_is w true e is fits total h' =
        let rest = size_from count h (v + 1) (n - (v + 1)) in
        let size : size_from count h v (n - v) ≡ count v * rest = size_step v l ∙ ap (λ b. cond b (count v) 1 * rest) e in
        let there : place_from count h w v (n - v) ≡ w v * rest + place_from count h w (v + 1) (n - (v + 1)) = place_step w v l ∙ ap (λ b. cond b (w v * rest) 0 + place_from count h w (v + 1) (n - (v + 1))) e in
        omega (arith, ap (λ x. place * x) size, there, ap (λ x. x * rest) is, ap (λ x. x * rest) (fits refl), h')
    next_place_is w false e is fits total h' =
        let rest = size_from count h (v + 1) (n - (v + 1)) in
        let size : size_from count h v (n - v) ≡ 1 * rest = size_step v l ∙ ap (λ b. cond b (count v) 1 * rest) e in
        let there : place_from count h w v (n - v) ≡ 0 + place_from count h w (v + 1) (n - (v + 1)) = place_step w v l ∙ ap (λ b. cond b (w v * rest) 0 + place_from count h w (v + 1) (n - (v + 1))) e in
        omega (arith, ap (λ x. place * x) size, there, ap (λ x. x * rest) is, h')

  -- the places of the states that are left
  pub left_next : (v i now : ℕ) (order : List ℕ) (b : Bool) → v < n → h v ≡ b → now ≡ i + cond b 1 0 → drop i order ≡ listed h v (n - v) → drop now order ≡ listed h (v + 1) (n - (v + 1))
  left_next v i now order true l e is all = ap (λ k. drop k order) is ∙ (first_left v i order l e all).2
  left_next v i now order false l e is all = ap (λ k. drop k order) (is ∙ (let z : i + 0 ≡ i = omega arith in z)) ∙ none_left v i order l e all

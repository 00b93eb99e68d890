-- Sums over worlds, node by node: what is known of the first node is carried, and the others are
-- summed.
use Rattle.std.proofs.Common.{◌≡◌, ◌∙◌, ℕ, zero, suc, ◌+◌, ◌*◌, ◌≤◌, Bool, true, false, cond, eqb, List, [], ◌∷◌, refl, sym, ap, subst, arith, ℤ, pos, negsuc, ◌+ℤ◌, ◌*ℤ◌, ◌≤ℤ◌, nat_abs}
use Rattle.std.proofs.lemmas.Int.{ints}
use Rattle.std.proofs.Math.IntN.{+ℤ_assoc, +ℤ_idr}
use Rattle.std.proofs.Math.Path.{fun_ext}
use Rattle.finite_sums.specs.Looks.{IgnoresAll, IgnoresLater, HasTotal, HaveTotals}
use Rattle.finite_sums.specs.Sums.{World, with_state, sum_below, sum_over, InRange, product_over, nat_product_over, nat_sum_over, sum_each}
use Rattle.finite_sums.proofs.Ints.{mul_assoc, mul_one}
use Rattle.finite_sums.proofs.Sums.{sum_below_cong, with_in}
use Rattle.maid_model.proofs.Summing.{abs_add}
use Rattle.maid_laws.proofs.Proportions.{sum_over_zero}

-- what looks at none of the summed nodes is the same in all worlds of the sum
pub frozen : (count : ℕ → ℕ) (vs : List ℕ) (g : World → ℤ) (f : ℤ → World → ℤ) → IgnoresAll count g vs → (w : World) → InRange count w → sum_over count vs (λ x. f (g x) x) w ≡ sum_over count vs (λ x. f (g w) x) w
frozen count [] g f h w i = refl
frozen count (v ∷ vs) g f h w i =
    sum_below_cong (count v) (λ s. sum_over count vs (λ x. f (g x) x) (with_state w v s)) (λ s. sum_over count vs (λ x. f (g w) x) (with_state w v s))
    (λ s l. frozen count vs g f h.1 (with_state w v s) (with_in count w v s i l) ∙ ap (λ z. sum_over count vs (λ x. f z x) (with_state w v s)) (h.0.same w i s l))

-- the product so far and the sum so far end in one number at each world that picks the cell
module _ (count : ℕ → ℕ) (table value : ℕ → World → ℤ) (cell : World → ℕ) (ends : ℤ → ℤ → ℤ) where
  abbrev pub term : List ℕ → ℤ → ℤ → ℕ → World → ℤ
  term vs m q c w = cond (eqb (cell w) c) (ends (m *ℤ product_over (λ v. table v w) vs) (q +ℤ sum_each (λ v. value v w) vs)) (pos 0)

  abbrev pub below : List ℕ → ℤ → ℤ → ℕ → World → ℤ
  below vs m q c w = sum_over count vs (term vs m q c) w

  -- the first node's factor and value are carried
  pub carried : (v : ℕ) (vs : List ℕ) (m q : ℤ) (c : ℕ) → IgnoresAll count (table v) vs → IgnoresAll count (value v) vs → (w : World) → InRange count w
      → sum_over count vs (term (v ∷ vs) m q c) w ≡ below vs (m *ℤ table v w) (q +ℤ value v w) c w
  carried v vs m q c ht hv w i =
      ap (λ f. sum_over count vs f w) (fun_ext (λ x. sym (λ j. cond (eqb (cell x) c) (ends (mul_assoc m (table v x) (product_over (λ u. table u x) vs) j) (+ℤ_assoc q (value v x) (sum_each (λ u. value u x) vs) j)) (pos 0))))
      ∙ frozen count vs (table v) (λ t x. cond (eqb (cell x) c) (ends ((m *ℤ t) *ℤ product_over (λ u. table u x) vs) ((q +ℤ value v x) +ℤ sum_each (λ u. value u x) vs)) (pos 0)) ht w i
      ∙ frozen count vs (value v) (λ t x. cond (eqb (cell x) c) (ends ((m *ℤ table v w) *ℤ product_over (λ u. table u x) vs) ((q +ℤ t) +ℤ sum_each (λ u. value u x) vs)) (pos 0)) hv w i

  -- nothing is left of a product that is nought
  pub nothing : ((b : ℤ) → ends (pos 0) b ≡ pos 0) → (vs : List ℕ) (q : ℤ) (c : ℕ) (w : World) → below vs (pos 0) q c w ≡ pos 0
  nothing h vs q c w = ap (λ f. sum_over count vs f w) (fun_ext (λ x. either (eqb (cell x) c) (ends (pos 0 *ℤ product_over (λ v. table v x) vs) (q +ℤ sum_each (λ v. value v x) vs))
      (ap (λ z. ends z (q +ℤ sum_each (λ v. value v x) vs)) (zero_mul (product_over (λ v. table v x) vs)) ∙ h (q +ℤ sum_each (λ v. value v x) vs)))) ∙ sum_over_zero count vs w
    where
      zero_mul : (a : ℤ) → pos 0 *ℤ a ≡ pos 0
      zero_mul a = omega (arith, ints)

      either : (b : Bool) (x : ℤ) → x ≡ pos 0 → cond b x (pos 0) ≡ pos 0
      either true x e = e
      either false x e = refl

  -- ---- bounds
  module _ (total great : ℕ → ℕ) (most factor : ℕ) (not_negative : (v : ℕ) (w : World) → pos 0 ≤ℤ table v w) (small : (v : ℕ) (w : World) → nat_abs (value v w) ≤ great v)
      (ends_le : (m : ℕ) (q : ℤ) → nat_abs q ≤ most → nat_abs (ends (pos m) q) ≤ m * factor) where
    abbrev pub times : ℕ → World → ℕ
    times v w = nat_abs (table v w)

    pub times_is : (v : ℕ) (w : World) → pos (times v w) ≡ table v w
    times_is v w = go (table v w) (not_negative v w)
      where
        go : (z : ℤ) → pos 0 ≤ℤ z → pos (nat_abs z) ≡ z
        go (pos n) h = refl
        go (negsuc n) h = absurd (omega (arith, ints))

    -- the factors of the first n states together
    abbrev pub firsts : ℕ → World → ℕ → ℕ
    firsts v w zero = 0
    firsts v w (suc n) = firsts v w n + times v (with_state w v n)

    pub firsts_are : (v : ℕ) (w : World) (n : ℕ) → pos (firsts v w n) ≡ sum_below n (λ s. table v (with_state w v s))
    firsts_are v w zero = refl
    firsts_are v w (suc n) = go (firsts v w n) (times v (with_state w v n)) (sum_below n (λ s. table v (with_state w v s))) (table v (with_state w v n)) (firsts_are v w n) (times_is v (with_state w v n))
      where
        go : (a b : ℕ) (x y : ℤ) → pos a ≡ x → pos b ≡ y → pos (a + b) ≡ x +ℤ y
        go a b x y e f = omega (arith, ints)

    pub firsts_grow : (v : ℕ) (w : World) (n k : ℕ) → firsts v w n ≤ firsts v w (n + k)
    firsts_grow v w n zero = same n
      where
        same : (n : ℕ) → firsts v w n ≤ firsts v w (n + 0)
        same n = subst (λ m. firsts v w n ≤ firsts v w m) (z n) (le (firsts v w n))
          where
            z : (n : ℕ) → n ≡ n + 0
            z n = omega arith

            le : (n : ℕ) → n ≤ n
            le n = omega arith
    firsts_grow v w n (suc k) = subst (λ m. firsts v w n ≤ firsts v w m) (shift n k) (le (firsts v w n) (firsts v w (n + k)) (times v (with_state w v (n + k))) (firsts_grow v w n k))
      where
        shift : (n k : ℕ) → suc (n + k) ≡ n + suc k
        shift n k = omega arith

        le : (a b c : ℕ) → a ≤ b → a ≤ b + c
        le a b c h = omega arith

    -- what the summed nodes can come to
    abbrev Bounded : List ℕ → Type 0
    Bounded vs = (m : ℕ) (q : ℤ) → nat_abs q + nat_sum_over great vs ≤ most → (c : ℕ) (w : World) → InRange count w → nat_abs (below vs (pos m) q c w) ≤ m * nat_product_over total vs * factor

    states_step : (v : ℕ) (vs : List ℕ) → Bounded vs → IgnoresAll count (table v) vs → IgnoresAll count (value v) vs → (m : ℕ) (q : ℤ) → nat_abs q + nat_sum_over great (v ∷ vs) ≤ most
        → (c : ℕ) (w : World) → InRange count w → nat_abs (sum_over count vs (term (v ∷ vs) (pos m) q c) w) ≤ m * times v w * nat_product_over total vs * factor
    states_step v vs rec ht hv m q fits c w i =
        subst (λ z. nat_abs z ≤ m * times v w * nat_product_over total vs * factor)
        (sym (carried v vs (pos m) q c ht hv w i ∙ ap (λ t. below vs (pos m *ℤ t) (q +ℤ value v w) c w) (sym (times_is v w))))
        (rec (m * times v w) (q +ℤ value v w) (fit (nat_abs (q +ℤ value v w)) (nat_abs q) (nat_abs (value v w)) (great v) (nat_sum_over great vs) (abs_add q (value v w)) (small v w) fits) c w i)
      where
        fit : (y a b g r : ℕ) → y ≤ a + b → b ≤ g → a + (g + r) ≤ most → y + r ≤ most
        fit y a b g r h j k = omega arith

    pub states_le : (v : ℕ) (vs : List ℕ) → Bounded vs → IgnoresAll count (table v) vs → IgnoresAll count (value v) vs → (m : ℕ) (q : ℤ) → nat_abs q + nat_sum_over great (v ∷ vs) ≤ most
        → (c : ℕ) (w : World) → InRange count w → (n : ℕ) → n ≤ count v
        → nat_abs (sum_below n (λ s. sum_over count vs (term (v ∷ vs) (pos m) q c) (with_state w v s))) ≤ m * firsts v w n * nat_product_over total vs * factor
    states_le v vs rec ht hv m q fits c w i zero h = omega arith
    states_le v vs rec ht hv m q fits c w i (suc n) h =
        more (sum_below n (λ s. sum_over count vs (term (v ∷ vs) (pos m) q c) (with_state w v s))) (sum_over count vs (term (v ∷ vs) (pos m) q c) (with_state w v n)) (firsts v w n) (times v (with_state w v n)) (nat_product_over total vs)
        (states_le v vs rec ht hv m q fits c w i n (omega arith))
        (states_step v vs rec ht hv m q fits c (with_state w v n) (with_in count w v n i (omega arith)))
      where
        split : (a b t : ℕ) → m * (a + b) * t * factor ≡ m * a * t * factor + m * b * t * factor
        split a b t = omega arith

        more : (x y : ℤ) (a b t : ℕ) → nat_abs x ≤ m * a * t * factor → nat_abs y ≤ m * b * t * factor → nat_abs (x +ℤ y) ≤ m * (a + b) * t * factor
        more x y a b t h k = subst (λ z. nat_abs (x +ℤ y) ≤ z) (sym (split a b t)) (both (nat_abs (x +ℤ y)) (nat_abs x) (nat_abs y) (m * a * t * factor) (m * b * t * factor) (abs_add x y) h k)
          where
            both : (z a b c e : ℕ) → z ≤ a + b → a ≤ c → b ≤ e → z ≤ c + e
            both z a b c e h j k = omega arith

    -- all states together have the total
    pub firsts_all : (v : ℕ) (w : World) → InRange count w → HasTotal count table (λ v. pos (total v)) v → firsts v w (count v) ≡ total v
    firsts_all v w i h = inject (firsts v w (count v)) (total v) (firsts_are v w (count v) ∙ h.sums w i)
      where
        inject : (a b : ℕ) → pos a ≡ pos b → a ≡ b
        inject a b e = ap nat_abs e

    pub below_le : (vs : List ℕ) → IgnoresLater count table vs → IgnoresLater count value vs → HaveTotals count table (λ v. pos (total v)) vs → Bounded vs
    below_le [] lt lv tot m q fits c w i = either (eqb (cell w) c)
      where
        end : nat_abs (ends (pos m *ℤ pos 1) (q +ℤ pos 0)) ≤ m * 1 * factor
        end = subst (λ z. nat_abs z ≤ m * 1 * factor) (sym (λ j. ends (mul_one (pos m) j) (+ℤ_idr q j))) (subst (λ n. nat_abs (ends (pos m) q) ≤ n) (one m factor) (ends_le m q (omega (arith, fits))))
          where
            one : (m k : ℕ) → m * k ≡ m * 1 * k
            one m k = omega arith

        either : (b : Bool) → nat_abs (cond b (ends (pos m *ℤ pos 1) (q +ℤ pos 0)) (pos 0)) ≤ m * 1 * factor
        either true = end
        either false = omega arith
    below_le (v ∷ vs) lt lv tot m q fits c w i =
        subst (λ n. nat_abs (below (v ∷ vs) (pos m) q c w) ≤ n) (regroup m (total v) (nat_product_over total vs))
        (subst (λ n. nat_abs (below (v ∷ vs) (pos m) q c w) ≤ m * n * nat_product_over total vs * factor) (firsts_all v w i tot.0)
        (states_le v vs (below_le vs lt.1 lv.1 tot.1) lt.0 lv.0 m q fits c w i (count v) (same (count v))))
      where
        same : (n : ℕ) → n ≤ n
        same n = omega arith

        regroup : (m t r : ℕ) → m * t * r * factor ≡ m * (t * r) * factor
        regroup m t r = omega arith

-- Laws of finite sums.
use Rattle.std.proofs.Common.{◌≡◌, ◌≢◌, ℕ, zero, suc, ◌<◌, Bool, true, false, not, cond, filter, List, [], ◌∷◌, ◌++◌, ℤ, pos, ◌+ℤ◌, ◌*ℤ◌, refl, sym, ap, subst, ◌∙◌, arith}
use Rattle.std.proofs.lemmas.Bool.Decides.{nat_tests}
use Rattle.std.proofs.lemmas.Int.{ints}
use Rattle.std.proofs.Math.Path.{fun_ext}
use Rattle.std.proofs.Math.Decide.{ℕ_discrete}
use Rattle.finite_sums.specs.Looks.{Ignores, IgnoresAll}
use Rattle.finite_sums.specs.Sums.{World, with_state, sum_below, sum_over, InRange}
use Rattle.finite_sums.proofs.Ints.{mul_add, mul_comm, mul_zero}

-- ---- sums below a bound
pub sum_below_cong : (n : ℕ) (f g : ℕ → ℤ) → ((i : ℕ) → i < n → f i ≡ g i) → sum_below n f ≡ sum_below n g
sum_below_cong zero f g h = refl
sum_below_cong (suc n) f g h =
    let e : sum_below n f ≡ sum_below n g = sum_below_cong n f g (λ i l. h i (omega arith)) in
    let last : f n ≡ g n = h n (omega arith) in
    cc

pub sum_below_zero : (n : ℕ) → sum_below n (λ i. pos 0) ≡ pos 0
sum_below_zero zero = refl
sum_below_zero (suc n) = omega (arith, ints, sum_below_zero n)

pub sum_below_add : (n : ℕ) (f g : ℕ → ℤ) → sum_below n (λ i. f i +ℤ g i) ≡ sum_below n f +ℤ sum_below n g
sum_below_add zero f g = refl
sum_below_add (suc n) f g = omega (arith, ints, sum_below_add n f g)

pub sum_below_mul : (n : ℕ) (a : ℤ) (f : ℕ → ℤ) → sum_below n (λ i. a *ℤ f i) ≡ a *ℤ sum_below n f
sum_below_mul zero a f = sym (mul_zero a)
sum_below_mul (suc n) a f = omega (arith, ints, sum_below_mul n a f, mul_add a (sum_below n f) (f n))

pub sum_below_swap : (m n : ℕ) (f : ℕ → ℕ → ℤ) → sum_below m (λ i. sum_below n (λ j. f i j)) ≡ sum_below n (λ j. sum_below m (λ i. f i j))
sum_below_swap zero n f = sym (sum_below_zero n)
sum_below_swap (suc m) n f =
    omega (arith, ints, sum_below_swap m n f, sum_below_add n (λ j. sum_below m (λ i. f i j)) (λ j. f m j))

-- ---- worlds
with_same_at : (w : World) (v s : ℕ) → with_state w v s v ≡ s
with_same_at w v s = grind (arith, nat_tests)

with_other_at : (w : World) (v s u : ℕ) → u ≢ v → with_state w v s u ≡ w u
with_other_at w v s u h = grind (arith, nat_tests)

with_swap_at : (w : World) (u s v t x : ℕ) → u ≢ v → with_state (with_state w u s) v t x ≡ with_state (with_state w v t) u s x
with_swap_at w u s v t x h = grind (arith, nat_tests)

pub with_swap : (w : World) (u s v t : ℕ) → u ≢ v → with_state (with_state w u s) v t ≡ with_state (with_state w v t) u s
with_swap w u s v t h = fun_ext (λ x. with_swap_at w u s v t x h)

with_again_at : (w : World) (v s t x : ℕ) → with_state (with_state w v s) v t x ≡ with_state w v t x
with_again_at w v s t x = grind (arith, nat_tests)

pub with_again : (w : World) (v s t : ℕ) → with_state (with_state w v s) v t ≡ with_state w v t
with_again w v s t = fun_ext (λ x. with_again_at w v s t x)

with_own_at : (w : World) (v s x : ℕ) → w v ≡ s → with_state w v s x ≡ w x
with_own_at w v s x h = grind (arith, nat_tests)

pub with_own : (w : World) (v s : ℕ) → w v ≡ s → with_state w v s ≡ w
with_own w v s h = fun_ext (λ x. with_own_at w v s x h)

pub with_same : (w : World) (v s : ℕ) → with_state w v s v ≡ s
with_same w v s = with_same_at w v s

pub with_other : (w : World) (v s u : ℕ) → u ≢ v → with_state w v s u ≡ w u
with_other w v s u h = with_other_at w v s u h

with_in_at : (w : World) (v s u c : ℕ) → w u < c → (u ≡ v → s < c) → with_state w v s u < c
with_in_at w v s u c h k = grind (arith, nat_tests)

pub with_in : (count : ℕ → ℕ) (w : World) (v s : ℕ) → InRange count w → s < count v → InRange count (with_state w v s)
with_in count w v s h l = record { state = λ u. with_in_at w v s u (count u) (h.state u) (λ e. subst (λ x. s < count x) (sym e) l) }

-- ---- sums over nodes
pub sum_over_cong : (count : ℕ → ℕ) (vs : List ℕ) (f g : World → ℤ) → ((w : World) → InRange count w → f w ≡ g w) → (w : World) → InRange count w → sum_over count vs f w ≡ sum_over count vs g w
sum_over_cong count [] f g h w i = h w i
sum_over_cong count (v ∷ vs) f g h w i =
    sum_below_cong (count v) (λ s. sum_over count vs f (with_state w v s)) (λ s. sum_over count vs g (with_state w v s))
    (λ s l. sum_over_cong count vs f g h (with_state w v s) (with_in count w v s i l))

pub sum_over_add : (count : ℕ → ℕ) (vs : List ℕ) (f g : World → ℤ) (w : World) → sum_over count vs (λ x. f x +ℤ g x) w ≡ sum_over count vs f w +ℤ sum_over count vs g w
sum_over_add count [] f g w = refl
sum_over_add count (v ∷ vs) f g w =
    sum_below_cong (count v) (λ s. sum_over count vs (λ x. f x +ℤ g x) (with_state w v s)) (λ s. sum_over count vs f (with_state w v s) +ℤ sum_over count vs g (with_state w v s)) (λ s l. sum_over_add count vs f g (with_state w v s))
    ∙ sum_below_add (count v) (λ s. sum_over count vs f (with_state w v s)) (λ s. sum_over count vs g (with_state w v s))

pub sum_over_append : (count : ℕ → ℕ) (us vs : List ℕ) (f : World → ℤ) (w : World) → sum_over count (us ++ vs) f w ≡ sum_over count us (sum_over count vs f) w
sum_over_append count [] vs f w = refl
sum_over_append count (u ∷ us) vs f w =
    sum_below_cong (count u) (λ s. sum_over count (us ++ vs) f (with_state w u s)) (λ s. sum_over count us (sum_over count vs f) (with_state w u s)) (λ s l. sum_over_append count us vs f (with_state w u s))

-- two nodes may be summed in either order
pub sum_over_swap : (count : ℕ → ℕ) (u v : ℕ) (vs : List ℕ) (f : World → ℤ) (w : World) → sum_over count (u ∷ v ∷ vs) f w ≡ sum_over count (v ∷ u ∷ vs) f w
sum_over_swap count u v vs f w = go (ℕ_discrete u v)
  where
    go : Dec (u ≡ v) → sum_over count (u ∷ v ∷ vs) f w ≡ sum_over count (v ∷ u ∷ vs) f w
    go (yes e) = subst (λ x. sum_over count (u ∷ x ∷ vs) f w ≡ sum_over count (x ∷ u ∷ vs) f w) e refl
    go (no n) =
        sum_below_swap (count u) (count v) (λ s t. sum_over count vs f (with_state (with_state w u s) v t))
        ∙ sum_below_cong (count v) (λ t. sum_below (count u) (λ s. sum_over count vs f (with_state (with_state w u s) v t))) (λ t. sum_below (count u) (λ s. sum_over count vs f (with_state (with_state w v t) u s)))
        (λ t l. sum_below_cong (count u) (λ s. sum_over count vs f (with_state (with_state w u s) v t)) (λ s. sum_over count vs f (with_state (with_state w v t) u s))
        (λ s k. ap (sum_over count vs f) (with_swap w u s v t n)))

-- a node may be summed first
pub sum_over_front : (count : ℕ → ℕ) (us : List ℕ) (v : ℕ) (vs : List ℕ) (f : World → ℤ) (w : World) → sum_over count (us ++ v ∷ vs) f w ≡ sum_over count (v ∷ (us ++ vs)) f w
sum_over_front count [] v vs f w = refl
sum_over_front count (u ∷ us) v vs f w =
    sum_below_cong (count u) (λ s. sum_over count (us ++ v ∷ vs) f (with_state w u s)) (λ s. sum_over count (v ∷ (us ++ vs)) f (with_state w u s)) (λ s l. sum_over_front count us v vs f (with_state w u s))
    ∙ sum_over_swap count u v (us ++ vs) f w

-- the nodes that pass a test may be summed first
pub sum_over_split : (count : ℕ → ℕ) (p : ℕ → Bool) (vs : List ℕ) (f : World → ℤ) (w : World) → sum_over count vs f w ≡ sum_over count (filter p vs ++ filter (λ v. not (p v)) vs) f w
sum_over_split count p [] f w = refl
sum_over_split count p (v ∷ vs) f w = go (p v)
    (sum_below_cong (count v) (λ s. sum_over count vs f (with_state w v s)) (λ s. sum_over count (filter p vs ++ filter (λ v. not (p v)) vs) f (with_state w v s)) (λ s l. sum_over_split count p vs f (with_state w v s)))
  where
    go : (b : Bool) → sum_over count (v ∷ vs) f w ≡ sum_over count (v ∷ (filter p vs ++ filter (λ v. not (p v)) vs)) f w → sum_over count (v ∷ vs) f w ≡ sum_over count (cond b (v ∷ filter p vs) (filter p vs) ++ cond (not b) (v ∷ filter (λ v. not (p v)) vs) (filter (λ v. not (p v)) vs)) f w
    go true first = first
    go false first = first ∙ sym (sum_over_front count (filter p vs) v (filter (λ v. not (p v)) vs) f w)

-- ---- what does not look at a node
pub sum_over_ignores : (count : ℕ → ℕ) (vs : List ℕ) (f : World → ℤ) (u : ℕ) → Ignores count f u → Ignores count (sum_over count vs f) u
sum_over_ignores count [] f u h = h
sum_over_ignores count (v ∷ vs) f u h = record {
  same = λ w i t k.
      sum_below_cong (count v) (λ s. sum_over count vs f (with_state (with_state w u t) v s)) (λ s. sum_over count vs f (with_state w v s))
      (λ s l. go (ℕ_discrete u v) w i t k s l (sum_over_ignores count vs f u h));
}
  where
    go : Dec (u ≡ v) → (w : World) → InRange count w → (t : ℕ) → t < count u → (s : ℕ) → s < count v → Ignores count (sum_over count vs f) u → sum_over count vs f (with_state (with_state w u t) v s) ≡ sum_over count vs f (with_state w v s)
    go (yes e) w i t k s l r = ap (sum_over count vs f) (subst (λ x. with_state (with_state w u t) x s ≡ with_state w x s) e (with_again w u t s))
    go (no n) w i t k s l r = ap (sum_over count vs f) (with_swap w u t v s n) ∙ r.same (with_state w v s) (with_in count w v s i l) t k

pub Ignores-mul : (count : ℕ → ℕ) (f g : World → ℤ) (u : ℕ) → Ignores count f u → Ignores count g u → Ignores count (λ w. f w *ℤ g w) u
Ignores-mul count f g u hf hg = record { same = λ w i s l. ap (λ x. x *ℤ g (with_state w u s)) (hf.same w i s l) ∙ ap (λ x. f w *ℤ x) (hg.same w i s l) }

pub Ignores-add : (count : ℕ → ℕ) (f g : World → ℤ) (u : ℕ) → Ignores count f u → Ignores count g u → Ignores count (λ w. f w +ℤ g w) u
Ignores-add count f g u hf hg = record { same = λ w i s l. ap (λ x. x +ℤ g (with_state w u s)) (hf.same w i s l) ∙ ap (λ x. f w +ℤ x) (hg.same w i s l) }

-- a factor that looks at none of the summed nodes comes out
pub sum_over_out : (count : ℕ → ℕ) (vs : List ℕ) (g f : World → ℤ) → IgnoresAll count g vs → (w : World) → InRange count w → sum_over count vs (λ x. g x *ℤ f x) w ≡ g w *ℤ sum_over count vs f w
sum_over_out count [] g f h w i = refl
sum_over_out count (v ∷ vs) g f h w i =
    sum_below_cong (count v) (λ s. sum_over count vs (λ x. g x *ℤ f x) (with_state w v s)) (λ s. g w *ℤ sum_over count vs f (with_state w v s))
    (λ s l. sum_over_out count vs g f h.1 (with_state w v s) (with_in count w v s i l) ∙ ap (λ x. x *ℤ sum_over count vs f (with_state w v s)) (h.0.same w i s l))
    ∙ sum_below_mul (count v) (g w) (λ s. sum_over count vs f (with_state w v s))

pub IgnoresAll-sum : (count : ℕ → ℕ) (vs : List ℕ) (f : World → ℤ) (us : List ℕ) → IgnoresAll count f us → IgnoresAll count (sum_over count vs f) us
IgnoresAll-sum count vs f [] h = tt
IgnoresAll-sum count vs f (u ∷ us) h = (sum_over_ignores count vs f u h.0, IgnoresAll-sum count vs f us h.1)

-- a sum of two factors, each of which looks at its own nodes alone, is a product of two sums
pub sum_over_product : (count : ℕ → ℕ) (us vs : List ℕ) (f g : World → ℤ) → IgnoresAll count f vs → IgnoresAll count g us → (w : World) → InRange count w → sum_over count (us ++ vs) (λ x. f x *ℤ g x) w ≡ sum_over count us f w *ℤ sum_over count vs g w
sum_over_product count us vs f g hf hg w i =
    sum_over_append count us vs (λ x. f x *ℤ g x) w
    ∙ sum_over_cong count us (sum_over count vs (λ x. f x *ℤ g x)) (λ x. sum_over count vs g x *ℤ f x) (λ x j. sum_over_out count vs f g hf x j ∙ mul_comm (f x) (sum_over count vs g x)) w i
    ∙ sum_over_out count us (sum_over count vs g) f (IgnoresAll-sum count vs g us hg) w i
    ∙ mul_comm (sum_over count vs g w) (sum_over count us f w)

pub sum_over_mul : (count : ℕ → ℕ) (vs : List ℕ) (a : ℤ) (f : World → ℤ) (w : World) → sum_over count vs (λ x. a *ℤ f x) w ≡ a *ℤ sum_over count vs f w
sum_over_mul count [] a f w = refl
sum_over_mul count (v ∷ vs) a f w =
    sum_below_cong (count v) (λ s. sum_over count vs (λ x. a *ℤ f x) (with_state w v s)) (λ s. a *ℤ sum_over count vs f (with_state w v s)) (λ s l. sum_over_mul count vs a f (with_state w v s))
    ∙ sum_below_mul (count v) a (λ s. sum_over count vs f (with_state w v s))

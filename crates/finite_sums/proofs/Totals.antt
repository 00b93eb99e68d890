-- The law of totals and the law of products, for tables seen as functions of a world.
use Rattle.std.proofs.Common.{◌≡◌, ℕ, Bool, true, false, not, cond, filter, List, [], ◌∷◌, ◌++◌, ℤ, ◌*ℤ◌, refl, sym, ap, ◌∙◌}
use Rattle.std.proofs.Math.Path.{fun_ext}
use Rattle.finite_sums.specs.Looks.{Ignores, IgnoresAll, IgnoresLater, HaveTotals, EachIgnoresAll}
use Rattle.finite_sums.specs.Sums.{World, with_state, sum_over, InRange, product_over}
use Rattle.finite_sums.proofs.Ints.{mul_assoc, mul_comm, one_mul, mul_left_comm}
use Rattle.finite_sums.proofs.Sums.{sum_below_cong, sum_below_mul, sum_over_cong, sum_over_out, sum_over_append, sum_over_split, sum_over_mul, with_in, Ignores-mul}

-- the product over a list in two parts
pub product_over-append : (f : ℕ → ℤ) (us vs : List ℕ) → product_over f (us ++ vs) ≡ product_over f us *ℤ product_over f vs
product_over-append f [] vs = sym (one_mul (product_over f vs))
product_over-append f (u ∷ us) vs = ap (λ x. f u *ℤ x) (product_over-append f us vs) ∙ sym (mul_assoc (f u) (product_over f us) (product_over f vs))

pub product_over-split : (f : ℕ → ℤ) (p : ℕ → Bool) (vs : List ℕ) → product_over f vs ≡ product_over f (filter p vs) *ℤ product_over f (filter (λ v. not (p v)) vs)
product_over-split f p [] = refl
product_over-split f p (v ∷ vs) = go (p v) (product_over-split f p vs)
  where
    go : (b : Bool) → product_over f vs ≡ product_over f (filter p vs) *ℤ product_over f (filter (λ v. not (p v)) vs)
        → f v *ℤ product_over f vs ≡ product_over f (cond b (v ∷ filter p vs) (filter p vs)) *ℤ product_over f (cond (not b) (v ∷ filter (λ v. not (p v)) vs) (filter (λ v. not (p v)) vs))
    go true e = ap (λ x. f v *ℤ x) e ∙ sym (mul_assoc (f v) (product_over f (filter p vs)) (product_over f (filter (λ v. not (p v)) vs)))
    go false e = ap (λ x. f v *ℤ x) e ∙ mul_left_comm (f v) (product_over f (filter p vs)) (product_over f (filter (λ v. not (p v)) vs))

-- the sum of the product of the tables is the product of their totals, where no table looks at a
-- later node of the list
pub sum_over_totals : (count : ℕ → ℕ) (table : ℕ → World → ℤ) (total : ℕ → ℤ) (vs : List ℕ) → IgnoresLater count table vs → HaveTotals count table total vs
    → (w : World) → InRange count w → sum_over count vs (λ x. product_over (λ v. table v x) vs) w ≡ product_over total vs
sum_over_totals count table total [] later totals w i = refl
sum_over_totals count table total (v ∷ vs) later totals w i =
    sum_below_cong (count v)
    (λ s. sum_over count vs (λ x. table v x *ℤ product_over (λ u. table u x) vs) (with_state w v s))
    (λ s. product_over total vs *ℤ table v (with_state w v s))
    (λ s l. sum_over_out count vs (table v) (λ x. product_over (λ u. table u x) vs) later.0 (with_state w v s) (with_in count w v s i l)
    ∙ ap (λ x. table v (with_state w v s) *ℤ x) (sum_over_totals count table total vs later.1 totals.1 (with_state w v s) (with_in count w v s i l))
    ∙ mul_comm (table v (with_state w v s)) (product_over total vs))
    ∙ sum_below_mul (count v) (product_over total vs) (λ s. table v (with_state w v s))
    ∙ ap (λ x. product_over total vs *ℤ x) (totals.0.sums w i)
    ∙ mul_comm (product_over total vs) (total v)

pub Ignores-product : (count : ℕ → ℕ) (table : ℕ → World → ℤ) (vs : List ℕ) (u : ℕ) → EachIgnoresAll count table vs (u ∷ []) → Ignores count (λ x. product_over (λ v. table v x) vs) u
Ignores-product count table [] u h = record { same = λ w i s l. refl }
Ignores-product count table (v ∷ vs) u h = Ignores-mul count (table v) (λ x. product_over (λ v. table v x) vs) u h.0.0 (Ignores-product count table vs u h.1)

pub IgnoresAll-product : (count : ℕ → ℕ) (table : ℕ → World → ℤ) (vs us : List ℕ) → EachIgnoresAll count table vs us → IgnoresAll count (λ x. product_over (λ v. table v x) vs) us
IgnoresAll-product count table vs [] h = tt
IgnoresAll-product count table vs (u ∷ us) h = (Ignores-product count table vs u (first vs h), IgnoresAll-product count table vs us (rest vs h))
  where
    first : (vs : List ℕ) → EachIgnoresAll count table vs (u ∷ us) → EachIgnoresAll count table vs (u ∷ [])
    first [] h = tt
    first (v ∷ vs) h = ((h.0.0, tt), first vs h.1)

    rest : (vs : List ℕ) → EachIgnoresAll count table vs (u ∷ us) → EachIgnoresAll count table vs us
    rest [] h = tt
    rest (v ∷ vs) h = (h.0.1, rest vs h.1)

-- The law of totals. The nodes of ins and outs are summed. No table of ins and not f looks at a
-- node of outs; then the tables of outs sum to their totals.
pub totals_out : (count : ℕ → ℕ) (table : ℕ → World → ℤ) (total : ℕ → ℤ) (ins outs : List ℕ) (f : World → ℤ)
    → IgnoresAll count f outs → IgnoresLater count table outs → HaveTotals count table total outs
    → (w : World) → InRange count w
    → sum_over count (ins ++ outs) (λ x. f x *ℤ product_over (λ v. table v x) outs) w ≡ product_over total outs *ℤ sum_over count ins f w
totals_out count table total ins outs f hf later totals w i =
    sum_over_append count ins outs (λ x. f x *ℤ product_over (λ v. table v x) outs) w
    ∙ sum_over_cong count ins (sum_over count outs (λ x. f x *ℤ product_over (λ v. table v x) outs)) (λ x. product_over total outs *ℤ f x)
    (λ x j. sum_over_out count outs f (λ x. product_over (λ v. table v x) outs) hf x j
    ∙ ap (λ y. f x *ℤ y) (sum_over_totals count table total outs later totals x j)
    ∙ mul_comm (f x) (product_over total outs)) w i
    ∙ sum_over_mul count ins (product_over total outs) f w

-- the same for all nodes of a list, of which those that pass the test keep are kept
pub law_of_totals : (count : ℕ → ℕ) (table : ℕ → World → ℤ) (total : ℕ → ℤ) (keep : ℕ → Bool) (nodes : List ℕ) (f : World → ℤ)
    → EachIgnoresAll count table (filter keep nodes) (filter (λ v. not (keep v)) nodes)
    → IgnoresAll count f (filter (λ v. not (keep v)) nodes)
    → IgnoresLater count table (filter (λ v. not (keep v)) nodes)
    → HaveTotals count table total (filter (λ v. not (keep v)) nodes)
    → (w : World) → InRange count w
    → sum_over count nodes (λ x. f x *ℤ product_over (λ v. table v x) nodes) w
    ≡ product_over total (filter (λ v. not (keep v)) nodes) *ℤ sum_over count (filter keep nodes) (λ x. f x *ℤ product_over (λ v. table v x) (filter keep nodes)) w
law_of_totals count table total keep nodes f closed hf later totals w i =
    sum_over_split count keep nodes (λ x. f x *ℤ product_over (λ v. table v x) nodes) w
    ∙ ap (λ g. sum_over count (ins ++ outs) g w) (fun_ext (λ x. ap (λ y. f x *ℤ y) (product_over-split (λ v. table v x) keep nodes) ∙ sym (mul_assoc (f x) (product_over (λ v. table v x) ins) (product_over (λ v. table v x) outs))))
    ∙ totals_out count table total ins outs (λ x. f x *ℤ product_over (λ v. table v x) ins) (both outs hf (IgnoresAll-product count table ins outs closed)) later totals w i
  where
    ins : List ℕ
    ins = filter keep nodes

    outs : List ℕ
    outs = filter (λ v. not (keep v)) nodes

    both : (us : List ℕ) → IgnoresAll count f us → IgnoresAll count (λ x. product_over (λ v. table v x) ins) us → IgnoresAll count (λ x. f x *ℤ product_over (λ v. table v x) ins) us
    both [] a b = tt
    both (u ∷ us) a b = (Ignores-mul count f (λ x. product_over (λ v. table v x) ins) u a.0 b.0, both us a.1 b.1)

-- The law of products: a sum over worlds whose tables fall into two groups and others that sum to
-- their totals.
use Rattle.std.proofs.Common.{◌≡◌, ◌≢◌, ◌∙◌, ℕ, Bool, true, false, not, eqb, filter, List, [], ◌∷◌, ◌++◌, refl, sym, ap, ℤ, ◌*ℤ◌}
use Rattle.std.proofs.Math.Path.{fun_ext}
use Rattle.finite_sums.specs.Members.{Among}
use Rattle.finite_sums.specs.Looks.{IgnoresAll, EachIgnoresAll, IgnoresLater, HaveTotals}
use Rattle.finite_sums.specs.Sums.{World, sum_over, product_over, InRange}
use Rattle.finite_sums.proofs.Ints.{mul_comm, mul_assoc, products}
use Rattle.finite_sums.proofs.Sums.{sum_over_cong, sum_over_out, sum_over_append, sum_over_split, sum_over_product, with_other, Ignores-mul}
use Rattle.finite_sums.proofs.Totals.{law_of_totals, IgnoresAll-product, product_over-split}
use Rattle.finite_sums.specs.Members.{Avoids}
use Rattle.finite_sums.proofs.Lists.{among_filter, each_ignored}
use Rattle.maid_laws.proofs.Collapse.{one_if, agree, fix_is, collapse, Apart}

-- a product looks at no node that neither factor looks at
pub both_ignored : (count : ℕ → ℕ) (f g : World → ℤ) (us : List ℕ) → IgnoresAll count f us → IgnoresAll count g us → IgnoresAll count (λ w. f w *ℤ g w) us
both_ignored count f g [] a b = tt
both_ignored count f g (u ∷ us) a b = (Ignores-mul count f g u a.0 b.0, both_ignored count f g us a.1 b.1)

-- the tests at fixed nodes look at no other
pub agree_ignored : (count : ℕ → ℕ) (os : List ℕ) (q : World) (us : List ℕ) → ((o : ℕ) → Among o os → (u : ℕ) → Among u us → o ≢ u) → IgnoresAll count (agree os q) us
agree_ignored count os q us apart =
    IgnoresAll-product count (λ o w. one_if (eqb (w o) (q o))) os us
    (each_ignored count (λ o w. one_if (eqb (w o) (q o))) os us (λ o m u k. record { same = λ w i s l. ap (λ x. one_if (eqb x (q o))) (with_other w u s o (apart o m u k)) }))

-- where a test tells two lists apart
pub apart_by : (p : ℕ → Bool) (x y : ℕ) → p x ≡ true → p y ≡ false → x ≢ y
apart_by p x y a b e = let f : p x ≡ p y = ap p e in cc

-- what passes the negated test fails the test
pub passes_not : (p : ℕ → Bool) (x : ℕ) → not (p x) ≡ true → p x ≡ false
passes_not p x h = go (p x) h
  where
    go : (b : Bool) → not b ≡ true → b ≡ false
    go true h = cc
    go false h = refl

module _ (count : ℕ → ℕ) (table : ℕ → World → ℤ) (total : ℕ → ℤ) (keep given first : ℕ → Bool) (nodes : List ℕ) where
  -- the nodes that the test keeps, and the others
  abbrev pub kept : List ℕ
  kept = filter keep nodes

  abbrev pub outs : List ℕ
  outs = filter (λ v. not (keep v)) nodes

  -- the kept nodes that are fixed, and the free ones
  abbrev pub fixed : List ℕ
  fixed = filter given kept

  abbrev pub free : List ℕ
  free = filter (λ v. not (given v)) kept

  -- the free nodes of the first group and of the second
  abbrev pub free_first : List ℕ
  free_first = filter first free

  abbrev pub free_second : List ℕ
  free_second = filter (λ v. not (first v)) free

  -- the tables of both groups
  abbrev pub tables_first : List ℕ
  tables_first = filter first kept

  abbrev pub tables_second : List ℕ
  tables_second = filter (λ v. not (first v)) kept

  -- the product of the tables of some nodes
  abbrev pub product_of : List ℕ → World → ℤ
  product_of vs w = product_over (λ v. table v w) vs

  -- a fixed node is not summed out
  fixed_out : (o : ℕ) → Among o fixed → (u : ℕ) → Among u outs → o ≢ u
  fixed_out o m u k = apart_by keep o u (among_filter keep o nodes (among_filter given o kept m).0).1 (passes_not keep u (among_filter (λ v. not (keep v)) u nodes k).1)

  -- nor is it free
  fixed_free : (o : ℕ) → Among o fixed → (u : ℕ) → Among u free → o ≢ u
  fixed_free o m u k = apart_by given o u (among_filter given o kept m).1 (passes_not given u (among_filter (λ v. not (given v)) u kept k).1)

  -- the others are summed to their totals, the fixed nodes have q's states, and the rest falls into
  -- two sums
  pub grouped : (f : World → ℤ) (q w : World)
      → EachIgnoresAll count table kept outs → IgnoresAll count f outs → IgnoresLater count table outs → HaveTotals count table total outs
      → EachIgnoresAll count table tables_first free_second → IgnoresAll count f free_second → EachIgnoresAll count table tables_second free_first
      → Apart fixed → InRange count q → InRange count w → ((v : ℕ) → Avoids v fixed → w v ≡ q v)
      → sum_over count nodes (λ x. agree fixed q x *ℤ (product_of nodes x *ℤ f x)) w
      ≡ product_over total outs *ℤ (sum_over count free_first (λ x. f x *ℤ product_of tables_first x) q *ℤ sum_over count free_second (product_of tables_second) q)
  grouped f q w closed f_out later totals first_ignores f_second second_ignores apart iq iw elsewhere =
      ap (λ g. sum_over count nodes g w) (fun_ext (λ x. ap (λ y. agree fixed q x *ℤ y) (mul_comm (product_of nodes x) (f x)) ∙ sym (mul_assoc (agree fixed q x) (f x) (product_of nodes x))))
      ∙ law_of_totals count table total keep nodes (λ x. agree fixed q x *ℤ f x) closed (both_ignored count (agree fixed q) f outs (agree_ignored count fixed q outs fixed_out) f_out) later totals w iw
      ∙ ap (λ y. product_over total outs *ℤ y)
      (sum_over_split count given kept (λ x. (agree fixed q x *ℤ f x) *ℤ product_of kept x) w
      ∙ sum_over_append count fixed free (λ x. (agree fixed q x *ℤ f x) *ℤ product_of kept x) w
      ∙ sum_over_cong count fixed (sum_over count free (λ x. (agree fixed q x *ℤ f x) *ℤ product_of kept x)) (λ x. agree fixed q x *ℤ sum_over count free (λ y. f y *ℤ product_of kept y) x)
      (λ x i. ap (λ g. sum_over count free g x) (fun_ext (λ y. mul_assoc (agree fixed q y) (f y) (product_of kept y)))
      ∙ sum_over_out count free (agree fixed q) (λ y. f y *ℤ product_of kept y) (agree_ignored count fixed q free fixed_free) x i) w iw
      ∙ collapse count fixed q (sum_over count free (λ y. f y *ℤ product_of kept y)) iq apart w iw
      ∙ ap (sum_over count free (λ y. f y *ℤ product_of kept y)) (fix_is fixed q w elsewhere)
      ∙ sum_over_split count first free (λ y. f y *ℤ product_of kept y) q
      ∙ ap (λ g. sum_over count (free_first ++ free_second) g q) (fun_ext (λ y. ap (λ z. f y *ℤ z) (product_over-split (λ v. table v y) first kept) ∙ sym (mul_assoc (f y) (product_of tables_first y) (product_of tables_second y))))
      ∙ sum_over_product count free_first free_second (λ y. f y *ℤ product_of tables_first y) (product_of tables_second)
      (both_ignored count f (product_of tables_first) free_second f_second (IgnoresAll-product count table tables_first free_second first_ignores))
      (IgnoresAll-product count table tables_second free_first second_ignores) q iq)

-- the algebra of the equation: G(s) R(t) = G(t) R(s)
pub cross : (ks kt a b bs bt : ℤ) → (ks *ℤ (a *ℤ bs)) *ℤ (kt *ℤ (b *ℤ bt)) ≡ (kt *ℤ (a *ℤ bt)) *ℤ (ks *ℤ (b *ℤ bs))
cross ks kt a b bs bt = simp products

-- Products of chance totals over sets, factor by factor.
use Rattle.std.proofs.Common.{◌≡◌, ◌∙◌, ◌↔◌, ℕ, zero, suc, ◌+◌, ◌*◌, ◌<◌, ◌≤◌, Bool, true, false, not, cond, filter, List, [], ◌∷◌, Contains, length, refl, sym, ap, inl, inr, arith, le_refl, mul-le-mul}
use Rattle.std.specs.List.{range_with_len}
use Rattle.finite_sums.specs.Members.{Among}
use Rattle.finite_sums.specs.Sums.{nat_product_over}
use Rattle.finite_sums.proofs.Lists.{among_filter}
use Rattle.finite_sums.proofs.Members.{among_from_contains, contains_from_among, filter_has}
use Rattle.maid_model.specs.Nodes.{numbers_of}
use Rattle.maid_model.specs.Scopes.{chance_factor}
use Rattle.maid_model.specs.Tables.{HasChanceTables}
use Rattle.maid_model.specs.Views.{NodeView}
use Rattle.maid_model.proofs.Weighing.{product_positive}
use Rattle.maid_laws.proofs.Rearranged.{number, numbered}
use Rattle.node_sets.specs.declared.sets.NodeSet.{NodeSet}
use Rattle.node_sets.specs.Sets.{holds, IsIn}
use Rattle.cell_rings.specs.RingLaws.{mass_is_ring}
use Rattle.part_laws.proofs.ScopeBounds.{chances_positive}
use Rattle.plan_sums.specs.Plans.{PlanView, in_plan}
use Rattle.scope_sums.specs.Missing.{lacking_in}
use Rattle.scope_sums.proofs.Shares.{tested_product}
use Rattle.evidence.specs.Stakes.{chances_in}

-- ---- the first factors
-- one factor more
next_factor : (f : ℕ → ℕ) (k n : ℕ) → nat_product_over f (range_with_len k n) * f (k + n) ≡ nat_product_over f (range_with_len k (suc n))
next_factor f k zero = alone (f (k + 0)) ∙ ap (λ j. f j * 1) (nought k)
  where
    alone : (a : ℕ) → 1 * a ≡ a * 1
    alone a = omega arith

    nought : (k : ℕ) → k + 0 ≡ k
    nought k = omega arith
next_factor f k (suc n) =
    mass_is_ring.times_assoc (f k) (nat_product_over f (range_with_len (k + 1) n)) (f (k + suc n))
    ∙ ap (λ j. f k * (nat_product_over f (range_with_len (k + 1) n) * f j)) (shift k n)
    ∙ ap (λ m. f k * m) (next_factor f (k + 1) n)
  where
    shift : (k n : ℕ) → k + suc n ≡ k + 1 + n
    shift k n = omega arith

pub one_factor : (f : ℕ → ℕ) (v m : ℕ) → m ≡ nat_product_over f (range_with_len 0 v) → m * f v ≡ nat_product_over f (range_with_len 0 (v + 1))
one_factor f v m e = (λ i. e i * f (from_zero v i)) ∙ next_factor f 0 v ∙ ap (λ n. nat_product_over f (range_with_len 0 n)) (later v)
  where
    from_zero : (v : ℕ) → v ≡ 0 + v
    from_zero v = omega arith

    later : (v : ℕ) → suc v ≡ v + 1
    later v = omega arith

-- the first ones multiply to no more than all
first_factors : (f : ℕ → ℕ) → ((v : ℕ) → 0 < f v) → (k n m : ℕ) → n ≤ m → nat_product_over f (range_with_len k n) ≤ nat_product_over f (range_with_len k m)
first_factors f some k zero m h = product_positive f (range_with_len k m) some
first_factors f some k (suc n) zero h = absurd (omega (arith, h))
first_factors f some k (suc n) (suc m) h = mul-le-mul (le_refl (f k)) (first_factors f some (k + 1) n m (omega (arith, h)))

module _ (nodes : List NodeView) (set : NodeSet) where
  -- a member's chance total, and 1 at another node
  abbrev pub factor_at : ℕ → ℕ
  factor_at v = cond (holds set v) (chance_factor nodes v) 1

  pub product_so_far : HasChanceTables nodes → (n : ℕ) → n ≤ length nodes → nat_product_over factor_at (range_with_len 0 n) ≤ chances_in nodes set
  product_so_far h n l = first_factors factor_at (λ v. some (holds set v) v) 0 n (length nodes) l
    where
      some : (b : Bool) (v : ℕ) → 0 < cond b (chance_factor nodes v) 1
      some true v = chances_positive nodes h v
      some false v = omega arith

-- ---- what a plan lacks

-- the same factors at each member
same_product : (f h : ℕ → ℕ) (vs : List ℕ) → ((v : ℕ) → Among v vs → f v ≡ h v) → nat_product_over f vs ≡ nat_product_over h vs
same_product f h [] e = refl
same_product f h (v ∷ vs) e = λ i. e v (inl refl) i * same_product f h vs (λ u m. e u (inr m)) i

-- a set of the members of a list of nodes that pass a test marks them
marked : (nodes : List NodeView) (q : ℕ → Bool) (set : NodeSet) → ((v : ℕ) → IsIn set v ↔ Contains (filter q (numbers_of nodes)) v) → (v : ℕ) → v < length nodes → IsIn set v ↔ (q v ≡ true)
marked nodes q set h v l = (
  (λ t. (among_filter q v (numbers_of nodes) (among_from_contains (filter q (numbers_of nodes)) v ((h v).0 t))).1),
  (λ t. (h v).1 (contains_from_among (filter q (numbers_of nodes)) v (filter_has q v (numbers_of nodes) (number nodes v l) t))),
)

-- what is left of the nodes that pass a test where a plan's are taken out
pub left_product : (nodes : List NodeView) (keep : ℕ → Bool) (plan : PlanView) (scope planned left : NodeSet)
    → ((v : ℕ) → IsIn scope v ↔ Contains (filter keep (numbers_of nodes)) v)
    → ((v : ℕ) → v < length nodes → IsIn planned v ↔ (in_plan nodes plan v ≡ true))
    → ((v : ℕ) → IsIn left v ↔ (IsIn scope v × (IsIn planned v → ⊥)))
    → chances_in nodes left ≡ nat_product_over (chance_factor nodes) (lacking_in nodes (filter keep (numbers_of nodes)) plan)
left_product nodes keep plan scope planned left scoped plans lefts =
    same_product (λ v. cond (holds left v) (chance_factor nodes v) 1) (λ v. cond (keep v) (cond (not (in_plan nodes plan v)) (chance_factor nodes v) 1) 1) (numbers_of nodes)
    (λ v m. let l = numbered nodes v m in go (holds left v) (keep v) (in_plan nodes plan v) (chance_factor nodes v) (
      (λ t. let r = (lefts v).0 t in ((marked nodes keep scope scoped v l).0 r.0, (λ k. r.1 ((plans v l).1 k)))),
      (λ r. (lefts v).1 ((marked nodes keep scope scoped v l).1 r.0, (λ k. r.1 ((plans v l).0 k)))),
    ))
    ∙ sym (tested_product (λ v. cond (not (in_plan nodes plan v)) (chance_factor nodes v) 1) keep (numbers_of nodes))
    ∙ sym (tested_product (chance_factor nodes) (λ v. not (in_plan nodes plan v)) (filter keep (numbers_of nodes)))
  where
    go : (a b c : Bool) (n : ℕ) → (a ≡ true) ↔ ((b ≡ true) × (c ≡ true → ⊥)) → cond a n 1 ≡ cond b (cond (not c) n 1) 1
    go true true true n h = absurd ((h.0 refl).1 refl)
    go true true false n h = refl
    go true false c n h = absurd (let e = (h.0 refl).0 in cc)
    go false true true n h = refl
    go false true false n h = absurd (let e = h.1 (refl, λ k. cc) in cc)
    go false false c n h = refl

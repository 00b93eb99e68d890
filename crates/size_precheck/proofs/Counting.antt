-- Members and products counted along a walk through a set, and counts that stop.
use Rattle.std.proofs.Common.{◌≡◌, ◌∙◌, ◌⊎◌, ℕ, zero, suc, ◌+◌, ◌*◌, ◌^◌, ◌<◌, ◌≤◌, min, Bool, false, cond, List, length, get_or, sym, ap, inl, inr, arith}
use Rattle.finite_sums.proofs.Counts.{true_or_false}
use Rattle.node_sets.specs.declared.sets.NodeSet.{NodeSet}
use Rattle.node_sets.specs.Sets.{holds, IsIn, IsFirstFrom}
use Rattle.std.proofs.lemmas.List.{get_or_default}
use Rattle.maid_model.specs.declared.limits.TheConstants.{COUNT_END}
use Rattle.maid_model.specs.Bounds.{stopped}
use Rattle.size_precheck.specs.Joints.{members_below, product_below, factor, counted_over}

-- ---- counts that stop
-- a factor of a product may be stopped first
pub stop_first : (e a b : ℕ) → min (min a e * b) e ≡ min (a * b) e
stop_first e a zero = grind arith
stop_first e a (suc b) = go (le_or_lt a e)
  where
    le_or_lt : (a e : ℕ) → (a ≤ e) ⊎ (e < a)
    le_or_lt a e = grind arith

    more : (x y : ℕ) → x ≤ x * suc y
    more x y = grind arith

    go : (a ≤ e) ⊎ (e < a) → min (min a e * suc b) e ≡ min (a * suc b) e
    go (inl l) = let s : min a e ≡ a = omega arith in ap (λ x. min (x * suc b) e) s
    go (inr l) =
        let s : min a e ≡ e = omega arith in
        let k : e ≤ e * suc b = more e b in
        let m : a ≤ a * suc b = more a b in
        ap (λ x. min (x * suc b) e) s ∙ omega arith

-- so may a part of a sum
pub stop_part : (e a b : ℕ) → min (min a e + b) e ≡ min (a + b) e
stop_part e a b = omega arith

pub stop_later : (e a b : ℕ) → min (a + min b e) e ≡ min (a + b) e
stop_later e a b = omega arith

-- ---- walks
below_or_last : (a b : ℕ) → a ≤ suc b → (a ≤ b) ⊎ (a ≡ suc b)
below_or_last a b l = grind arith

-- numbers that don't pass the test count for nothing
pub members_gap : (test : ℕ → Bool) (a b : ℕ) → a ≤ b → ((w : ℕ) → a ≤ w → w < b → test w ≡ false) → members_below test b ≡ members_below test a
members_gap test a zero l h = let e : 0 ≡ a = omega arith in ap (λ n. members_below test n) e
members_gap test a (suc b) l h = go (below_or_last a b l) (λ m. members_gap test a b m (λ w x y. h w x (omega arith)))
  where
    go : (a ≤ b) ⊎ (a ≡ suc b) → (a ≤ b → members_below test b ≡ members_below test a) → members_below test (suc b) ≡ members_below test a
    go (inl m) rec = let e : members_below test b + 0 ≡ members_below test b = omega arith in ap (λ t. members_below test b + cond t 1 0) (h b m (omega arith)) ∙ e ∙ rec m
    go (inr e) rec = ap (λ n. members_below test n) (sym e)

-- factors of one change no product
pub product_gap : (f : ℕ → ℕ) (a b : ℕ) → a ≤ b → ((w : ℕ) → a ≤ w → w < b → f w ≡ 1) → product_below f b ≡ product_below f a
product_gap f a zero l h = let e : 0 ≡ a = omega arith in ap (λ n. product_below f n) e
product_gap f a (suc b) l h = go (below_or_last a b l) (λ m. product_gap f a b m (λ w x y. h w x (omega arith)))
  where
    go : (a ≤ b) ⊎ (a ≡ suc b) → (a ≤ b → product_below f b ≡ product_below f a) → product_below f (suc b) ≡ product_below f a
    go (inl m) rec = let e : product_below f b * 1 ≡ product_below f b = omega arith in ap (λ x. product_below f b * x) (h b m (omega arith)) ∙ e ∙ rec m
    go (inr e) rec = ap (λ n. product_below f n) (sym e)

abbrev pub Lacks : NodeSet → ℕ → ℕ → Type 0
Lacks set from to = (w : ℕ) → from ≤ w → w < to → IsIn set w → ⊥

lacks_test : (set : NodeSet) (w : ℕ) → (IsIn set w → ⊥) → holds set w ≡ false
lacks_test set w n = elim (true_or_false (holds set w)) as (λ _. holds set w ≡ false) [ inl t ↦ absurd (n t) | inr f ↦ f ]

module _ (set : NodeSet) where
  pub members_to : (from to : ℕ) → from ≤ to → Lacks set from to → members_below (holds set) to ≡ members_below (holds set) from
  members_to from to l h = members_gap (holds set) from to l (λ w x y. lacks_test set w (h w x y))

  pub members_with : (from v : ℕ) → IsFirstFrom set from v → members_below (holds set) (v + 1) ≡ members_below (holds set) from + 1
  members_with from v h =
      let next : v + 1 ≡ suc v = omega arith in
      ap (λ n. members_below (holds set) n) next ∙ ap (λ t. members_below (holds set) v + cond t 1 0) h.inside ∙ ap (λ n. n + 1) (members_to from v h.not_before h.first)

  pub factors_to : (states : List ℕ) (from to : ℕ) → from ≤ to → Lacks set from to → product_below (factor states (holds set)) to ≡ product_below (factor states (holds set)) from
  factors_to states from to l h = product_gap (factor states (holds set)) from to l (λ w x y. ap (λ t. cond t (get_or states w 1) 1) (lacks_test set w (h w x y)))

  pub factors_with : (states : List ℕ) (from v : ℕ) → IsFirstFrom set from v
      → product_below (factor states (holds set)) (v + 1) ≡ product_below (factor states (holds set)) from * get_or states v 1
  factors_with states from v h =
      let next : v + 1 ≡ suc v = omega arith in
      ap (λ n. product_below (factor states (holds set)) n) next ∙ ap (λ t. product_below (factor states (holds set)) v * cond t (get_or states v 1) 1) h.inside ∙ ap (λ n. n * get_or states v 1) (factors_to states from v h.not_before h.first)

  -- one member more of a walk
  pub counted_more : (states : List ℕ) (from v cells next : ℕ) → v < length states → IsFirstFrom set from v
      → cells ≡ stopped (product_below (factor states (holds set)) from) → next ≡ stopped (cells * get_or states v 0)
      → next ≡ stopped (product_below (factor states (holds set)) (v + 1))
  counted_more states from v cells next within h so_far is =
      let before = product_below (factor states (holds set)) from in
      is
      ∙ ap (λ n. stopped (n * get_or states v 0)) so_far
      ∙ stop_first COUNT_END before (get_or states v 0)
      ∙ ap (λ x. stopped (before * x)) (get_or_default states v 0 1 within)
      ∙ ap (λ n. stopped n) (sym (factors_with states from v h))

at_most : (a e : ℕ) → min a e ≤ e
at_most a e = omega arith

pub counted_few : (states : List ℕ) (scope : ℕ → Bool) → counted_over states scope ≤ 10 ^ 18
unfolding counted_over
counted_few states scope = at_most (product_below (factor states scope) 256) (10 ^ 18)

pub stopped_few : (n : ℕ) → stopped n ≤ 10 ^ 18
stopped_few n = at_most n (10 ^ 18)

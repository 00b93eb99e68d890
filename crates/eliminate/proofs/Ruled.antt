-- The nodes of a plan's first tables: by the set that the code makes, and how many they are.
use Rattle.std.proofs.Common.{◌≡◌, ◌≢◌, ◌∙◌, ◌⊎◌, ◌↔◌, ℕ, zero, suc, ◌+◌, ◌<◌, ◌≤◌, Bool, true, false, cond, eqb, not, ◌&&◌, ◌||◌, filter, List, [], ◌∷◌, ◌++◌, length, refl, sym, ap, subst, inl, inr, arith, Option, Some, None, option_to_list, Contains}
use Rattle.std.proofs.Math.Decide.{ℕ_discrete}
use Rattle.std.specs.List.{range_with_len}
use Rattle.std.proofs.lemmas.List.{length-append}
use Rattle.std.proofs.lemmas.List.Filters.{length-filter_both}
use Rattle.std.proofs.lemmas.List.FromFn.{length-range_with_len}
use Rattle.finite_sums.specs.Members.{Among}
use Rattle.finite_sums.proofs.Counts.{true_or_false}
use Rattle.finite_sums.proofs.Lists.{among_filter}
use Rattle.finite_sums.proofs.Members.{among_from_contains, contains_from_among, range_within, range_has, filter_has}
use Rattle.maid_model.specs.declared.diagrams.Kind.TheVariants.{Utility}
use Rattle.maid_model.specs.Nodes.{node_at, numbers_of, is_utility}
use Rattle.maid_model.specs.Views.{NodeView}
use Rattle.maid_laws.proofs.Booleans.{eqb_yes, eqb_no}
use Rattle.maid_laws.proofs.Tied.{kind_within}
use Rattle.node_sets.specs.declared.sets.NodeSet.{NodeSet}
use Rattle.node_sets.specs.Sets.{holds, IsIn}
use Rattle.plan_sums.specs.Laws.{IsOrderOfPlan}
use Rattle.plan_sums.specs.Plans.{PlanView, has, in_plan, plan_nodes, ruled_nodes}
use Rattle.plan_sums.specs.Sizes.{IsPlan}
use Rattle.plan_sums.proofs.Filters.{filter_cong, filter_filter, filter_none, has_yes, has_member}
use Rattle.plan_sums.proofs.Sized.{option_has, has_option, in_plan_kind, ruled_in}
use Rattle.eliminate.specs.Steps.{first_nodes}

-- ---- members
pub has_contains : (xs : List ℕ) (v : ℕ) → (has xs v ≡ true) ↔ Contains xs v
has_contains xs v = ((λ e. contains_from_among xs v (has_member v xs e)), (λ m. has_yes v xs (among_from_contains xs v m)))

in_filter : (p : ℕ → Bool) (xs : List ℕ) (v : ℕ) → Contains (filter p xs) v ↔ (Contains xs v × (p v ≡ true))
in_filter p xs v = (
  (λ m. let a = among_filter p v xs (among_from_contains (filter p xs) v m) in (contains_from_among xs v a.0, a.1)),
  (λ h. contains_from_among (filter p xs) v (filter_has p v xs (among_from_contains xs v h.0) h.1)),
)

-- tests that hold of the same numbers are one
same_test : (a b : Bool) → (a ≡ true → b ≡ true) → (b ≡ true → a ≡ true) → a ≡ b
same_test true b f g = sym (f refl)
same_test false b f g = elim (true_or_false b) as (λ _. false ≡ b) [ inl e ↦ g e ∙ sym e | inr e ↦ sym e ]

both : (a b : Bool) → a ≡ true → b ≡ true → (a && b) ≡ true
both true b e f = f
both false b e f = e

first_of : (a b : Bool) → (a && b) ≡ true → a ≡ true
first_of true b e = refl
first_of false b e = e

second_of : (a b : Bool) → (a && b) ≡ true → b ≡ true
second_of true b e = e
second_of false b e = absurd (cc)

either_first : (a b : Bool) → a ≡ true → (a || b) ≡ true
either_first true b e = refl
either_first false b e = absurd (cc)

not_of : (b : Bool) → (b ≡ true → ⊥) → not b ≡ true
not_of true n = absurd (n refl)
not_of false n = refl

of_not : (b : Bool) → not b ≡ true → b ≡ true → ⊥
of_not true e f = absurd (cc)
of_not false e f = absurd (cc)

either_of : (a b : Bool) → (a || b) ≡ true → (a ≡ true) ⊎ (b ≡ true)
either_of true b e = inl refl
either_of false b e = inr e

-- ---- how many pass
pass_step : (a b c : Bool) (x : ℕ) (ps qs rs : List ℕ) → (a ≡ true → (b ≡ true) ⊎ (c ≡ true)) → length ps ≤ length qs + length rs → length (cond a (x ∷ ps) ps) ≤ length (cond b (x ∷ qs) qs) + length (cond c (x ∷ rs) rs)
pass_step false true true x ps qs rs h l = omega (arith, l)
pass_step false true false x ps qs rs h l = omega (arith, l)
pass_step false false true x ps qs rs h l = omega (arith, l)
pass_step false false false x ps qs rs h l = omega (arith, l)
pass_step true true true x ps qs rs h l = omega (arith, l)
pass_step true true false x ps qs rs h l = omega (arith, l)
pass_step true false true x ps qs rs h l = omega (arith, l)
pass_step true false false x ps qs rs h l = absurd (none (h refl))
  where
    none : ((false ≡ true) ⊎ (false ≡ true)) → ⊥
    none (inl e) = cc
    none (inr e) = cc

-- where each that passes passes one of two tests, no more pass than the two together let through
passes_either : (p q r : ℕ → Bool) (xs : List ℕ) → ((v : ℕ) → Among v xs → p v ≡ true → (q v ≡ true) ⊎ (r v ≡ true)) → length (filter p xs) ≤ length (filter q xs) + length (filter r xs)
passes_either p q r [] h = omega arith
passes_either p q r (x ∷ xs) h =
    pass_step (p x) (q x) (r x) x (filter p xs) (filter q xs) (filter r xs) (h x (inl refl)) (passes_either p q r xs (λ v m. h v (inr m)))

-- of ascending numbers at most one is a given one, and none once they are greater
one_is : (y a n : ℕ) → (length (filter (eqb y) (range_with_len a n)) ≤ 1) × (y < a → length (filter (eqb y) (range_with_len a n)) ≡ 0)
one_is y a zero = (omega arith, λ l. refl)
one_is y a (suc n) = at (eqb y a) (filter (eqb y) (range_with_len (a + 1) n)) (ℕ_discrete y a) refl (one_is y (a + 1) n)
  where
    at : (b : Bool) (rest : List ℕ) → Dec (y ≡ a) → eqb y a ≡ b → (length rest ≤ 1) × (y < a + 1 → length rest ≡ 0) → (length (cond b (a ∷ rest) rest) ≤ 1) × (y < a → length (cond b (a ∷ rest) rest) ≡ 0)
    at true rest (yes e) is h = (omega (arith, h.1 (omega (arith, e))), λ l. absurd (omega (arith, l, e)))
    at true rest (no n) is h = absurd (let f : true ≡ false = sym is ∙ eqb_no y a n in cc)
    at false rest (yes e) is h = absurd (let f : true ≡ false = sym (eqb_yes y a e) ∙ is in cc)
    at false rest (no n) is h = (h.0, λ l. h.1 (omega (arith, l)))

-- no more numbers are in a list than it has places
has_few : (ys : List ℕ) (n : ℕ) → length (filter (λ v. has ys v) (range_with_len 0 n)) ≤ length ys
has_few [] n = omega (arith, ap length (filter_none (range_with_len 0 n)))
has_few (y ∷ ys) n =
    omega (
      arith,
      passes_either (λ v. has (y ∷ ys) v) (eqb y) (λ v. has ys v) (range_with_len 0 n) (λ v m e. either_of (eqb y v) (has ys v) e),
      (one_is y 0 n).0,
      has_few ys n,
    )

module _ (nodes : List NodeView) (plan : PlanView) where
  -- a kept node is one of the plan
  kept_in : (v : ℕ) → Contains plan.keep v → in_plan nodes plan v ≡ true
  kept_in v m = either_first (has plan.keep v) _ ((has_contains plan.keep v).1 m)

  pub kept_known : IsPlan nodes plan → (v : ℕ) → Contains plan.keep v → v < length nodes
  kept_known is v m = kind_within nodes v (is.kept v m)

  in_numbers : (v : ℕ) → Among v (numbers_of nodes) → v < length nodes
  in_numbers v m = let l = (range_within 0 (length nodes) v m).1 in omega arith

  module _ (steps : List ℕ) (order : IsOrderOfPlan nodes plan steps) where
    step_in : (v : ℕ) → Contains steps v → Contains (plan_nodes nodes plan) v
    step_in v m = ((in_filter (λ x. not (has plan.keep x)) (plan_nodes nodes plan) v).0 ((order.all v).0 m)).0

    pub step_known : (v : ℕ) → Contains steps v → v < length nodes
    step_known v m = in_numbers v (among_filter (in_plan nodes plan) v (numbers_of nodes) (among_from_contains (plan_nodes nodes plan) v (step_in v m))).0

    step_passes : (v : ℕ) → Contains steps v → in_plan nodes plan v ≡ true
    step_passes v m = ((in_filter (in_plan nodes plan) (numbers_of nodes) v).0 (step_in v m)).1

    -- a node of the plan is kept or eliminated
    kept_or_step : (v : ℕ) → v < length nodes → in_plan nodes plan v ≡ true → Contains plan.keep v ⊎ Contains steps v
    kept_or_step v l e = elim (true_or_false (has plan.keep v)) as (λ _. Contains plan.keep v ⊎ Contains steps v) [
      | inl h ↦ inl ((has_contains plan.keep v).0 h)
      | inr h ↦ inr ((order.all v).1 ((in_filter (λ x. not (has plan.keep x)) (plan_nodes nodes plan) v).1 ((in_filter (in_plan nodes plan) (numbers_of nodes) v).1 (contains_from_among (numbers_of nodes) v (range_has 0 (length nodes) v (omega arith) (omega arith)), e), ap not h)))
    ]

    -- the set that the code makes
    pub ruled_are : (set : NodeSet) → ((v : ℕ) → IsIn set v ↔ ((Contains plan.keep v ⊎ Contains steps v) × (plan.without ≡ Some v → ⊥)))
        → filter (holds set) (numbers_of nodes) ≡ ruled_nodes nodes plan
    ruled_are set is =
        filter_cong (holds set) (λ v. in_plan nodes plan v && not (has (option_to_list plan.without) v)) (numbers_of nodes) (λ v m. same_test _ _
        (λ e.
        let h = (is v).0 e in
        both _ _ (elim h.0 as (λ _. in_plan nodes plan v ≡ true) [ inl k ↦ kept_in v k | inr s ↦ step_passes v s ]) (not_of _ (λ f. h.1 (option_has plan.without v f))))
        (λ e. (is v).1 (kept_or_step v (in_numbers v m) (first_of _ _ e), λ f. of_not _ (second_of (in_plan nodes plan v) _ e) (has_option plan.without v f))))
        ∙ sym (filter_filter (λ v. not (has (option_to_list plan.without) v)) (in_plan nodes plan) (numbers_of nodes))

  -- ---- how many
  filter_le : (p : ℕ → Bool) (xs : List ℕ) → length (filter p xs) ≤ length xs
  filter_le p xs = omega (arith, length-filter_both p (λ x. not (p x)) (λ x. refl) xs)

  -- the utility is none of them
  pub few_nodes : IsPlan nodes plan → ((u : ℕ) → plan.utility ≡ Some u → u < length nodes) → length (first_nodes nodes plan) ≤ length nodes
  few_nodes is known = by plan.utility refl
    where
      ruled_few : length (ruled_nodes nodes plan) ≤ length (plan_nodes nodes plan)
      ruled_few = filter_le (λ v. not (has (option_to_list plan.without) v)) (plan_nodes nodes plan)

      counted : length (plan_nodes nodes plan) + length (filter (λ v. not (in_plan nodes plan v)) (numbers_of nodes)) ≡ length nodes
      counted = length-filter_both (in_plan nodes plan) (λ v. not (in_plan nodes plan v)) (λ v. refl) (numbers_of nodes) ∙ length-range_with_len 0 (length nodes)

      one : (xs : List ℕ) (v : ℕ) → Contains xs v → 0 < length xs
      one xs v m = let l = m.1 in omega arith

      outside : (u : ℕ) → plan.utility ≡ Some u → 0 < length (filter (λ v. not (in_plan nodes plan v)) (numbers_of nodes))
      outside u some = one _ u ((in_filter (λ v. not (in_plan nodes plan v)) (numbers_of nodes) u).1 (
        contains_from_among (numbers_of nodes) u (range_has 0 (length nodes) u (omega arith) (let l = known u some in omega arith)),
        not_of _ (λ e. absurd (let f : true ≡ false = sym (ap is_utility (is.utility u some)) ∙ in_plan_kind nodes plan is u e in cc)),
      ))

      by : (o : Option ℕ) → plan.utility ≡ o → length (ruled_nodes nodes plan ++ option_to_list o) ≤ length nodes
      by None e = omega (arith, length-append (ruled_nodes nodes plan) [], ruled_few, counted)
      by (Some u) e = omega (arith, length-append (ruled_nodes nodes plan) (u ∷ []), ruled_few, counted, outside u e)

  -- a table at most for each kept node and each step, and one for the utility
  pub tables_few : (steps : List ℕ) → IsOrderOfPlan nodes plan steps → length (first_nodes nodes plan) ≤ length plan.keep + length steps + 1
  tables_few steps order =
      omega (
        arith,
        length-append (ruled_nodes nodes plan) (option_to_list plan.utility),
        filter_le (λ v. not (has (option_to_list plan.without) v)) (plan_nodes nodes plan),
        passes_either (in_plan nodes plan) (λ v. has plan.keep v) (λ v. has steps v) (numbers_of nodes) (λ v m e. kept (kept_or_step steps order v (in_numbers v m) e)),
        has_few plan.keep (length nodes),
        has_few steps (length nodes),
        one plan.utility,
      )
    where
      kept : {v : ℕ} → (Contains plan.keep v ⊎ Contains steps v) → (has plan.keep v ≡ true) ⊎ (has steps v ≡ true)
      kept {v} (inl m) = inl ((has_contains plan.keep v).1 m)
      kept {v} (inr m) = inr ((has_contains steps v).1 m)

      one : (o : Option ℕ) → length (option_to_list o) ≤ 1
      one None = omega arith
      one (Some u) = omega arith

module _ (nodes : List NodeView) (plan : PlanView) (steps : List ℕ) (order : IsOrderOfPlan nodes plan steps) (set : NodeSet)
    (set_is : (v : ℕ) → IsIn set v ↔ ((Contains plan.keep v ⊎ Contains steps v) × (plan.without ≡ Some v → ⊥))) where
  -- a number of the set is a node
  pub ruled_known : IsPlan nodes plan → (v : ℕ) → holds set v ≡ true → v < length nodes
  ruled_known is v e = elim ((set_is v).0 e).0 as (λ _. v < length nodes) [ inl k ↦ kept_known nodes plan is v k | inr s ↦ step_known nodes plan steps order v s ]

  -- and has its own table
  pub ruled_member : (v : ℕ) → v < length nodes → holds set v ≡ true → Among v (ruled_nodes nodes plan)
  ruled_member v l e = subst (Among v) (ruled_are nodes plan steps order set set_is) (filter_has (holds set) v (numbers_of nodes) (range_has 0 (length nodes) v (omega arith) (omega arith)) e)

-- and is no utility
pub ruled_plain : (nodes : List NodeView) (plan : PlanView) → IsPlan nodes plan → (v : ℕ) → Among v (ruled_nodes nodes plan) → (node_at nodes v).kind ≢ Utility
ruled_plain nodes plan is v m e = absurd (let f : true ≡ false = sym (ap is_utility e) ∙ in_plan_kind nodes plan is v (ruled_in nodes plan is v m) in cc)

-- The nodes, scopes and steps of a plan by the sets and counts of `make_plan`.
use Rattle.std.proofs.Common.{◌≡◌, ◌≢◌, ◌∙◌, ◌↔◌, ℕ, zero, suc, ◌+◌, ◌*◌, ◌<◌, Bool, true, false, cond, not, ◌&&◌, ◌||◌, filter, map, List, [], ◌∷◌, ◌++◌, length, refl, sym, ap, subst, inl, inr, arith, Option, Some, None}
use Rattle.std.specs.Prelude.{Contains, option_to_list}
use Rattle.std.specs.List.{range_with_len}
use Rattle.finite_sums.proofs.Lists.{among_filter}
use Rattle.finite_sums.proofs.Members.{among_from_contains, contains_from_among, filter_has}
use Rattle.maid_model.specs.declared.limits.TheConstants.{COUNT_END}
use Rattle.maid_model.specs.declared.diagrams.Kind.TheVariants.{Utility}
use Rattle.maid_model.specs.Nodes.{node_at, numbers_of, is_utility}
use Rattle.maid_model.specs.Views.{NodeView, RuleView}
use Rattle.node_sets.specs.Sets.{holds, IsIn}
use Rattle.node_sets.specs.declared.sets.NodeSet.{NodeSet}
use Rattle.plan_sums.specs.Plans.{Cells, PlanView, has, in_plan, plan_nodes, eliminated_nodes, ruled_nodes, node_table, utility_table, first_tables}
use Rattle.plan_sums.specs.Sizes.{IsPlan}
use Rattle.ring_sums.proofs.Same.{map_append}
use Rattle.ring_sums.specs.Tables.{scopes_of}
use Rattle.maid_model.specs.Bounds.{stopped}
use Rattle.size_precheck.specs.Counts.{counted_cells}
use Rattle.size_precheck.specs.Joints.{counted_over, AreStateCounts, SomeOf, HoldsOfEach, Rising, IsListOf, family_test, parents_test}
use Rattle.size_precheck.proofs.Counting.{stop_part, stop_later}
use Rattle.size_precheck.proofs.Putting.{has_contains, contains_some, some_contains}
use Rattle.size_precheck.proofs.Scoped.{cells_counted}
use Rattle.size_precheck.proofs.Somewhere.{each_filter, same_test, not_true, true_not}
use Rattle.size_precheck.proofs.Starting.{in_numbers}

-- ---- filters of lists
pub in_filter : (p : ℕ → Bool) (list : List ℕ) (v : ℕ) → Contains (filter p list) v ↔ (Contains list v × (p v ≡ true))
in_filter p list v = (
  (λ m. let a = among_filter p v list (among_from_contains (filter p list) v m) in (contains_from_among list v a.0, a.1)),
  (λ h. contains_from_among (filter p list) v (filter_has p v list (among_from_contains list v h.0) h.1)),
)

pub rising_filter : (p : ℕ → Bool) (list : List ℕ) → Rising list → Rising (filter p list)
rising_filter p [] r = tt
rising_filter p (x ∷ xs) r = go (p x) (rising_filter p xs r.1)
  where
    go : (b : Bool) → Rising (filter p xs) → Rising (cond b (x ∷ filter p xs) (filter p xs))
    go true s = (each_filter (λ y. x < y) (λ y. x < y) p (λ y _ l. l) xs r.0, s)
    go false s = s

above_range : (a k n : ℕ) → a < k → HoldsOfEach (λ y. a < y) (range_with_len k n)
above_range a k zero l = tt
above_range a k (suc n) l = (l, above_range a (k + 1) n (omega arith))

pub rising_range : (k n : ℕ) → Rising (range_with_len k n)
rising_range k zero = tt
rising_range k (suc n) = (above_range k (k + 1) n (omega arith), rising_range (k + 1) n)

each_contained : (P : ℕ → Type 0) (list : List ℕ) → ((v : ℕ) → SomeOf (λ x. x ≡ v) list → P v) → HoldsOfEach P list
each_contained P [] f = tt
each_contained P (x ∷ xs) f = (f x (inl refl), each_contained P xs (λ v s. f v (inr s)))

-- ---- scopes
map_map : {X Y Z : Type 0} (f : X → Y) (g : Y → Z) (xs : List X) → map g (map f xs) ≡ map (λ x. g (f x)) xs
map_map f g [] = refl
map_map f g (x ∷ xs) = ap (λ ys. g (f x) ∷ ys) (map_map f g xs)

-- the first scopes of a plan, whatever the cells and the rules
pub scopes_listed : {C : Type 0} (c : Cells C) (nodes : List NodeView) (p : List RuleView) (plan : PlanView)
    → scopes_of (first_tables c nodes p plan) ≡ map (family_test nodes) (ruled_nodes nodes plan) ++ map (parents_test nodes) (option_to_list plan.utility)
scopes_listed c nodes p plan =
    map_append (λ t. t.holds) (map (node_table c nodes p) (ruled_nodes nodes plan)) (map (utility_table c nodes) (option_to_list plan.utility))
    ∙ ap (λ (ss : List (ℕ → Bool)). ss ++ map (λ t. t.holds) (map (utility_table c nodes) (option_to_list plan.utility))) (map_map (node_table c nodes p) (λ t. t.holds) (ruled_nodes nodes plan))
    ∙ ap (λ (ss : List (ℕ → Bool)). map (family_test nodes) (ruled_nodes nodes plan) ++ ss) (map_map (utility_table c nodes) (λ t. t.holds) (option_to_list plan.utility))

-- ---- sets of a plan
module _ (nodes : List NodeView) (plan : PlanView) (all : NodeSet) (all_are : (v : ℕ) → IsIn all v ↔ Contains (plan_nodes nodes plan) v) where
  pub all_known : (v : ℕ) → IsIn all v → v < length nodes
  all_known v m = ((in_numbers (in_plan nodes plan) (length nodes) v).0 ((all_are v).0 m)).0

  -- none of them is a utility
  pub all_ruled : IsPlan nodes plan → (v : ℕ) → IsIn all v → (node_at nodes v).kind ≢ Utility
  all_ruled asked v m kind = neither (has plan.keep v) _ _ (λ k. asked.kept v ((has_contains plan.keep v).0 k) kind) (ap (λ k. not (is_utility k)) kind) ((in_numbers (in_plan nodes plan) (length nodes) v).0 ((all_are v).0 m)).1
    where
      neither : (a b d : Bool) → (a ≡ true → ⊥) → b ≡ false → (a || (b && d)) ≡ true → ⊥
      neither true b d n e f = n refl
      neither false true d n e f = absurd (cc)
      neither false false d n e f = absurd (cc)

  pub all_plain : IsPlan nodes plan → (u : ℕ) → plan.utility ≡ Some u → IsIn all u → ⊥
  all_plain asked u some m = all_ruled asked u m (asked.utility u some)

  pub in_waiting : (kept waiting : NodeSet) → ((v : ℕ) → IsIn kept v ↔ Contains plan.keep v) → ((v : ℕ) → IsIn waiting v ↔ (IsIn all v × (IsIn kept v → ⊥)))
      → (v : ℕ) → IsIn waiting v ↔ Contains (eliminated_nodes nodes plan) v
  in_waiting kept waiting kept_are less v =
      let inside = in_filter (λ x. not (has plan.keep x)) (plan_nodes nodes plan) v in (
        (λ m. let a = (less v).0 m in inside.1 ((all_are v).0 a.0, true_not _ (λ e. a.1 ((kept_are v).1 ((has_contains plan.keep v).0 e))))),
        (λ m. let a = inside.0 m in (less v).1 ((all_are v).1 a.0, λ k. not_true _ a.1 ((has_contains plan.keep v).1 ((kept_are v).0 k)))),
      )

  pub ruled_listed : (ruled : NodeSet) → ((v : ℕ) → IsIn ruled v ↔ (IsIn all v × (plan.without ≡ Some v → ⊥))) → IsListOf ruled (ruled_nodes nodes plan)
  ruled_listed ruled less = record {
    inside = each_contained (IsIn ruled) (ruled_nodes nodes plan) (λ v s.
        let a = (inside v).0 (some_contains v (ruled_nodes nodes plan) s) in
        (less v).1 ((all_are v).1 a.0, λ e. not_true _ a.1 (one_has v plan.without e)));
    all = λ v m.
        let a = (less v).0 m in
        contains_some v (ruled_nodes nodes plan) ((inside v).1 ((all_are v).0 a.0, true_not _ (λ e. a.1 (has_one v plan.without e))));
    rising = rising_filter (λ v. not (has (option_to_list plan.without) v)) (plan_nodes nodes plan) (rising_filter (in_plan nodes plan) (numbers_of nodes) (rising_range 0 (length nodes)));
  }
    where
      inside : (v : ℕ) → Contains (ruled_nodes nodes plan) v ↔ (Contains (plan_nodes nodes plan) v × (not (has (option_to_list plan.without) v) ≡ true))
      inside v = in_filter (λ x. not (has (option_to_list plan.without) x)) (plan_nodes nodes plan) v

      one_has : (v : ℕ) (o : Option ℕ) → o ≡ Some v → has (option_to_list o) v ≡ true
      one_has v o e = (has_contains (option_to_list o) v).1 (subst (λ (x : Option ℕ). Contains (option_to_list x) v) (sym e) (contains_from_among (v ∷ []) v (inl refl)))

      has_one : (v : ℕ) (o : Option ℕ) → has (option_to_list o) v ≡ true → o ≡ Some v
      has_one v None e = absurd (cc)
      has_one v (Some d) e = among d (among_from_contains (d ∷ []) v ((has_contains (d ∷ []) v).0 e))
        where
          among : (d : ℕ) → Rattle.finite_sums.specs.Members.Among v (d ∷ []) → ◌≡◌ {A = Option ℕ} (Some d) (Some v)
          among d (inl f) = ap Some (sym f)
          among d (inr f) = absurd f

-- ---- the last table
pub kept_counted : (nodes : List NodeView) (states : List ℕ) (keep : List ℕ) (kept : NodeSet) → AreStateCounts nodes states → ((v : ℕ) → IsIn kept v ↔ Contains keep v) → counted_over states (holds kept) ≡ counted_cells nodes (has keep)
kept_counted nodes states keep kept are kept_are =
    cells_counted nodes states kept (has keep) are (λ u. same_test _ _ (λ m. (has_contains keep u).1 ((kept_are u).0 m)) (λ e. (kept_are u).1 ((has_contains keep u).0 e)))

pub last_cells : (so_far cells last whole kept : ℕ) → cells ≡ stopped so_far → last ≡ kept → whole ≡ stopped (cells + last) → whole ≡ stopped (so_far + kept)
last_cells so_far cells last whole kept is last_is whole_is =
    whole_is ∙ ap (λ n. stopped (n + last)) is ∙ stop_part COUNT_END so_far last ∙ ap (λ n. stopped (so_far + n)) last_is

pub last_work : (so_far work last live whole kept tables product : ℕ) → work ≡ stopped so_far → last ≡ kept → live ≡ tables → product ≡ stopped (last * live) → whole ≡ stopped (work + product) → whole ≡ stopped (so_far + kept * tables)
last_work so_far work last live whole kept tables product is last_is live_is product_is whole_is =
    whole_is
    ∙ ap (λ n. stopped (n + product)) is
    ∙ stop_part COUNT_END so_far product
    ∙ ap (λ n. stopped (so_far + n)) (product_is ∙ ap (λ n. stopped (n * live)) last_is ∙ ap (λ n. stopped (kept * n)) live_is)
    ∙ stop_later COUNT_END so_far (kept * tables)

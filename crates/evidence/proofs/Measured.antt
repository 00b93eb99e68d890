-- The sizes of all plans, counted one after the other, and the room that they tell.
use Rattle.std.proofs.Common.{◌≡◌, ◌∙◌, ℕ, suc, ◌+◌, ◌≤◌, min, max, Bool, false, cond, filter, map, List, [], ◌∷◌, ◌++◌, Contains, refl, sym, ap, subst, inl, inr, arith, Some, None}
use Rattle.std.specs.Prelude.{sum_by}
use Rattle.std.specs.List.{range_with_len}
use Rattle.std.proofs.lemmas.List.{append-nil, append_assoc}
use Rattle.std.proofs.lemmas.List.Elements.{filter-append}
use Rattle.std.proofs.lemmas.List.FromFn.{map-range_with_len_more}
use Rattle.std.proofs.lemmas.List.Sums.{sum_by-append}
use Rattle.finite_sums.specs.Members.{Among}
use Rattle.finite_sums.proofs.Members.{filter_has}
use Rattle.maid_model.specs.declared.limits.TheConstants.{COUNT_END}
use Rattle.maid_model.specs.declared.diagrams.Kind.{Kind}
use Rattle.maid_model.specs.declared.diagrams.Kind.TheVariants.{Chance, Decision, Utility}
use Rattle.maid_model.specs.Bounds.{stopped}
use Rattle.maid_model.specs.Nodes.{IsDecision, node_at, numbers_of, is_utility}
use Rattle.maid_model.specs.Placing.{IsRelianceOrder}
use Rattle.maid_model.specs.Relevance.{ReliesOn}
use Rattle.maid_model.specs.Views.{NodeView, DiagramView}
use Rattle.maid_laws.proofs.OneAnswer.{order_one}
use Rattle.maid_laws.proofs.Rearranged.{number}
use Rattle.ring_sums.proofs.Each.{zip_append}
use Rattle.ring_sums.proofs.Same.{map_append}
use Rattle.plan_sums.specs.Plans.{PlanView}
use Rattle.size_precheck.specs.declared.sizes.Size.{Size}
use Rattle.size_precheck.specs.Laws.{OneSize}
use Rattle.size_precheck.specs.Sizes.{HasSize, IsSizeOfAll, greatest, utility_list}
use Rattle.rule_solver.specs.Faults.{KeepsPlanLimits}
use Rattle.rule_solver.specs.Rooms.{HasCellsAtMost}
use Rattle.evidence.specs.Measures.{AddsPlan, AddsUtility}
use Rattle.evidence.specs.Sizes.{HasRoomGiven, IsSmallEnoughGiven, further_plans, plan_given, plans_given}

-- ---- one plan more
greatest_append : (xs ys : List ℕ) → greatest (xs ++ ys) ≡ max (greatest xs) (greatest ys)
greatest_append [] ys = omega arith
greatest_append (x ∷ xs) ys = let a = greatest_append xs ys in ap (λ n. max x n) a ∙ max_assoc x (greatest xs) (greatest ys)
  where
    max_assoc : (a b c : ℕ) → max a (max b c) ≡ max (max a b) c
    max_assoc a b c = omega arith

pub size_push : (nodes : List NodeView) (plans : List PlanView) (plan : PlanView) (before after : Size) → IsSizeOfAll nodes plans before → AddsPlan nodes plan before after → IsSizeOfAll nodes (plans ++ plan ∷ []) after
size_push nodes plans plan before after all adds = record {
  sizes = all.sizes ++ adds.size ∷ [];
  each = zip_append (HasSize nodes) plans (plan ∷ []) all.sizes (adds.size ∷ []) all.each (adds.has_size, tt);
  cells =
      adds.cells
      ∙ (λ i. max (all.cells i) adds.size.cells)
      ∙ alone (greatest (map (λ (s : Size). s.cells) all.sizes)) adds.size.cells
      ∙ sym (ap greatest (map_append (λ (s : Size). s.cells) all.sizes (adds.size ∷ [])) ∙ greatest_append (map (λ (s : Size). s.cells) all.sizes) (adds.size.cells ∷ []));
  work =
      adds.work
      ∙ ap (λ n. stopped (n + adds.size.work)) all.work
      ∙ stop_part COUNT_END (sum_by (λ (s : Size). s.work) all.sizes) adds.size.work
      ∙ ap (λ n. stopped n) (ap (λ n. sum_by (λ (s : Size). s.work) all.sizes + n) (from_nought adds.size.work) ∙ sym (sum_by-append (λ (s : Size). s.work) all.sizes (adds.size ∷ [])));
}
  where
    alone : (a b : ℕ) → max a b ≡ max a (max b 0)
    alone a b = omega arith

    from_nought : (n : ℕ) → n ≡ 0 + n
    from_nought n = omega arith

    stop_part : (end a b : ℕ) → min (min a end + b) end ≡ min (a + b) end
    stop_part end a b = omega arith

pub size_few : (nodes : List NodeView) (plans : List PlanView) (size : Size) → IsSizeOfAll nodes plans size → size.work ≤ COUNT_END
size_few nodes plans size all = few COUNT_END _ _ all.work
  where
    few : (end a s : ℕ) → a ≡ min s end → a ≤ end
    few end a s e = omega (arith, e)

-- a node more leaves the work within its end
pub work_few : (nodes : List NodeView) (x v : ℕ) (before after : Size) → AddsUtility nodes x v before after → before.work ≤ COUNT_END → after.work ≤ COUNT_END
work_few nodes x v before after adds few = go (node_at nodes v).kind refl
  where
    stop_few : (end a b : ℕ) → b ≡ min a end → b ≤ end
    stop_few end a b e = omega (arith, e)

    kept : (k : Kind) → (node_at nodes v).kind ≡ k → (k ≡ Utility → ⊥) → after.work ≤ COUNT_END
    kept k e never = subst (λ (s : Size). s.work ≤ COUNT_END) (sym (adds.other (λ h. never (sym e ∙ h)))) few

    go : (k : Kind) → (node_at nodes v).kind ≡ k → after.work ≤ COUNT_END
    go Chance e = kept Chance e (λ h. cc)
    go Decision e = kept Decision e (λ h. cc)
    go Utility e = stop_few COUNT_END _ _ (adds.utility e).work

-- ---- the plans with each utility, behind others
module _ (nodes : List NodeView) (plans : List PlanView) (x : ℕ) where
  abbrev utility_test : ℕ → Bool
  utility_test v = is_utility (node_at nodes v).kind

  -- those with the utilities before n
  abbrev utilities_to : ℕ → List PlanView
  utilities_to n = map (λ u. plan_given x (Some u)) (filter utility_test (range_with_len 0 n))

  abbrev plans_to : ℕ → List PlanView
  plans_to n = plans ++ utilities_to n

  utilities_more : (n : ℕ) → utilities_to (n + 1) ≡ utilities_to n ++ map (λ u. plan_given x (Some u)) (filter utility_test (n ∷ []))
  utilities_more n =
      ap (λ vs. map (λ u. plan_given x (Some u)) (filter utility_test vs)) (range_more n)
      ∙ ap (map (λ u. plan_given x (Some u))) (filter-append utility_test (range_with_len 0 n) (n ∷ []))
      ∙ map_append (λ u. plan_given x (Some u)) (filter utility_test (range_with_len 0 n)) (filter utility_test (n ∷ []))
    where
      same : (vs : List ℕ) → map (λ (v : ℕ). v) vs ≡ vs
      same [] = refl
      same (v ∷ vs) = ap (λ l. v ∷ l) (same vs)

      range_more : (n : ℕ) → range_with_len 0 (n + 1) ≡ range_with_len 0 n ++ n ∷ []
      range_more n = sym (same (range_with_len 0 (n + 1))) ∙ map-range_with_len_more (λ (v : ℕ). v) 0 n n (omega arith) ∙ ap (λ l. l ++ n ∷ []) (same (range_with_len 0 n))

  -- the size after the nodes before n
  abbrev pub Counted : ℕ → Size → Type 0
  Counted n size = IsSizeOfAll nodes (plans_to n) size

  pub counted_first : (size : Size) → IsSizeOfAll nodes plans size → Counted 0 size
  counted_first size is = subst (λ l. IsSizeOfAll nodes l size) (sym (append-nil plans)) is

  pub counted_next : (n : ℕ) (before after : Size) → Counted n before → AddsUtility nodes x n before after → Counted (n + 1) after
  counted_next n before after c adds = go (node_at nodes n).kind refl
    where
      plans_are : (k : Kind) → (node_at nodes n).kind ≡ k → plans_to (n + 1) ≡ plans ++ (utilities_to n ++ map (λ u. plan_given x (Some u)) (cond (is_utility k) (n ∷ []) []))
      plans_are k e = ap (λ l. plans ++ l) (utilities_more n ∙ ap (λ b. utilities_to n ++ map (λ u. plan_given x (Some u)) (cond b (n ∷ []) [])) (ap is_utility e))

      kept : (k : Kind) → (node_at nodes n).kind ≡ k → is_utility k ≡ false → (k ≡ Utility → ⊥) → Counted (n + 1) after
      kept k e f never =
          let same = adds.other (λ h. never (sym e ∙ h)) in
          subst (Counted (n + 1)) (sym same) (subst (λ l. IsSizeOfAll nodes l before)
          (sym (plans_are k e ∙ ap (λ b. plans ++ (utilities_to n ++ map (λ u. plan_given x (Some u)) (cond b (n ∷ []) []))) f ∙ ap (λ l. plans ++ l) (append-nil (utilities_to n)))) c)

      go : (k : Kind) → (node_at nodes n).kind ≡ k → Counted (n + 1) after
      go Chance e = kept Chance e refl (λ h. cc)
      go Decision e = kept Decision e refl (λ h. cc)
      go Utility e = subst (λ l. IsSizeOfAll nodes l after) (append_assoc plans (utilities_to n) (plan_given x (Some n) ∷ []) ∙ sym (plans_are Utility e)) (size_push nodes (plans_to n) (plan_given x (Some n)) before after c (adds.utility e))

-- ---- the limits
-- a diagram has one order of solving and its plans one size, so plans that keep the limits are
-- small enough
pub small_given : (d : DiagramView) (order : List ℕ) (x : ℕ) (size : Size) → OneSize → IsRelianceOrder d.nodes order → IsSizeOfAll d.nodes (plans_given d.nodes order x) size → KeepsPlanLimits size → IsSmallEnoughGiven d x
small_given d order x size one is sized keeps other given =
    let orders : given.order ≡ order = order_one (IsDecision d.nodes) (ReliesOn d.nodes) given.order order given.is_order is in
    let same : size ≡ other = one d.nodes (plans_given d.nodes order x) size other sized (subst (λ o. IsSizeOfAll d.nodes (plans_given d.nodes o x) other) orders given.is_size) in
    subst KeepsPlanLimits same keeps

-- ---- room
-- the further plans have room where each of them has
pub room_given : (nodes : List NodeView) (x cells : ℕ) → ((plan : PlanView) → Contains (further_plans nodes x) plan → HasCellsAtMost nodes plan cells) → HasRoomGiven nodes x cells
room_given nodes x cells fits = record {
  alone = fits (plan_given x None) (0, omega arith, refl);
  utilities = λ u l k. fits (plan_given x (Some u)) (of_utility (utility_list nodes) u (filter_has (λ v. is_utility (node_at nodes v).kind) u (numbers_of nodes) (number nodes u l) (ap is_utility k)));
}
  where
    listed : (us : List ℕ) (u : ℕ) → Among u us → Contains (map (λ v. plan_given x (Some v)) us) (plan_given x (Some u))
    listed [] u m = absurd m
    listed (v ∷ us) u (inl e) = (0, omega arith, ap (λ w. plan_given x (Some w)) (sym e))
    listed (v ∷ us) u (inr m) = let c = listed us u m in (suc c.0, omega (arith, c.1), c.2)

    of_utility : (us : List ℕ) (u : ℕ) → Among u us → Contains (plan_given x None ∷ map (λ v. plan_given x (Some v)) us) (plan_given x (Some u))
    of_utility us u m = let c = listed us u m in (suc c.0, omega (arith, c.1), c.2)

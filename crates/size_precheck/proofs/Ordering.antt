-- An order of the nodes of a set, one more at a time, and the steps of several plans.
use Rattle.std.proofs.Common.{◌≡◌, ◌≢◌, ◌∙◌, ◌⊎◌, ◌↔◌, inl, inr, ℕ, zero, suc, ◌+◌, ◌<◌, Contains, List, [], ◌∷◌, ◌++◌, length, take, get_or, refl, sym, ap, subst, arith}
use Rattle.std.specs.List.{AllZip}
use Rattle.std.proofs.lemmas.List.{take_more}
use Rattle.std.proofs.lemmas.List.Elements.{Contains-append_cases, Contains-append_left, Contains-append_right}
use Rattle.maid_model.specs.Graph.{AllDifferent}
use Rattle.maid_model.specs.Views.{NodeView}
use Rattle.node_sets.specs.declared.sets.NodeSet.{NodeSet}
use Rattle.node_sets.specs.Sets.{IsIn}
use Rattle.plan_sums.specs.Plans.{PlanView}
use Rattle.size_precheck.specs.Decisions.{HaveNodesBelow, ListsOnce}
use Rattle.size_precheck.specs.Sizes.{IsMember, IsPlanned, SizedPlan}
use Rattle.size_precheck.proofs.Starting.{kept_known, step_known}

-- ---- members
one_of : {X : Type 0} (x v : X) → Contains (x ∷ []) v → v ≡ x
one_of x v (zero, l, e) = sym e
one_of x v (suc k, l, e) = absurd (omega arith)

itself : {X : Type 0} (x : X) → Contains (x ∷ []) x
itself x = (0, omega arith, refl)

pub none_in : {X : Type 0} (x : X) → Contains [] x → ⊥
none_in x (k, l, e) = absurd (omega arith)

-- a number that the list lacks may be put behind it
different_push : (list : List ℕ) (v : ℕ) → AllDifferent list → (Contains list v → ⊥) → AllDifferent (list ++ v ∷ [])
different_push [] v h new = (none_in v, tt)
different_push (x ∷ xs) v h new = (
  λ c. elim (Contains-append_cases xs (v ∷ []) x c) as (λ _. ⊥) [
    | inl i ↦ h.0 i
    | inr o ↦ new (subst (λ y. Contains (x ∷ xs) y) (one_of v x o) (0, omega arith, refl))
  ],
  different_push xs v h.1 (λ c. new (Contains-append_right (x ∷ []) xs v c)),
)

-- ---- the order
-- of the nodes that wait it lists those that are not among the rest, each once
pub record IsOrderTo (waiting rest : NodeSet) (order : List ℕ) : Type 0 where
  pub once : AllDifferent order
  pub all : (v : ℕ) → IsIn waiting v ↔ (Contains order v ⊎ IsIn rest v)
  pub apart : (v : ℕ) → Contains order v → IsIn rest v → ⊥

pub order_none : (waiting : NodeSet) → IsOrderTo waiting waiting []
order_none waiting = record {
  once = tt;
  all = λ v. (inr, λ h. elim h as (λ _. IsIn waiting v) [ inl c ↦ absurd (none_in v c) | inr m ↦ m ]);
  apart = λ v c m. none_in v c;
}

module _ (waiting rest : NodeSet) (order : List ℕ) (so : IsOrderTo waiting rest order) where
  -- one of the rest is put behind the others
  pub order_more : (less : NodeSet) (v : ℕ) → IsIn rest v → ((x : ℕ) → IsIn less x ↔ (IsIn rest x × (x ≡ v → ⊥))) → IsOrderTo waiting less (order ++ v ∷ [])
  order_more less v here left = record {
    once = different_push order v so.once (λ c. so.apart v c here);
    all = λ x. (
      (λ m. elim ((so.all x).0 m) as (λ _. Contains (order ++ v ∷ []) x ⊎ IsIn less x) [ inl c ↦ inl (Contains-append_left order (v ∷ []) x c) | inr r ↦ still x r (same_or_not x v) ]),
      (λ h. elim h as (λ _. IsIn waiting x) [ inl c ↦ listed x (Contains-append_cases order (v ∷ []) x c) | inr l ↦ (so.all x).1 (inr ((left x).0 l).0) ]),
    );
    apart = λ x c l. elim (Contains-append_cases order (v ∷ []) x c) as (λ _. ⊥) [ inl o ↦ so.apart x o ((left x).0 l).0 | inr n ↦ ((left x).0 l).1 (one_of v x n) ];
  }
    where
      same_or_not : (x y : ℕ) → (x ≡ y) ⊎ (x ≢ y)
      same_or_not x y = grind arith

      still : (x : ℕ) → IsIn rest x → (x ≡ v) ⊎ (x ≢ v) → Contains (order ++ v ∷ []) x ⊎ IsIn less x
      still x r (inl e) = inl (Contains-append_right order (v ∷ []) x (subst (λ y. Contains (v ∷ []) y) (sym e) (itself v)))
      still x r (inr n) = inr ((left x).1 (r, n))

      listed : (x : ℕ) → Contains order x ⊎ Contains (v ∷ []) x → IsIn waiting x
      listed x (inl c) = (so.all x).1 (inl c)
      listed x (inr n) = (so.all x).1 (inr (subst (IsIn rest) (sym (one_of v x n)) here))

  -- and where there is no rest, it lists all
  pub order_done : ((v : ℕ) → IsIn rest v → ⊥) → ListsOnce (IsIn waiting) order
  order_done none = record {
    once = so.once;
    all = λ v. (
      (λ c. (so.all v).1 (inl c)),
      (λ m. elim ((so.all v).0 m) as (λ _. Contains order v) [ inl c ↦ c | inr r ↦ absurd (none v r) ]),
    );
  }

-- what lists the one lists also what is the same
pub lists_alike : (P Q : ℕ → Type 0) (order : List ℕ) → ((v : ℕ) → P v ↔ Q v) → ListsOnce P order → ListsOnce Q order
lists_alike P Q order same h = record {
  once = h.once;
  all = λ v. ((λ c. (same v).0 ((h.all v).0 c)), (λ q. (h.all v).1 ((same v).1 q)));
}

-- ---- plans
-- the nodes of plans that were made are nodes of the diagram
pub nodes_below : (nodes : List NodeView) (asked : List PlanView) (plans : List SizedPlan) → AllZip (IsPlanned nodes) asked plans → HaveNodesBelow (length nodes) plans
nodes_below nodes [] [] z v (plan, c, m) = absurd (none_in plan c)
nodes_below nodes [] (p ∷ ps) z v h = absurd z
nodes_below nodes (a ∷ rest) [] z v h = absurd z
nodes_below nodes (a ∷ rest) (p ∷ ps) z v (plan, (zero, l, e), m) = elim (subst (λ (q : SizedPlan). IsMember q v) (sym e) m) as (λ _. v < length nodes) [
  | inl k ↦ kept_known nodes a z.0.asked.is_plan v (subst (λ (q : PlanView). Contains q.keep v) z.0.made.plan k)
  | inr s ↦ step_known nodes a v ((z.0.made.order.all v).0 s)
]
nodes_below nodes (a ∷ rest) (p ∷ ps) z v (plan, (suc k, l, e), m) = nodes_below nodes rest ps z.1 v (plan, (k, omega (arith, l), e), m)

-- v is a node that is so of one of the plans
abbrev IsOfOne : (SizedPlan → ℕ → Type 0) → List SizedPlan → ℕ → Type 0
IsOfOne IsOf plans v = (plan : SizedPlan) × Contains plans plan × IsOf plan v

-- the nodes that are so of one plan more
pub gathers_more : (IsOf : SizedPlan → ℕ → Type 0) (plans : List SizedPlan) (i : ℕ) (plan : SizedPlan) (nodes more : NodeSet) → i < length plans → plan ≡ get_or plans i plan
    → ((v : ℕ) → IsIn nodes v ↔ IsOfOne IsOf (take i plans) v) → ((v : ℕ) → IsIn more v ↔ (IsIn nodes v ⊎ IsOf plan v)) → (v : ℕ) → IsIn more v ↔ IsOfOne IsOf (take (i + 1) plans) v
gathers_more IsOf plans i plan nodes more inside at so adds v = (
  (λ m. elim ((adds v).0 m) as (λ _. IsOfOne IsOf (take (i + 1) plans) v) [
    | inl o ↦ let s = (so v).0 o in (s.0, subst (λ l. Contains l s.0) (sym split) (Contains-append_left (take i plans) (plan ∷ []) s.0 s.1), s.2)
    | inr n ↦ (plan, subst (λ l. Contains l plan) (sym split) (Contains-append_right (take i plans) (plan ∷ []) plan (itself plan)), n)
  ]),
  (λ s. (adds v).1 (go s (Contains-append_cases (take i plans) (plan ∷ []) s.0 (subst (λ l. Contains l s.0) split s.1)))),
)
  where
    split : take (i + 1) plans ≡ take i plans ++ plan ∷ []
    split = take_more plans i plan inside ∙ ap (λ p. take i plans ++ p ∷ []) (sym at)

    go : (s : IsOfOne IsOf (take (i + 1) plans) v) → Contains (take i plans) s.0 ⊎ Contains (plan ∷ []) s.0 → IsIn nodes v ⊎ IsOf plan v
    go s (inl f) = inl ((so v).1 (s.0, f, s.2))
    go s (inr l) = inr (subst (λ (p : SizedPlan). IsOf p v) (one_of plan s.0 l) s.2)

-- The plans of a run, counted one after the other.
use Rattle.std.proofs.Common.{Result, Ok, Err, OnOk, ◌≡◌, ◌≢◌, ◌∙◌, ◌↔◌, ℕ, zero, suc, ◌+◌, ◌<◌, ◌≤◌, ◌^◌, Bool, true, false, cond, ◌&&◌, filter, map, List, [], ◌∷◌, ◌++◌, length, take, get_or, max, refl, sym, ap, subst, inl, inr, arith, None}
use Rattle.std.specs.Prelude.{Contains, sum_by, flat_map}
use Rattle.std.specs.List.{range_with_len}
use Rattle.std.proofs.lemmas.List.{take_more}
use Rattle.std.proofs.lemmas.List.Concat.{flat_map-append}
use Rattle.std.proofs.lemmas.List.Sums.{sum_by-append}
use Rattle.maid_model.specs.declared.limits.TheConstants.{COUNT_END}
use Rattle.maid_model.specs.declared.diagrams.Kind.{Kind}
use Rattle.maid_model.specs.declared.diagrams.Kind.TheVariants.{Chance, Decision, Utility}
use Rattle.maid_model.specs.Graph.{Arc, Here, Descends, IsGraph, descends}
use Rattle.maid_model.specs.Laws.{TestsDescent}
use Rattle.maid_model.specs.Nodes.{IsDecision, agent_of, node_at, owners_of, parents_of, is_utility, is_utility_of}
use Rattle.maid_model.specs.Relevance.{IsGoal}
use Rattle.maid_model.specs.Views.{NodeView}
use Rattle.finite_sums.proofs.Members.{among_from_contains, any_is, contains_from_among}
use Rattle.plan_sums.specs.Plans.{PlanView, row_plan, gain_plan, worth_plan}
use Rattle.ring_sums.proofs.Same.{map_append}
use Rattle.ring_sums.proofs.Each.{zip_append}
use Rattle.size_precheck.specs.declared.sizes.Size.{Size}
use Rattle.maid_model.specs.Bounds.{stopped}
use Rattle.size_precheck.specs.Runs.{Includes}
use Rattle.size_precheck.specs.Sizes.{CanBePlanned, SizedPlan, IsMade, HasSize, IsSizeOfAll, greatest}
use Rattle.size_precheck.proofs.Counting.{stop_part, stopped_few}
use Rattle.size_precheck.proofs.Somewhere.{and_left, and_right, and_both}

-- ---- counting
greatest_append : (xs ys : List ℕ) → greatest (xs ++ ys) ≡ max (greatest xs) (greatest ys)
greatest_append [] ys = omega arith
greatest_append (x ∷ xs) ys = let a = greatest_append xs ys in ap (λ n. max x n) a ∙ max_assoc x (greatest xs) (greatest ys)
  where
    max_assoc : (a b c : ℕ) → max a (max b c) ≡ max (max a b) c
    max_assoc a b c = omega arith

pub has_size : (nodes : List NodeView) (asked : PlanView) (made : SizedPlan) → IsMade nodes asked made → HasSize nodes asked made.size
has_size nodes asked made h = (made.steps, record { plan = refl; greedy = h.greedy; order = h.order; cells = h.cells; work = h.work })

pub include_none : (nodes : List NodeView) (size : Size) → size.work ≤ 10 ^ 18 → Includes nodes [] size size
include_none nodes size few = record { sizes = []; each = tt; cells = omega arith; work = omega arith }

pub include_one : (nodes : List NodeView) (plan : PlanView) (before size after : Size) → HasSize nodes plan size → after ≡ record { cells = max before.cells size.cells; work = stopped (before.work + size.work) } → Includes nodes (plan ∷ []) before after
include_one nodes plan before size after h is = record {
  sizes = size ∷ [];
  each = (h, tt);
  cells = ap (λ (s : Size). s.cells) is ∙ no_greater before.cells size.cells;
  work = ap (λ (s : Size). s.work) is ∙ ap (λ n. stopped (before.work + n)) (from_nought size.work);
}
  where
    no_greater : (a b : ℕ) → max a b ≡ max a (max b 0)
    no_greater a b = omega arith

    from_nought : (n : ℕ) → n ≡ 0 + n
    from_nought n = omega arith

pub include_then : (nodes : List NodeView) (xs ys : List PlanView) (a b c : Size) → Includes nodes xs a b → Includes nodes ys b c → Includes nodes (xs ++ ys) a c
include_then nodes xs ys a b c h k = record {
  sizes = h.sizes ++ k.sizes;
  each = zip_append (HasSize nodes) xs ys h.sizes k.sizes h.each k.each;
  cells =
      k.cells
      ∙ ap (λ n. max n (greatest (map (λ s. s.cells) k.sizes))) h.cells
      ∙ max_later a.cells (greatest (map (λ s. s.cells) h.sizes)) (greatest (map (λ s. s.cells) k.sizes))
      ∙ ap (λ n. max a.cells n) (sym (ap greatest (map_append (λ (s : Size). s.cells) h.sizes k.sizes) ∙ greatest_append (map (λ s. s.cells) h.sizes) (map (λ s. s.cells) k.sizes)));
  work =
      let first = sum_by (λ s. s.work) h.sizes in
      let then = sum_by (λ s. s.work) k.sizes in
      k.work
      ∙ ap (λ n. stopped (n + then)) h.work
      ∙ stop_part COUNT_END (a.work + first) then
      ∙ ap (λ n. stopped n) (add_later a.work first then ∙ ap (λ n. a.work + n) (sym (sum_by-append (λ s. s.work) h.sizes k.sizes)));
}
  where
    max_later : (x y z : ℕ) → max (max x y) z ≡ max x (max y z)
    max_later x y z = omega arith

    add_later : (x y z : ℕ) → (x + y) + z ≡ x + (y + z)
    add_later x y z = omega arith

pub includes_few : (nodes : List NodeView) (plans : List PlanView) (before after : Size) → Includes nodes plans before after → after.work ≤ 10 ^ 18
includes_few nodes plans before after h = subst (λ (n : ℕ). n ≤ 10 ^ 18) (sym h.work) (stopped_few _)

-- a run counted from nothing
pub size_of_all : (nodes : List NodeView) (plans : List PlanView) (after : Size) → Includes nodes plans (record { cells = 0; work = 0 }) after → IsSizeOfAll nodes plans after
size_of_all nodes plans after h = record {
  sizes = h.sizes;
  each = h.each;
  cells = h.cells ∙ none_greater (greatest (map (λ s. s.cells) h.sizes));
  work = h.work ∙ ap (λ n. stopped n) (none_more (sum_by (λ s. s.work) h.sizes));
}
  where
    none_greater : (n : ℕ) → max 0 n ≡ n
    none_greater n = omega arith

    none_more : (n : ℕ) → 0 + n ≡ n
    none_more n = omega arith

-- ---- one number more of a filter
pub passed_more : (p : ℕ → Bool) (n : ℕ) → filter p (range_with_len 0 (n + 1)) ≡ filter p (range_with_len 0 n) ++ filter p (n ∷ [])
passed_more p n = ap (filter p) (range_more 0 n ∙ ap (λ (x : ℕ). range_with_len 0 n ++ x ∷ []) (omega arith)) ∙ filter_append (range_with_len 0 n) (n ∷ [])
  where
    range_more : (k n : ℕ) → range_with_len k (n + 1) ≡ range_with_len k n ++ (k + n) ∷ []
    range_more k n = go k n (n + 1) (omega arith)
      where
        go : (k n m : ℕ) → m ≡ suc n → range_with_len k m ≡ range_with_len k n ++ (k + n) ∷ []
        go k zero m e = ap (λ x. range_with_len k x) e ∙ ap (λ (x : ℕ). x ∷ []) (omega arith)
        go k (suc n) m e = ap (λ x. range_with_len k x) e ∙ ap (λ (xs : List ℕ). k ∷ xs) (go (k + 1) n (suc n) refl ∙ ap (λ (x : ℕ). range_with_len (k + 1) n ++ x ∷ []) (omega arith))

    filter_append : (xs ys : List ℕ) → filter p (xs ++ ys) ≡ filter p xs ++ filter p ys
    filter_append [] ys = refl
    filter_append (x ∷ xs) ys = pick (p x) (filter_append xs ys)
      where
        pick : (b : Bool) → filter p (xs ++ ys) ≡ filter p xs ++ filter p ys → cond b (x ∷ filter p (xs ++ ys)) (filter p (xs ++ ys)) ≡ cond b (x ∷ filter p xs) (filter p xs) ++ filter p ys
        pick true e = ap (λ (zs : List ℕ). x ∷ zs) e
        pick false e = e

pub filter_more : {Y : Type 0} (p : ℕ → Bool) (f : ℕ → Y) (n : ℕ) → map f (filter p (range_with_len 0 (n + 1))) ≡ map f (filter p (range_with_len 0 n)) ++ map f (filter p (n ∷ []))
filter_more p f n = ap (λ (xs : List ℕ). map f xs) (passed_more p n) ∙ map_append f (filter p (range_with_len 0 n)) (filter p (n ∷ []))

-- ---- the plans may be asked for
pub row_planned : (nodes : List NodeView) (d : ℕ) → IsGraph nodes → CanBePlanned nodes (row_plan nodes d)
row_planned nodes d graph = record {
  is_plan = record {
    different = graph.parents_differ d;
    kept = λ v m. graph.no_utility_parent v d m;
    without = λ x e. absurd (cc);
    utility = λ u e. absurd (cc);
  };
  known = λ u e. absurd (cc);
  decision = λ x e. absurd (cc);
  leads = λ x e. absurd (cc);
}

pub worth_planned : (nodes : List NodeView) (u : ℕ) → u < length nodes → (node_at nodes u).kind ≡ Utility → CanBePlanned nodes (worth_plan u)
worth_planned nodes u within kind = record {
  is_plan = record {
    different = tt;
    kept = λ v m. absurd (none v m);
    without = λ x e. absurd (cc);
    utility = λ x e. let f : u ≡ x = cc in subst (λ y. (node_at nodes y).kind ≡ Utility) f kind;
  };
  known = λ x e. let f : u ≡ x = cc in subst (λ y. y < length nodes) f within;
  decision = λ x e. absurd (cc);
  leads = λ x e. absurd (cc);
}
  where
    none : (v : ℕ) → Contains [] v → ⊥
    none v m = let l = m.1 in absurd (omega arith)

pub gain_planned : (nodes : List NodeView) (d u : ℕ) → IsGraph nodes → IsDecision nodes d → IsGoal nodes d u → CanBePlanned nodes (gain_plan nodes d u)
gain_planned nodes d u graph decision goal = record {
  is_plan = record {
    different = ((λ m. graph.acyclic d (d, m, Here)), graph.parents_differ d);
    kept = λ v m. elim (among_from_contains (d ∷ parents_of nodes d) v m) as (λ _. (node_at nodes v).kind ≢ Utility) [
      | inl e ↦ λ k. plain_decision (subst (λ x. (node_at nodes x).kind ≡ Utility) e k)
      | inr k ↦ graph.no_utility_parent v d (contains_from_among (parents_of nodes d) v k)
    ];
    without = λ x e. let f : d ≡ x = cc in subst (λ y. Contains (d ∷ parents_of nodes d) y) f (contains_from_among (d ∷ parents_of nodes d) d (inl refl));
    utility = λ x e. let f : u ≡ x = cc in subst (λ y. (node_at nodes y).kind ≡ Utility) f goal.kind;
  };
  known = λ x e. let f : u ≡ x = cc in subst (λ y. y < length nodes) f goal.within;
  decision = λ x e. let f : d ≡ x = cc in subst (IsDecision nodes) f decision;
  leads = λ x e. let f : d ≡ x = cc in (u, inl refl, subst (λ y. Descends (Arc nodes) y u) f goal.below);
}
  where
    plain_decision : (node_at nodes d).kind ≡ Utility → ⊥
    plain_decision k = let e = decision.kind in absurd (cc)

-- ---- goals as tests
pub goal_tested : (nodes : List NodeView) (d u : ℕ) → TestsDescent → u < length nodes → (IsGoal nodes d u) ↔ ((descends nodes d u && is_utility_of nodes (agent_of nodes d) u) ≡ true)
goal_tested nodes d u tested within = (
  (λ g. and_both _ _ ((tested nodes d u).1 g.below) (and_both _ _ (is_kind u g.kind) ((any_is (agent_of nodes d) (owners_of nodes u)).1 g.owner))),
  (λ e. record {
    within = within;
    kind = kind_is (node_at nodes u).kind (and_left _ _ (and_right _ _ e));
    owner = (any_is (agent_of nodes d) (owners_of nodes u)).0 (and_right _ _ (and_right _ _ e));
    below = (tested nodes d u).0 (and_left _ _ e);
  }),
)
  where
    kind_is : (k : Kind) → is_utility k ≡ true → k ≡ Utility
    kind_is Chance e = absurd (cc)
    kind_is Decision e = absurd (cc)
    kind_is Utility e = refl

    is_kind : (u : ℕ) → (node_at nodes u).kind ≡ Utility → is_utility (node_at nodes u).kind ≡ true
    is_kind u e = ap is_utility e

-- ---- where the test is passed, and where it is not

pub include_row : (nodes : List NodeView) (f : ℕ → PlanView) (order : List ℕ) (i d : ℕ) (a b c : Size) → i < length order → d ≡ get_or order i 0 → Includes nodes (map f (take i order)) a b → Includes nodes (f d ∷ []) b c
    → Includes nodes (map f (take (i + 1) order)) a c
include_row nodes f order i d a b c within is h k =
    subst (λ (xs : List PlanView). Includes nodes xs a c)
    (sym (ap (λ (xs : List ℕ). map f xs) (take_more order i 0 within) ∙ map_append f (take i order) (get_or order i 0 ∷ []) ∙ ap (λ x. map f (take i order) ++ f x ∷ []) (sym is)))
    (include_then nodes _ _ a b c h k)

pub include_list : (nodes : List NodeView) (f : ℕ → List PlanView) (order : List ℕ) (i d : ℕ) (a b c : Size) → i < length order → d ≡ get_or order i 0 → Includes nodes (flat_map f (take i order)) a b → Includes nodes (f d) b c
    → Includes nodes (flat_map f (take (i + 1) order)) a c
include_list nodes f order i d a b c within is h k =
    subst (λ (xs : List PlanView). Includes nodes xs a c)
    (sym (ap (λ (xs : List ℕ). flat_map f xs) (take_more order i 0 within) ∙ flat_map-append f (take i order) (get_or order i 0 ∷ []) ∙ ap (λ x. flat_map f (take i order) ++ (f x ++ [])) (sym is)))
    (include_then nodes _ _ a b c h (include_then nodes (f d) [] b c c k (include_none nodes c (includes_few nodes (f d) b c k))))

-- a plan that keeps these nodes alone
abbrev pub keeps : List ℕ → PlanView
keeps list = record { keep = list; without = None; utility = None }

-- what holds anyhow holds where there is a value
pub on_ok : {T E P : Type 0} (r : Result T E) → P → OnOk r P
on_ok (Ok x) p = p
on_ok (Err e) p = tt

-- one plan more that was made
pub include_made : (nodes : List NodeView) (asked : PlanView) (made : SizedPlan) (before size after : Size) → IsMade nodes asked made → size ≡ made.size → after ≡ record { cells = max before.cells size.cells; work = stopped (before.work + size.work) }
    → Includes nodes (asked ∷ []) before after
include_made nodes asked made before size after h e is = include_one nodes asked before size after (subst (λ (s : Size). HasSize nodes asked s) (sym e) (has_size nodes asked made h)) is

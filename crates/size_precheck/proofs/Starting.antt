-- The nodes of a plan, its first tables, and what is known before the first step.
use Rattle.std.proofs.Common.{◌≡◌, ◌≢◌, ◌∙◌, ◌⊎◌, ◌↔◌, ℕ, zero, suc, ◌+◌, ◌<◌, ◌≤◌, Bool, true, false, not, filter, List, [], ◌∷◌, ◌++◌, length, get_or, refl, sym, ap, subst, inl, inr, arith, Option, Some, None}
use Rattle.std.specs.Prelude.{Contains, slice_index_or, replicate, set}
use Rattle.std.specs.List.{range_with_len}
use Rattle.std.proofs.lemmas.Bool.{cases_lt, cases_eq}
use Rattle.std.proofs.lemmas.List.{get_or_past, get_or-set_same, get_or-set_other}
use Rattle.finite_sums.proofs.Counts.{true_or_false}
use Rattle.finite_sums.proofs.Lists.{among_filter}
use Rattle.finite_sums.proofs.Members.{among_from_contains, contains_from_among, range_within, range_has, filter_has}
use Rattle.maid_model.specs.declared.diagrams.Kind.TheVariants.{Utility}
use Rattle.maid_model.specs.Graph.{Arc, IsPath, Here, Along, Descends, IsGraph}
use Rattle.maid_model.specs.Nodes.{no_node, node_at, states_of}
use Rattle.maid_model.specs.Views.{NodeView}
use Rattle.node_sets.specs.Sets.{holds, IsIn}
use Rattle.node_sets.specs.declared.sets.NodeSet.{NodeSet}
use Rattle.plan_sums.specs.Laws.{TestsPlanNodes}
use Rattle.plan_sums.specs.Plans.{PlanView, has, in_plan, plan_nodes, eliminated_nodes}
use Rattle.plan_sums.specs.Sizes.{IsPlan}
use Rattle.size_precheck.specs.declared.joints.Counted.{Counted}
use Rattle.size_precheck.specs.declared.joints.Known.{Known}
use Rattle.size_precheck.specs.declared.joints.Table.{Table}
use Rattle.size_precheck.specs.Joints.{counted_in, joint_in, AllStayCounted, ArePutIn, AreStateCounts, IsCounted, IsCountedIn, Tells, TellsOneMore}
use Rattle.size_precheck.proofs.Live.{first_put, first_same}

-- ---- counts of states
pub states_told : (nodes : List NodeView) (states : List ℕ) (end : ℕ) → length nodes ≤ 256 → ((u : ℕ) → u < end → slice_index_or states u 1 ≡ states_of nodes u) → ((u : ℕ) → end ≤ u → slice_index_or states u 1 ≡ 1)
    → (count : ℕ) → count ≡ length nodes → count ≤ end → AreStateCounts nodes states
states_told nodes states end few done rest count is past = record {
  few = few;
  each = λ u. elim (cases_lt u end) as (λ _. slice_index_or states u 1 ≡ states_of nodes u) [
    | inl l ↦ done u l
    | inr g ↦ rest u g ∙ sym (ap (λ (n : NodeView). n.states) (get_or_past nodes u no_node (omega arith)))
  ];
}

ones : (n u : ℕ) → ◌≡◌ {A = ℕ} (get_or (replicate n 1) u 1) 1
ones zero u = refl
ones (suc n) zero = refl
ones (suc n) (suc u) = ones n u

pub all_ones : (states : List ℕ) → states ≡ replicate 256 1 → (u : ℕ) → slice_index_or states u 1 ≡ 1
all_ones states is u = ap (λ (xs : List ℕ). get_or xs u 1) is ∙ ones 256 u

long : (n : ℕ) → length (replicate {A = ℕ} n 1) ≡ n
long zero = refl
long (suc n) = ap suc (long n)

pub ones_long : (states : List ℕ) → states ≡ replicate 256 1 → length states ≡ 256
ones_long states is = ap (λ (xs : List ℕ). length xs) is ∙ long 256

-- one node more
pub state_more : (nodes : List NodeView) (states : List ℕ) (v count : ℕ) → v < length states → count ≡ states_of nodes v
    → ((u : ℕ) → u < v → slice_index_or states u 1 ≡ states_of nodes u) → (u : ℕ) → u < v + 1 → slice_index_or (set states v count) u 1 ≡ states_of nodes u
state_more nodes states v count within is done u l = elim (cases_eq u v) as (λ _. get_or (set states v count) u 1 ≡ states_of nodes u) [
  | inl e ↦ subst (λ x. get_or (set states v count) x 1 ≡ states_of nodes x) (sym e) (get_or-set_same states v count 1 within ∙ is)
  | inr n ↦ get_or-set_other states v u count 1 n ∙ done u (omega arith)
]

pub rest_less : (states : List ℕ) (v count : ℕ) → ((u : ℕ) → v ≤ u → slice_index_or states u 1 ≡ 1) → (u : ℕ) → v + 1 ≤ u → slice_index_or (set states v count) u 1 ≡ 1
rest_less states v count rest u l = let n : u ≢ v = omega arith in get_or-set_other states v u count 1 n ∙ rest u (omega arith)

-- ---- a first table
pub first_right : (table : Table) (waiting at none : NodeSet) (known known' : Known) → ((x : ℕ) → IsIn none x → ⊥) → ((x : ℕ) → IsIn at x ↔ (IsIn table.scope x × IsIn waiting x))
    → ArePutIn at table none none known known' → ((y : ℕ) → IsIn waiting y → (IsIn at y → ⊥) → counted_in known' y ≡ counted_in known y) → TellsOneMore waiting table known known'
first_right table waiting at none known known' empty at_is put same live y m tells = elim (true_or_false (holds at y)) as (λ _. Tells (live ++ table ∷ []) y (joint_in known' y)) [
  | inl e ↦ first_put live table y none none (joint_in known y) (joint_in known' y) empty empty ((at_is y).0 e).0 (put y e) tells
  | inr e ↦ subst (λ (h : Counted). Tells (live ++ table ∷ []) y h.joint) (sym (same y m (lacks e))) (first_same live table y (joint_in known y) (λ s. lacks e ((at_is y).1 (s, m))) tells)
]
  where
    lacks : holds at y ≡ false → IsIn at y → ⊥
    lacks e m = let f : true ≡ false = sym m ∙ e in absurd (cc)

-- a count is right again where the table was put, and still right elsewhere
pub counted_right : (states : List ℕ) (waiting at : NodeSet) (known known' : Known) → AllStayCounted states at known known'
    → ((y : ℕ) → IsIn waiting y → (IsIn at y → ⊥) → counted_in known' y ≡ counted_in known y) → AllStayCounted states waiting known known'
counted_right states waiting at known known' new same y m counted = elim (true_or_false (holds at y)) as (λ _. IsCountedIn states known' y) [
  | inl e ↦ new y e counted
  | inr e ↦ subst (λ (h : Counted). IsCounted states h.joint h.cells) (sym (same y m (lacks e))) counted
]
  where
    lacks : holds at y ≡ false → IsIn at y → ⊥
    lacks e m = let f : true ≡ false = sym m ∙ e in absurd (cc)

-- ---- the nodes of a plan
-- a kept node is one of the list
pub kept_known : (nodes : List NodeView) (plan : PlanView) → IsPlan nodes plan → (v : ℕ) → Contains plan.keep v → v < length nodes
kept_known nodes plan h v m = elim (cases_lt v (length nodes)) as (λ _. v < length nodes) [
  | inl l ↦ l
  | inr g ↦ absurd (h.kept v m (ap (λ (n : NodeView). n.kind) (get_or_past nodes v no_node g)))
]

-- members of a filter over numbers
pub in_numbers : (p : ℕ → Bool) (n v : ℕ) → Contains (filter p (range_with_len 0 n)) v ↔ ((v < n) × (p v ≡ true))
in_numbers p n v = (
  (λ m. let a = among_filter p v (range_with_len 0 n) (among_from_contains (filter p (range_with_len 0 n)) v m) in (let l = (range_within 0 n v a.0).1 in omega arith, a.1)),
  (λ h. contains_from_among (filter p (range_with_len 0 n)) v (filter_has p v (range_with_len 0 n) (range_has 0 n v (omega arith) (let l = h.0 in omega arith)) h.1)),
)

-- an eliminated node is one of the list
pub step_known : (nodes : List NodeView) (plan : PlanView) (v : ℕ) → Contains (eliminated_nodes nodes plan) v → v < length nodes
step_known nodes plan v m =
    let left = among_filter (λ u. not (has plan.keep u)) v (plan_nodes nodes plan) (among_from_contains (eliminated_nodes nodes plan) v m) in
    ((in_numbers (in_plan nodes plan) (length nodes) v).0 (contains_from_among (plan_nodes nodes plan) v left.0)).0

module _ (nodes : List NodeView) (keep : List ℕ) (utility : Option ℕ) (graph : IsGraph nodes)
    (asked : IsPlan nodes (record { keep = keep; without = None; utility = utility })) (tested : TestsPlanNodes) where
  abbrev plan : PlanView
  plan = record { keep = keep; without = None; utility = utility }

  abbrev Ends : ℕ → Type 0
  Ends t = Contains keep t ⊎ (utility ≡ Some t)

  -- from a node that is no utility a path leads to an end exactly where it is in the plan
  led_in : (v to : ℕ) → Ends to → IsPath (Arc nodes) v to → (node_at nodes v).kind ≢ Utility → Contains (plan_nodes nodes plan) v
  led_in v to end Here plain = elim end as (λ _. Contains (plan_nodes nodes plan) v) [
    | inl k ↦ (in_numbers (in_plan nodes plan) (length nodes) v).1 (kept_known nodes plan asked v k, (tested nodes plan v).1 (inl k))
    | inr e ↦ absurd (plain (asked.utility v e))
  ]
  led_in v to end (Along {v = next} a p) plain =
      (in_numbers (in_plan nodes plan) (length nodes) v).1 (graph.parents_known v next a, (tested nodes plan v).1 (inr (plain, (to, end, (next, a, p)))))

  led_from : (v : ℕ) → Contains (plan_nodes nodes plan) v → ((to : ℕ) × Ends to × IsPath (Arc nodes) v to) × ((node_at nodes v).kind ≢ Utility)
  led_from v m = elim ((tested nodes plan v).0 ((in_numbers (in_plan nodes plan) (length nodes) v).0 m).1) as (λ _. ((to : ℕ) × Ends to × IsPath (Arc nodes) v to) × ((node_at nodes v).kind ≢ Utility)) [
    | inl k ↦ ((v, inl k, Here), asked.kept v k)
    | inr h ↦ ((h.1.0, h.1.1, along v h.1.0 h.1.2), h.0)
  ]
    where
      along : (u t : ℕ) → Descends (Arc nodes) u t → IsPath (Arc nodes) u t
      along u t (next, a, p) = Along a p

  -- a node with an arc is no utility
  plain_or_end : (v to : ℕ) → IsPath (Arc nodes) v to → ((node_at nodes v).kind ≢ Utility) ⊎ (v ≡ to)
  plain_or_end v to Here = inr refl
  plain_or_end v to (Along {v = next} a p) = inl (graph.no_utility_parent v next a)

  pub ends_without : utility ≡ None → (ends result : NodeSet) → ((v : ℕ) → IsIn ends v ↔ Contains keep v) → ((v : ℕ) → IsIn result v ↔ ((to : ℕ) × IsIn ends to × IsPath (Arc nodes) v to))
      → (v : ℕ) → IsIn result v ↔ Contains (plan_nodes nodes plan) v
  ends_without none ends result ends_are leads v = (
    (λ m.
        let h = (leads v).0 m in
        let k = (ends_are h.0).0 h.1 in
        led_in v h.0 (inl k) h.2 (elim (plain_or_end v h.0 h.2) as (λ _. (node_at nodes v).kind ≢ Utility) [ inl p ↦ p | inr e ↦ asked.kept v (subst (λ x. Contains keep x) (sym e) k) ])),
    (λ m.
        let h = led_from v m in
        (leads v).1 (h.0.0, (ends_are h.0.0).1 (elim h.0.1 as (λ _. Contains keep h.0.0) [ inl k ↦ k | inr e ↦ absurd (let f = sym none ∙ e in cc) ]), h.0.2)),
  )

  pub ends_with : (u : ℕ) → utility ≡ Some u → (kept ends all result : NodeSet) → ((v : ℕ) → IsIn kept v ↔ Contains keep v) → ((v : ℕ) → IsIn ends v ↔ (IsIn kept v ⊎ (v ≡ u)))
      → ((v : ℕ) → IsIn all v ↔ ((to : ℕ) × IsIn ends to × IsPath (Arc nodes) v to)) → ((v : ℕ) → IsIn result v ↔ (IsIn all v × (v ≡ u → ⊥)))
      → (v : ℕ) → IsIn result v ↔ Contains (plan_nodes nodes plan) v
  ends_with u some kept ends all result kept_are ends_are leads less v = (
    (λ m.
        let a = (less v).0 m in
        let h = (leads v).0 a.0 in
        led_in v h.0 (an_end h.0 h.1) h.2 (elim (plain_or_end v h.0 h.2) as (λ _. (node_at nodes v).kind ≢ Utility) [ inl p ↦ p | inr e ↦ plain_end v (subst (IsIn ends) (sym e) h.1) a.1 ])),
    (λ m.
        let h = led_from v m in
        (less v).1 ((leads v).1 (h.0.0, end_in h.0.0 h.0.1, h.0.2), λ e. h.1 (asked.utility v (some ∙ ap Some (sym e))))),
  )
    where
      an_end : (t : ℕ) → IsIn ends t → Ends t
      an_end t m = elim ((ends_are t).0 m) as (λ _. Ends t) [ inl k ↦ inl ((kept_are t).0 k) | inr e ↦ inr (some ∙ ap Some (sym e)) ]

      end_in : (t : ℕ) → Ends t → IsIn ends t
      end_in t e = (ends_are t).1 (elim e as (λ _. IsIn kept t ⊎ (t ≡ u)) [ inl k ↦ inl ((kept_are t).1 k) | inr f ↦ inr (let g = sym f ∙ some in cc) ])

      plain_end : (x : ℕ) → IsIn ends x → (x ≡ u → ⊥) → (node_at nodes x).kind ≢ Utility
      plain_end x m n = elim ((ends_are x).0 m) as (λ _. (node_at nodes x).kind ≢ Utility) [ inl k ↦ asked.kept x ((kept_are x).0 k) | inr e ↦ absurd (n e) ]

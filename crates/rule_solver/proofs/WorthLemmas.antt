-- The plan of a utility's worth: its nodes, and its numbers fit.
use Rattle.std.proofs.Common.{All, ◌≡◌, ◌≢◌, ◌∙◌, ◌↔◌, ◌&&◌, ℕ, zero, suc, ◌+◌, ◌*◌, ◌<◌, ◌≤◌, Bool, true, false, not, cond, filter, List, [], ◌∷◌, ◌++◌, Contains, map, length, get_or, arith, refl, sym, ap, subst, inl, inr}
use Rattle.std.specs.List.{list_any, AllZip, range_with_len}
use Rattle.cell_rings.specs.Rings.{most_size}
use Rattle.eliminate.specs.Results.{plan_total}
use Rattle.finite_sums.specs.Members.{Among}
use Rattle.finite_sums.proofs.Lists.{among_filter}
use Rattle.finite_sums.proofs.Members.{among_from_contains, any_is, contains_from_among, filter_has}
use Rattle.maid_model.specs.declared.diagrams.Kind.{Kind}
use Rattle.maid_model.specs.declared.diagrams.Kind.TheVariants.{Chance, Decision, Utility}
use Rattle.maid_model.specs.Diagrams.{IsDiagram}
use Rattle.maid_model.specs.Graph.{Arc, IsPath, Here, Along, Descends, IsGraph, descends}
use Rattle.maid_model.specs.Laws.{TestsDescent}
use Rattle.maid_model.specs.Nodes.{Owns, is_utility, is_utility_of, node_at, numbers_of, owners_of}
use Rattle.maid_model.specs.Profiles.{IsProfile}
use Rattle.maid_model.specs.Scopes.{KeepsScopedBounds, scope_for, utilities_for}
use Rattle.maid_model.specs.Views.{NodeView, DiagramView, RuleView}
use Rattle.maid_laws.proofs.Proportions.{kind_of_utility}
use Rattle.maid_laws.proofs.Rearranged.{number}
use Rattle.node_sets.specs.declared.sets.NodeSet.{NodeSet}
use Rattle.node_sets.specs.Sets.{holds, IsIn}
use Rattle.part_laws.specs.ScopeLaws.{HasUnitRules}
use Rattle.plan_sums.specs.Plans.{PlanView, in_plan, plan_nodes, worth_plan}
use Rattle.factor_core.specs.Slots.{nodes_in}
use Rattle.scope_sums.specs.Laws.{AgentsScopesFitPlans, MissingIsPositive}
use Rattle.scope_sums.specs.Missing.{missing_in}
use Rattle.size_precheck.specs.Laws.{OneGreedyOrder}
use Rattle.size_precheck.specs.Sizes.{IsPlanned, SizedPlan, ArePlansOfWorths, utility_list}
use Rattle.size_precheck.proofs.Measuring.{filter_more}
use Rattle.rule_solver.specs.Rooms.{HasRoomForWorths}
use Rattle.rule_solver.proofs.MadeRooms.{made_room, more_room}
use Rattle.rule_solver.proofs.PlanLemmas.{worth_fits}

-- ---- the nodes of the plan
-- nothing passes
filter_none : (q : ℕ → Bool) (xs : List ℕ) → ((v : ℕ) → q v ≡ true → ⊥) → filter q xs ≡ []
filter_none q [] h = refl
filter_none q (x ∷ xs) h = go (q x) (h x) (filter_none q xs h)
  where
    go : (b : Bool) {rest : List ℕ} → (b ≡ true → ⊥) → rest ≡ [] → cond b (x ∷ rest) rest ≡ []
    go true k e = absurd (k refl)
    go false k e = e

-- a table over no node is picked by no state
pub no_states : (nodes : List NodeView) (scope : NodeSet) (keep : List ℕ) → keep ≡ [] → ((v : ℕ) → IsIn scope v ↔ Contains keep v) → nodes_in nodes (holds scope) ≡ []
no_states nodes scope keep none h = filter_none (holds scope) (numbers_of nodes) (λ v t. among_from_contains [] v (subst (λ k. Contains k v) none ((h v).0 t)))

pub all_of_none : (R : ℕ → ℕ → Type 0) (vs : List ℕ) → vs ≡ [] → AllZip R vs []
all_of_none R vs e = subst (λ v. AllZip R v []) (sym e) tt

-- the ancestors of a utility are its plan's nodes: it is no node of a path of arcs to itself, and
-- no parent is a utility
module _ (nodes : List NodeView) (g : IsGraph nodes) (tested : TestsDescent) (u : ℕ) where
  test_of_plan : (v : ℕ) → Descends (Arc nodes) v u → in_plan nodes (worth_plan u) v ≡ true
  test_of_plan v d = both (is_utility (node_at nodes v).kind) (descends nodes v u) (plain (node_at nodes v).kind (g.no_utility_parent v d.0 d.1)) ((tested nodes v u).1 d)
    where
      plain : (k : Kind) → k ≢ Utility → is_utility k ≡ false
      plain Chance n = refl
      plain Decision n = refl
      plain Utility n = absurd (n refl)

      both : (a b : Bool) → a ≡ false → b ≡ true → (not a && list_any (λ t. t) (b ∷ [])) ≡ true
      both false true e f = refl
      both false false e f = f
      both true b e f = sym e

  plan_of_test : (v : ℕ) → in_plan nodes (worth_plan u) v ≡ true → Descends (Arc nodes) v u
  plan_of_test v t = (tested nodes v u).0 (last (is_utility (node_at nodes v).kind) (descends nodes v u) t)
    where
      last : (a b : Bool) → (not a && list_any (λ t. t) (b ∷ [])) ≡ true → b ≡ true
      last a true e = refl
      last true false e = e
      last false false e = e

  pub worth_nodes : (own ancestors planned : NodeSet) → ((v : ℕ) → IsIn own v ↔ (v ≡ u)) → ((v : ℕ) → IsIn ancestors v ↔ ((to : ℕ) × IsIn own to × IsPath (Arc nodes) v to)) → ((v : ℕ) → IsIn planned v ↔ (IsIn ancestors v × (v ≡ u → ⊥)))
      → (v : ℕ) → IsIn planned v ↔ Contains (plan_nodes nodes (worth_plan u)) v
  worth_nodes own ancestors planned o a p v = (
    (λ t. let r = (p v).0 t in let w = (a v).0 r.0 in listed (below (subst (λ x. IsPath (Arc nodes) v x) ((o w.0).0 w.1) w.2) r.1)),
    (λ c. let d = plan_of_test v (among_filter (in_plan nodes (worth_plan u)) v (numbers_of nodes) (among_from_contains (plan_nodes nodes (worth_plan u)) v c)).1 in
        (p v).1 ((a v).1 (u, (o u).1 refl, Along d.1 d.2), (λ e. g.acyclic u (subst (λ x. Descends (Arc nodes) x u) e d)))),
  )
    where
      below : {x : ℕ} → IsPath (Arc nodes) x u → (x ≡ u → ⊥) → Descends (Arc nodes) x u
      below Here n = absurd (n refl)
      below (Along {u} {v} arc path) n = (v, arc, path)

      listed : Descends (Arc nodes) v u → Contains (plan_nodes nodes (worth_plan u)) v
      listed d = contains_from_among (plan_nodes nodes (worth_plan u)) v (filter_has (in_plan nodes (worth_plan u)) v (numbers_of nodes) (number nodes v (g.parents_known v d.0 d.1)) (test_of_plan v d))

-- ---- its numbers fit
-- a utility that an agent owns is one of the agent's
pub owned_utility : (nodes : List NodeView) (agent u : ℕ) → (node_at nodes u).kind ≡ Utility → Owns nodes agent u → is_utility_of nodes agent u ≡ true
owned_utility nodes agent u k o = λ i. ap is_utility k i && (any_is agent (owners_of nodes u)).1 o i

pub utility_among : (nodes : List NodeView) (agent u : ℕ) → u < length nodes → is_utility_of nodes agent u ≡ true → Among u (utilities_for nodes agent)
utility_among nodes agent u l t = filter_has (is_utility_of nodes agent) u (numbers_of nodes) (number nodes u l) t

-- within the bound of its first owner's scope
pub worth_has_room : (d : DiagramView) (p : List RuleView) → IsDiagram d → IsProfile d.nodes p → HasUnitRules d.nodes p → KeepsScopedBounds d → AgentsScopesFitPlans → MissingIsPositive
    → (u : ℕ) → u < length d.nodes → (node_at d.nodes u).kind ≡ Utility → 2 * plan_total d.nodes p (worth_plan u) ≤ most_size
worth_has_room d p is profile unit bounds fit positive u l k =
    let agent : ℕ = (node_at d.nodes u).owner in
    let owner : Owns d.nodes agent u = contains_from_among (owners_of d.nodes u) agent (inl refl) in
    worth_fits d p agent u (missing_in d.nodes p (scope_for d.nodes agent) (worth_plan u))
    (positive d.nodes p (scope_for d.nodes agent) (worth_plan u) is.graph is.tables profile).0
    (utility_among d.nodes agent u l (owned_utility d.nodes agent u k owner))
    (bounds.agents agent (is.owners.agent u agent l (λ e. let f : Utility ≡ Chance = sym k ∙ e in cc) owner))
    (fit d.nodes p agent u is.graph is.tables profile unit l k owner).tables

-- ---- the plans of all worths, place by place
-- what stands behind some of a list stands behind one more of it
behind : {B C : Type 0} (R : C → B → Type 0) (f : ℕ → C) (a : ℕ) (x : C) (before all : List ℕ) (d : B)
    → ((ys : List B) → AllZip R (map f all) ys → (length before < length ys) × R x (get_or ys (length before) d))
    → (b : Bool) (ys : List B) → AllZip R (map f (cond b (a ∷ all) all)) ys
    → (length (cond b (a ∷ before) before) < length ys) × R x (get_or ys (length (cond b (a ∷ before) before)) d)
behind R f a x before all d rest false ys z = rest ys z
behind R f a x before all d rest true [] z = absurd z
behind R f a x before all d rest true (y ∷ ys) z = let r = rest ys z.1 in let l = r.0 in (omega (arith, l), r.1)

-- that of a number that passes stands behind those of the numbers before it that pass
passed_at : {B C : Type 0} (R : C → B → Type 0) (p : ℕ → Bool) (f : ℕ → C) (a k n v : ℕ) (ys : List B) (d : B) → k < n → a + k ≡ v → p v ≡ true → AllZip R (map f (filter p (range_with_len a n))) ys
    → (length (filter p (range_with_len a k)) < length ys) × R (f v) (get_or ys (length (filter p (range_with_len a k))) d)
passed_at R p f a k zero v ys d l e t z = absurd (omega (arith, l))
passed_at {B = B} {C = C} R p f a zero (suc n) v ys d l e t z =
    subst (λ (x : ℕ). (0 < length ys) × R (f x) (get_or ys 0 d)) same
    (first ys (subst (λ (b : Bool). AllZip R (map f (cond b (a ∷ rest) rest)) ys) (subst (λ x. p x ≡ true) (sym same) t) z))
  where
    rest : List ℕ
    rest = filter p (range_with_len (a + 1) n)

    same : a ≡ v
    same = omega (arith, e)

    first : (ys : List B) → AllZip R (map f (a ∷ rest)) ys → (0 < length ys) × R (f a) (get_or ys 0 d)
    first [] z = absurd z
    first (y ∷ ys) z = (omega arith, z.0)
passed_at R p f a (suc k) (suc n) v ys d l e t z =
    behind R f a (f v) (filter p (range_with_len (a + 1) k)) (filter p (range_with_len (a + 1) n)) d
    (λ zs w. passed_at R p f (a + 1) k n v zs d (omega (arith, l)) (omega (arith, e)) t w) (p a) ys z

-- so it is of a utility: the place of its plan is the count of utilities before it
pub worth_place : (nodes : List NodeView) (v : ℕ) (plans : List SizedPlan) (d : SizedPlan) → v < length nodes → (node_at nodes v).kind ≡ Utility → ArePlansOfWorths nodes plans
    → (length (filter (λ u. is_utility (node_at nodes u).kind) (range_with_len 0 v)) < length plans) × IsPlanned nodes (worth_plan v) (get_or plans (length (filter (λ u. is_utility (node_at nodes u).kind) (range_with_len 0 v))) d)
worth_place nodes v plans d l k z =
    passed_at (IsPlanned nodes) (λ u. is_utility (node_at nodes u).kind) (λ u. worth_plan u) 0 v (length nodes) v plans d l (omega arith) (ap is_utility k) z

-- where the kept plans have at most so many cells, each plan has
pub kept_worths : (nodes : List NodeView) (plans : List SizedPlan) → ArePlansOfWorths nodes plans → OneGreedyOrder → (cells : ℕ) → All (λ (plan : SizedPlan). plan.size.cells ≤ cells) plans → HasRoomForWorths nodes cells
kept_worths nodes plans kept one cells all u l k made is =
    let here = worth_place nodes u plans made l k kept in
    let plan : SizedPlan = get_or plans (length (filter (λ v. is_utility (node_at nodes v).kind) (range_with_len 0 u))) made in
    more_room nodes (worth_plan u) plan.size.cells cells (all _ made here.0) (made_room nodes (worth_plan u) plan one here.1.made) made is

-- and where each plan has at most so many, the kept ones have
pub worths_kept : (nodes : List NodeView) (plans : List SizedPlan) → ArePlansOfWorths nodes plans → (n : ℕ) → HasRoomForWorths nodes n → All (λ (plan : SizedPlan). plan.size.cells ≤ n) plans
worths_kept nodes plans kept n room = go (utility_list nodes) plans kept (λ u m. kind_of_utility (node_at nodes u).kind (among_filter (λ v. is_utility (node_at nodes v).kind) u (numbers_of nodes) m).1)
  where
    go : (us : List ℕ) (made : List SizedPlan) → AllZip (IsPlanned nodes) (map (λ u. worth_plan u) us) made → ((u : ℕ) → Among u us → (node_at nodes u).kind ≡ Utility) → All (λ (plan : SizedPlan). plan.size.cells ≤ n) made
    go [] [] z are k d h = absurd (omega (arith, h))
    go [] (y ∷ ys) z are k d h = absurd z
    go (u ∷ us) [] z are k d h = absurd z
    go (u ∷ us) (y ∷ ys) z are zero d h = room u (z.0.asked.known u refl) (are u (inl refl)) y z.0.made
    go (u ∷ us) (y ∷ ys) z are (suc k) d h = go us ys z.1 (λ v m. are v (inr m)) k d (omega (arith, h))

long_map : (f : ℕ → PlanView) (xs : List ℕ) → length (map f xs) ≡ length xs
long_map f [] = refl
long_map f (x ∷ xs) = let e = long_map f xs in omega arith

long_both : (xs ys : List PlanView) → length (xs ++ ys) ≡ length xs + length ys
long_both [] ys = omega arith
long_both (x ∷ xs) ys = let e = long_both xs ys in omega arith

-- the count goes on at a utility, and stays at another node
pub utilities_more : (nodes : List NodeView) (v : ℕ) (b : Bool) → is_utility (node_at nodes v).kind ≡ b
    → length (filter (λ u. is_utility (node_at nodes u).kind) (range_with_len 0 (v + 1))) ≡ length (filter (λ u. is_utility (node_at nodes u).kind) (range_with_len 0 v)) + length (cond b (v ∷ []) [])
utilities_more nodes v b e =
    let p : ℕ → Bool = (λ u. is_utility (node_at nodes u).kind) in
    let f : ℕ → PlanView = (λ u. worth_plan u) in
    sym (long_map f (filter p (range_with_len 0 (v + 1))))
    ∙ ap (λ (l : List PlanView). length l) (filter_more p f v)
    ∙ long_both (map f (filter p (range_with_len 0 v))) (map f (filter p (v ∷ [])))
    ∙ (λ i. long_map f (filter p (range_with_len 0 v)) i + long_map f (filter p (v ∷ [])) i)
    ∙ ap (λ (b : Bool). length (filter p (range_with_len 0 v)) + length (cond b (v ∷ []) [])) e

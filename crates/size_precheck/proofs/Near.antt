-- Plans of worths of nodes that differ from others in the parents of one node: where that node
-- leads not to the utility, they are those of the others.
use Rattle.std.proofs.Common.{◌≡◌, ◌≢◌, ◌∙◌, ℕ, zero, suc, ◌<◌, Bool, true, false, not, ◌&&◌, ◌||◌, cond, eqb, filter, map, List, [], ◌∷◌, ◌++◌, length, Option, Some, Result, Ok, Err, IfOk, get_or, refl, sym, ap, subst, arith}
use Rattle.std.specs.Prelude.{Contains}
use Rattle.std.specs.List.{AllZip, list_any}
use Rattle.std.proofs.lemmas.List.{get_or_default, length-map}
use Rattle.std.proofs.lemmas.Bool.{eqb-true}
use Rattle.maid_model.specs.Graph.{Arc, Here, Along, IsPath, leads_within, descends}
use Rattle.maid_model.specs.Laws.{TestsDescent}
use Rattle.maid_model.specs.Nodes.{node_at, numbers_of, parents_of, is_utility}
use Rattle.maid_model.specs.Views.{NodeView}
use Rattle.maid_model.proofs.Found.{eqb_yes}
use Rattle.node_sets.specs.Sets.{holds}
use Rattle.plan_sums.specs.Plans.{PlanView, mass_cells, has, in_plan, plan_nodes, eliminated_nodes, worth_plan}
use Rattle.size_precheck.specs.declared.planners.Family.{Family}
use Rattle.size_precheck.specs.declared.planners.Planner.{Planner}
use Rattle.size_precheck.specs.Families.{IsPlanner, family_at, no_family}
use Rattle.size_precheck.specs.Greedy.{first_scopes}
use Rattle.size_precheck.specs.Joints.{family_test, parents_test}
use Rattle.size_precheck.specs.Kept.{AreWorthsBeside, DifferAt, IsWorthBeside}
use Rattle.size_precheck.specs.Sizes.{SizedPlan, ArePlansOfWorths, IsPlanned, utility_list}
use Rattle.size_precheck.proofs.Agreeing.{made_alike, numbers_same}
use Rattle.size_precheck.proofs.Kept.{zip_at, zip_long}
use Rattle.size_precheck.proofs.Planning.{scopes_listed}

-- two functions that agree where a list's test passes
map_passed : {A : Type 0} (f g : ℕ → A) (p : ℕ → Bool) (xs : List ℕ) → ((v : ℕ) → p v ≡ true → f v ≡ g v) → map f (filter p xs) ≡ map g (filter p xs)
map_passed f g p [] h = refl
map_passed f g p (x ∷ xs) h = go (p x) refl (map_passed f g p xs h)
  where
    go : (b : Bool) → p x ≡ b → map f (filter p xs) ≡ map g (filter p xs) → map f (filter p (x ∷ xs)) ≡ map g (filter p (x ∷ xs))
    go true e rest = subst (λ (b : Bool). map f (cond b (x ∷ filter p xs) (filter p xs)) ≡ map g (cond b (x ∷ filter p xs) (filter p xs))) (sym e) (λ i. h x e i ∷ rest i)
    go false e rest = subst (λ (b : Bool). map f (cond b (x ∷ filter p xs) (filter p xs)) ≡ map g (cond b (x ∷ filter p xs) (filter p xs))) (sym e) rest

-- a plan of a worth leaves no rule out
all_ruled : (vs : List ℕ) → filter (λ v. not (has [] v)) vs ≡ vs
all_ruled [] = refl
all_ruled (v ∷ vs) = ap (λ (l : List ℕ). v ∷ l) (all_ruled vs)

neither : (a b : Bool) → (a || b) ≡ false → (a ≡ false) × (b ≡ false)
neither false false h = (refl, refl)
neither false true h = cc
neither true b h = cc

other_than : (v w : ℕ) → eqb v w ≡ false → v ≢ w
other_than v w e same = clash (sym e ∙ eqb_yes v w same)
  where
    clash : false ≡ true → ⊥
    clash e = cc

module _ (nodes others : List NodeView) (changed : ℕ) (differ : DifferAt nodes others changed) where
  -- ---- descent
  -- step by step: no parent is the node that differs, nor descends from it
  any_alike : (n u : ℕ) (xs : List ℕ) → ((x : ℕ) → eqb x changed ≡ false → leads_within others n changed x ≡ false → leads_within nodes n u x ≡ leads_within others n u x)
      → list_any (λ x. eqb x changed || leads_within others n changed x) xs ≡ false → list_any (λ x. eqb x u || leads_within nodes n u x) xs ≡ list_any (λ x. eqb x u || leads_within others n u x) xs
  any_alike n u [] alike h = refl
  any_alike n u (x ∷ xs) alike h =
      let h1 = neither (eqb x changed || leads_within others n changed x) (list_any (λ y. eqb y changed || leads_within others n changed y) xs) h in
      let h2 = neither (eqb x changed) (leads_within others n changed x) h1.0 in
      (λ i. (eqb x u || alike x h2.0 h2.1 i) || any_alike n u xs alike h1.1 i)

  leads_alike : (n u v : ℕ) → eqb v changed ≡ false → leads_within others n changed v ≡ false → leads_within nodes n u v ≡ leads_within others n u v
  leads_alike zero u v e h = refl
  leads_alike (suc n) u v e h =
      ap (λ xs. list_any (λ x. eqb x u || leads_within nodes n u x) xs) (sym (differ.parents v (other_than v changed e)))
      ∙ any_alike n u (parents_of others v) (λ x f l. leads_alike n u x f l) h

  -- ---- the plan of a worth to which the node that differs does not lead
  module _ (tested : TestsDescent) (t : ℕ) (far : IsPath (Arc others) changed t → ⊥) where
    not_it : eqb t changed ≡ false
    not_it = go (eqb t changed) refl
      where
        go : (b : Bool) → eqb t changed ≡ b → b ≡ false
        go false e = refl
        go true e = absurd (far (subst (λ x. IsPath (Arc others) x t) (eqb-true t changed e) Here))

    not_below : descends others changed t ≡ false
    not_below = go (descends others changed t) refl
      where
        go : (b : Bool) → descends others changed t ≡ b → b ≡ false
        go false e = refl
        go true e = let d = (tested others changed t).0 e in absurd (far (Along d.1 d.2))

    descends_alike : (u : ℕ) → descends nodes u t ≡ descends others u t
    descends_alike u = ap (λ n. leads_within nodes n u t) (sym differ.count) ∙ leads_alike (length others) u t not_it not_below

    in_alike : (v : ℕ) → in_plan nodes (worth_plan t) v ≡ in_plan others (worth_plan t) v
    in_alike v = λ i. not (is_utility (sym (differ.kind v) i)) && (descends_alike v i || false)

    nodes_alike : plan_nodes nodes (worth_plan t) ≡ plan_nodes others (worth_plan t)
    nodes_alike = λ i. filter (λ v. in_alike v i) (numbers_same nodes others differ.count differ.states i)

    eliminated_alike : eliminated_nodes nodes (worth_plan t) ≡ eliminated_nodes others (worth_plan t)
    eliminated_alike = λ i. filter (λ v. not (has [] v)) (nodes_alike i)

    -- the node that differs is none of the plan's
    not_in : (v : ℕ) → in_plan others (worth_plan t) v ≡ true → v ≢ changed
    not_in v e same = clash (sym (off (not (is_utility (node_at others v).kind)) (descends others v t) (ap (λ x. descends others x t) same ∙ not_below)) ∙ e)
      where
        off : (a b : Bool) → b ≡ false → (a && (b || false)) ≡ false
        off false false h = refl
        off true false h = refl
        off false true h = refl
        off true true h = h

        clash : false ≡ true → ⊥
        clash e = cc

    tests_alike : map (family_test nodes) (plan_nodes others (worth_plan t)) ≡ map (family_test others) (plan_nodes others (worth_plan t))
    tests_alike = map_passed (family_test nodes) (family_test others) (in_plan others (worth_plan t)) (numbers_of others) (λ v e i u. eqb v u || has (sym (differ.parents v (not_in v e)) i) u)

    own_alike : parents_test nodes t ≡ parents_test others t
    own_alike = λ i x. has (sym (differ.parents t (other_than t changed not_it)) i) x

    scopes_alike : first_scopes nodes (worth_plan t) ≡ first_scopes others (worth_plan t)
    scopes_alike =
        scopes_listed mass_cells nodes [] (worth_plan t)
        ∙ (λ i. map (family_test nodes) (all_ruled (nodes_alike i) i) ++ parents_test nodes t ∷ [])
        ∙ (λ i. tests_alike i ++ own_alike i ∷ [])
        ∙ (λ i. map (family_test others) (sym (all_ruled (plan_nodes others (worth_plan t))) i) ++ parents_test others t ∷ [])
        ∙ sym (scopes_listed mass_cells others [] (worth_plan t))

    pub planned_beside : (made : SizedPlan) → IsPlanned nodes (worth_plan t) made → IsPlanned others (worth_plan t) made
    planned_beside made h = record {
      asked = record {
        is_plan = record {
          different = h.asked.is_plan.different;
          kept = λ v m e. absurd (none v m);
          without = h.asked.is_plan.without;
          utility = λ u e. differ.kind u ∙ h.asked.is_plan.utility u e;
        };
        known = λ u e. subst (λ n. u < n) (sym differ.count) (h.asked.known u e);
        decision = λ d e. cc;
        leads = λ d e. cc;
      };
      made = made_alike nodes others differ.count differ.states (worth_plan t) eliminated_alike scopes_alike made h.made;
    }
      where
        none : (v : ℕ) → Contains [] v → ⊥
        none v (i, l, e) = omega (arith, l)

  -- the utilities are the same
  pub utilities_same : utility_list nodes ≡ utility_list others
  utilities_same = λ i. filter (λ u. is_utility (sym (differ.kind u) i)) (numbers_same nodes others differ.count differ.states i)

-- ---- what a planner tells of such a plan
-- the plan of a worth that is kept is that of the others, where the planner has no path from the
-- node that differs
pub kept_beside : (others : List NodeView) (planner : Planner) (changed : ℕ) (before : SizedPlan) (own : Family) (v : ℕ) → TestsDescent → IsPlanner others planner → IsWorthBeside others changed before → before.plan.utility ≡ Some v
    → own ≡ get_or planner.families.items v own → false ≡ holds own.above changed → IsPlanned others before.plan before
kept_beside others planner changed before own v tested knows (nodes, u, differ, planned) told here out =
    subst (λ plan. IsPlanned others plan before) (sym planned.made.plan) (planned_beside nodes others changed differ tested u far before planned)
  where
    clash : false ≡ true → ⊥
    clash e = cc

    same : v ≡ u
    same = some_same v u (sym told ∙ ap (λ (p : PlanView). p.utility) planned.made.plan)
      where
        some_same : (a b : ℕ) → ◌≡◌ {A = Option ℕ} (Some a) (Some b) → a ≡ b
        some_same a b e = cc

    within : v < length planner.families.items
    within = subst (λ n. v < n) (sym knows.all) (subst (λ x. x < length others) (sym same) (subst (λ n. u < n) (sym differ.count) (planned.asked.known u refl)))

    far : IsPath (Arc others) changed u → ⊥
    far path =
        let family = knows.families v within in
        let at : own ≡ family_at planner.families.items v = here ∙ get_or_default planner.families.items v own no_family within in
        clash (out ∙ subst (λ (f : Family). holds f.above changed ≡ true) (sym at) ((family.above changed).1 (subst (λ x. IsPath (Arc others) changed x) (sym same) path)))

-- the plans that are made follow what is asked for
plans_follow : (nodes : List NodeView) (asked : List PlanView) (made : List SizedPlan) → AllZip (IsPlanned nodes) asked made → map (λ (m : SizedPlan). m.plan) made ≡ asked
plans_follow nodes [] [] h = refl
plans_follow nodes [] (m ∷ ms) h = absurd h
plans_follow nodes (p ∷ ps) [] h = absurd h
plans_follow nodes (p ∷ ps) (m ∷ ms) h = λ i. h.0.made.plan i ∷ plans_follow nodes ps ms h.1 i

-- each of them is that of a worth
pub worth_at : (others : List NodeView) (changed : ℕ) (before : List SizedPlan) (k : ℕ) (plan : SizedPlan) → AreWorthsBeside others changed before → k < length before → plan ≡ get_or before k plan → IsWorthBeside others changed plan
worth_at others changed before k plan (nodes, differ, planned) l at =
    let asked = map (λ u. worth_plan u) (utility_list nodes) in
    let within : k < length (utility_list nodes) = subst (λ n. k < n) (zip_long (IsPlanned nodes) asked before planned ∙ length-map (utility_list nodes) (λ u. worth_plan u)) l in
    let here : IsPlanned nodes (get_or asked k (worth_plan 0)) (get_or before k plan) = zip_at (IsPlanned nodes) asked before k (worth_plan 0) plan planned l in
    (nodes, get_or (utility_list nodes) k 0, differ, subst (λ (p : SizedPlan). IsPlanned nodes (worth_plan (get_or (utility_list nodes) k 0)) p) (sym at) (subst (λ (p : PlanView). IsPlanned nodes p (get_or before k plan)) (map_at (utility_list nodes) k within) here))
  where
    map_at : (us : List ℕ) (k : ℕ) → k < length us → get_or (map (λ u. worth_plan u) us) k (worth_plan 0) ≡ worth_plan (get_or us k 0)
    map_at [] k h = refl
    map_at (u ∷ us) zero h = refl
    map_at (u ∷ us) (suc k) h = map_at us k (omega (arith, h))

-- plans that follow them are those of all worths
pub worths_beside : (others : List NodeView) (changed : ℕ) (before plans : List SizedPlan) → AreWorthsBeside others changed before → AllZip (IsPlanned others) (map (λ (m : SizedPlan). m.plan) before) plans → ArePlansOfWorths others plans
worths_beside others changed before plans (nodes, differ, planned) h =
    subst (λ asked. AllZip (IsPlanned others) asked plans) (plans_follow nodes (map (λ u. worth_plan u) (utility_list nodes)) before planned ∙ ap (λ us. map (λ u. worth_plan u) us) (utilities_same nodes others changed differ)) h

-- what holds of a value holds of a result that has no other
pub ok_alike : {T E : Type 0} (r : Result T E) (P : T → Type 0) (value : T) → P value → IfOk r (λ x. x ≡ value) → IfOk r P
ok_alike (Ok x) P value h e = subst P (sym e) h
ok_alike (Err x) P value h e = e

-- The kept plans of a decision's goals, place by place.
use Rattle.std.proofs.Common.{All, ◌≡◌, ◌∙◌, ◌⊎◌, ◌↔◌, inl, inr, ℕ, zero, suc, ◌<◌, ◌≤◌, Bool, true, false, not, ◌&&◌, ◌||◌, filter, Contains, List, [], ◌∷◌, map, length, get_or, slice_index, refl, sym, ap, subst, arith}
use Rattle.std.specs.List.{AllZip}
use Rattle.std.proofs.lemmas.List.{get_or_default}
use Rattle.std.proofs.lemmas.List.Elements.{filter_agree}
use Rattle.std.proofs.lemmas.Slice.Zip.{AllZip-long}
use Rattle.finite_sums.proofs.Counts.{true_or_false}
use Rattle.finite_sums.proofs.Lists.{among_filter}
use Rattle.finite_sums.proofs.Members.{among_from_contains, contains_from_among, filter_has, range_within}
use Rattle.maid_laws.proofs.Rearranged.{number}
use Rattle.maid_laws.proofs.Tied.{kind_within}
use Rattle.maid_model.specs.Graph.{IsGraph, descends}
use Rattle.maid_model.specs.Nodes.{IsDecision, agent_of, is_utility_of, numbers_of}
use Rattle.maid_model.specs.Scopes.{goals_of}
use Rattle.maid_model.specs.Views.{NodeView}
use Rattle.node_sets.specs.declared.sets.NodeSet.{NodeSet}
use Rattle.node_sets.specs.Sets.{IsIn}
use Rattle.plan_sums.specs.Plans.{PlanView, gain_plan, row_plan, has, in_plan, plan_nodes}
use Rattle.plan_sums.proofs.Filters.{has_member, has_yes}
use Rattle.size_precheck.specs.Laws.{OneGreedyOrder}
use Rattle.size_precheck.specs.Sizes.{ArePlansOfGoals, SizedPlan, IsPlanned, goal_list}
use Rattle.rule_solver.specs.Rooms.{HasCellsAtMost, HasRoomForDecision}
use Rattle.rule_solver.specs.Together.{goal_in, utility_of_plan}
use Rattle.rule_solver.proofs.MadeRooms.{made_room, more_room}
use Rattle.rule_solver.proofs.SettingLemmas.{goal_at, index_of_goal}

-- by place
pub zip_at : {A B : Type 0} (R : A → B → Type 0) (xs : List A) (ys : List B) (k : ℕ) (d : A) (e : B) → AllZip R xs ys → k < length ys → R (get_or xs k d) (get_or ys k e)
zip_at R [] [] k d e z h = absurd (omega arith)
zip_at R [] (y ∷ ys) k d e z h = absurd z
zip_at R (x ∷ xs) [] k d e z h = absurd z
zip_at R (x ∷ xs) (y ∷ ys) zero d e z h = z.0
zip_at R (x ∷ xs) (y ∷ ys) (suc k) d e z h = zip_at R xs ys k d e z.1 (omega arith)

map_at : (f : ℕ → PlanView) (xs : List ℕ) (k : ℕ) → k < length xs → get_or (map f xs) k (f 0) ≡ f (get_or xs k 0)
map_at f [] k h = absurd (omega arith)
map_at f (x ∷ xs) zero h = refl
map_at f (x ∷ xs) (suc k) h = map_at f xs k (omega arith)

map_long : (f : ℕ → PlanView) (xs : List ℕ) → length (map f xs) ≡ length xs
map_long f [] = refl
map_long f (x ∷ xs) = let e = map_long f xs in omega arith

module _ (nodes : List NodeView) (d : ℕ) where
  -- the goals whose plans are counted are those that are summed
  pub same_goals : goal_list nodes d ≡ goals_of nodes d
  same_goals = filter_agree (λ u. descends nodes d u && is_utility_of nodes (agent_of nodes d) u) (λ u. is_utility_of nodes (agent_of nodes d) u && descends nodes d u) (λ u. turned (descends nodes d u) (is_utility_of nodes (agent_of nodes d) u)) (numbers_of nodes)
    where
      turned : (a b : Bool) → (a && b) ≡ (b && a)
      turned true true = refl
      turned true false = refl
      turned false true = refl
      turned false false = refl

  -- and their plans tell them
  pub goals_in_plans : (plans : List SizedPlan) → AllZip (IsPlanned nodes) (map (λ u. gain_plan nodes d u) (goal_list nodes d)) plans → map goal_in plans ≡ goals_of nodes d
  goals_in_plans plans kept = go (goal_list nodes d) plans kept ∙ same_goals
    where
      go : (us : List ℕ) (made : List SizedPlan) → AllZip (IsPlanned nodes) (map (λ u. gain_plan nodes d u) us) made → map goal_in made ≡ us
      go [] [] z = refl
      go [] (y ∷ ys) z = absurd z
      go (u ∷ us) [] z = absurd z
      go (u ∷ us) (y ∷ ys) z = λ i. utility_of_plan (z.0.made.plan i).utility ∷ go us ys z.1 i

  module _ (plans : List SizedPlan) (kept : AllZip (IsPlanned nodes) (map (λ u. gain_plan nodes d u) (goal_list nodes d)) plans) where
    pub goal_plans_long : length plans ≡ length (goals_of nodes d)
    goal_plans_long = AllZip-long (IsPlanned nodes) (map (λ u. gain_plan nodes d u) (goal_list nodes d)) plans kept ∙ map_long (λ u. gain_plan nodes d u) (goal_list nodes d) ∙ ap (λ (l : List ℕ). length l) same_goals

    pub goal_plan_at : (k : ℕ) (plan : SizedPlan) → k < length (goals_of nodes d) → plan ≡ get_or plans k plan → IsPlanned nodes (gain_plan nodes d (slice_index (goals_of nodes d) k)) plan
    goal_plan_at k plan h at =
        let within : k < length plans = let e = goal_plans_long in omega arith in
        let inside : k < length (goal_list nodes d) = subst (λ (l : List ℕ). k < length l) (sym same_goals) h in
        let here : IsPlanned nodes (get_or (map (λ u. gain_plan nodes d u) (goal_list nodes d)) k (gain_plan nodes d 0)) (get_or plans k plan) = zip_at (IsPlanned nodes) (map (λ u. gain_plan nodes d u) (goal_list nodes d)) plans k (gain_plan nodes d 0) plan kept within in
        subst (λ (l : List ℕ). IsPlanned nodes (gain_plan nodes d (slice_index l k)) plan) same_goals
        (subst (λ x. IsPlanned nodes x plan) (map_at (λ u. gain_plan nodes d u) (goal_list nodes d) k inside) (subst (IsPlanned nodes (get_or (map (λ u. gain_plan nodes d u) (goal_list nodes d)) k (gain_plan nodes d 0))) (sym at) here))

-- ---- the nodes of a plan are those that it keeps and those that it eliminates
pub has_contains : (xs : List ℕ) (v : ℕ) → (has xs v ≡ true) ↔ Contains xs v
has_contains xs v = ((λ e. contains_from_among xs v (has_member v xs e)), (λ m. has_yes v xs (among_from_contains xs v m)))

in_filter : (p : ℕ → Bool) (xs : List ℕ) (v : ℕ) → Contains (filter p xs) v ↔ (Contains xs v × (p v ≡ true))
in_filter p xs v = (
  (λ m. let a = among_filter p v xs (among_from_contains (filter p xs) v m) in (contains_from_among xs v a.0, a.1)),
  (λ h. contains_from_among (filter p xs) v (filter_has p v xs (among_from_contains xs v h.0) h.1)),
)

module _ (nodes : List NodeView) (asked : PlanView) (made : SizedPlan) (planned : IsPlanned nodes asked made) where
  -- a kept node is one of the plan, and so is one that is eliminated
  kept_in : (v : ℕ) → Contains asked.keep v → Contains (plan_nodes nodes asked) v
  kept_in v m =
      let within : v < length nodes = kind_within nodes v (planned.asked.is_plan.kept v m) in
      (in_filter (in_plan nodes asked) (numbers_of nodes) v).1 (contains_from_among (numbers_of nodes) v (number nodes v within), either (has asked.keep v) _ ((has_contains asked.keep v).1 m))
    where
      either : (a b : Bool) → a ≡ true → (a || b) ≡ true
      either true b e = refl
      either false b e = absurd (cc)

  step_in : (v : ℕ) → Contains made.steps v → Contains (plan_nodes nodes asked) v
  step_in v m = ((in_filter (λ x. not (has asked.keep x)) (plan_nodes nodes asked) v).0 ((planned.made.order.all v).0 m)).0

  member_in : (v : ℕ) → (Contains asked.keep v ⊎ Contains made.steps v) → Contains (plan_nodes nodes asked) v
  member_in v (inl k) = kept_in v k
  member_in v (inr s) = step_in v s

  in_member : (v : ℕ) → Contains (plan_nodes nodes asked) v → Contains asked.keep v ⊎ Contains made.steps v
  in_member v m = elim (true_or_false (has asked.keep v)) as (λ _. Contains asked.keep v ⊎ Contains made.steps v) [
    | inl h ↦ inl ((has_contains asked.keep v).0 h)
    | inr h ↦ inr ((planned.made.order.all v).1 ((in_filter (λ x. not (has asked.keep x)) (plan_nodes nodes asked) v).1 (m, ap not h)))
  ]

  pub members_small : length nodes ≤ 256 → (v : ℕ) → (Contains made.plan.keep v ⊎ Contains made.steps v) → v < 256
  members_small few v m =
      let here : Contains asked.keep v ⊎ Contains made.steps v = subst (λ (x : PlanView). Contains x.keep v ⊎ Contains made.steps v) planned.made.plan m in
      let among = among_filter (in_plan nodes asked) v (numbers_of nodes) (among_from_contains (plan_nodes nodes asked) v (member_in v here)) in
      let within = (range_within 0 (length nodes) v among.0).1 in
      omega (arith, few, within)

  pub members_are : (set : NodeSet) → ((v : ℕ) → IsIn set v ↔ (Contains made.plan.keep v ⊎ Contains made.steps v)) → (v : ℕ) → IsIn set v ↔ Contains (plan_nodes nodes made.plan) v
  members_are set is v =
      let here : IsIn set v ↔ (Contains asked.keep v ⊎ Contains made.steps v) = subst (λ (x : PlanView). IsIn set v ↔ (Contains x.keep v ⊎ Contains made.steps v)) planned.made.plan (is v) in
      subst (λ (x : PlanView). IsIn set v ↔ Contains (plan_nodes nodes x) v) (sym planned.made.plan) ((λ m. member_in v (here.0 m)), (λ m. here.1 (in_member v m)))

  pub plan_members : (v : ℕ) → (Contains made.plan.keep v ⊎ Contains made.steps v) ↔ Contains (plan_nodes nodes made.plan) v
  plan_members v =
      subst (λ (x : PlanView). (Contains x.keep v ⊎ Contains made.steps v) ↔ Contains (plan_nodes nodes x) v) (sym planned.made.plan) (member_in v, in_member v)

-- ---- room for the plans of a decision
module _ (nodes : List NodeView) (graph : IsGraph nodes) (d : ℕ) (is : IsDecision nodes d) (rows : SizedPlan) (goals : List SizedPlan) (of_rows : IsPlanned nodes (row_plan nodes d) rows) (of_goals : ArePlansOfGoals nodes d goals) where
  -- where the kept plans have at most so many cells, each plan has
  pub kept_room : OneGreedyOrder → (cells : ℕ) → rows.size.cells ≤ cells → All (λ (plan : SizedPlan). plan.size.cells ≤ cells) goals → HasRoomForDecision nodes d cells
  kept_room one cells first all = record {
    rows = more_room nodes (row_plan nodes d) rows.size.cells cells first (made_room nodes (row_plan nodes d) rows one of_rows.made);
    goals = λ u goal.
        let place = index_of_goal nodes graph d is u goal in
        let plan : SizedPlan = get_or goals place.0 rows in
        let long = goal_plans_long nodes d goals of_goals in
        let within : place.0 < length goals = let l = place.1 in omega (arith, long, l) in
        let at : plan ≡ get_or goals place.0 plan = same_at goals place.0 rows plan within in
        let made = (goal_plan_at nodes d goals of_goals place.0 plan place.1 at).made in
        subst (λ x. HasCellsAtMost nodes (gain_plan nodes d x) cells) (get_or_default (goals_of nodes d) place.0 0 u place.1 ∙ place.2)
        (more_room nodes (gain_plan nodes d (slice_index (goals_of nodes d) place.0)) plan.size.cells cells (all place.0 rows within) (made_room nodes (gain_plan nodes d (slice_index (goals_of nodes d) place.0)) plan one made));
  }
    where
      same_at : (xs : List SizedPlan) (k : ℕ) (a b : SizedPlan) → k < length xs → get_or xs k a ≡ get_or xs k b
      same_at xs k a b h = get_or_default xs k a b h

  -- and where each plan has at most so many, the kept ones have
  pub room_kept : (n : ℕ) → HasRoomForDecision nodes d n → (rows.size.cells ≤ n) × All (λ (plan : SizedPlan). plan.size.cells ≤ n) goals
  room_kept n room = (
    room.rows rows of_rows.made,
    (λ k e h.
        let long = goal_plans_long nodes d goals of_goals in
        let inside : k < length (goals_of nodes d) = omega (arith, long, h) in
        let plan : SizedPlan = get_or goals k e in
        room.goals (slice_index (goals_of nodes d) k) (goal_at nodes graph d is k inside) plan (goal_plan_at nodes d goals of_goals k plan inside (get_or_default goals k e plan h)).made),
  )

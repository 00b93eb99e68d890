-- Plans that are counted together each have at most the cells of their size, and so a run has room
-- in them.
use Rattle.std.proofs.Common.{◌≡◌, ◌∙◌, ◌&&◌, ℕ, zero, suc, ◌≤◌, max, List, [], ◌∷◌, ◌++◌, Contains, map, sym, ap, subst, inl, inr, arith}
use Rattle.std.specs.Prelude.{flat_map}
use Rattle.std.specs.List.{AllZip}
use Rattle.std.proofs.lemmas.List.{get_or_default}
use Rattle.std.proofs.lemmas.List.Elements.{Contains-append_left, Contains-append_right}
use Rattle.finite_sums.specs.Members.{Among}
use Rattle.finite_sums.proofs.Members.{among_from_contains, any_is, filter_has}
use Rattle.maid_model.specs.Laws.{TestsDescent}
use Rattle.maid_model.specs.Nodes.{IsDecision, agent_of, node_at, numbers_of, owners_of, is_utility}
use Rattle.maid_model.specs.Placing.{IsRelianceOrder}
use Rattle.maid_model.specs.Relevance.{IsGoal, ReliesOn}
use Rattle.maid_model.specs.Views.{NodeView, DiagramView}
use Rattle.maid_laws.proofs.OneAnswer.{order_one}
use Rattle.maid_laws.proofs.Rearranged.{number}
use Rattle.plan_sums.specs.Plans.{PlanView, row_plan, gain_plan, worth_plan}
use Rattle.size_precheck.specs.declared.sizes.Size.{Size}
use Rattle.size_precheck.specs.Laws.{OneGreedyOrder, OneSize}
use Rattle.size_precheck.specs.Sizes.{HasSize, ListsDecisions, IsSizeOfAll, IsSizeOfRun, greatest, is_goal, goal_list, utility_list, run_plans}
use Rattle.rule_solver.specs.Faults.{IsSmallEnough, KeepsPlanLimits}
use Rattle.rule_solver.specs.Rooms.{HasCellsAtMost, HasRoomForRun}
use Rattle.rule_solver.proofs.MadeRooms.{made_room, more_room}
use Rattle.rule_solver.proofs.Orders.{order_differs, placed_decision}

-- ---- an order of solving
pub lists_decisions : (nodes : List NodeView) (order : List ℕ) → IsRelianceOrder nodes order → ListsDecisions nodes order
lists_decisions nodes order is = record {
  once = order_differs nodes order is;
  all = λ v. ((λ c. subst (IsDecision nodes) (get_or_default order c.0 0 v c.1 ∙ c.2) (placed_decision nodes order is c.0 c.1)), is.complete v);
}

-- a diagram has one order of solving and a run one size, so a run that keeps the limits is small
-- enough
pub small_enough : (d : DiagramView) (order : List ℕ) (size : Size) → OneSize → IsRelianceOrder d.nodes order → IsSizeOfRun d.nodes order size → KeepsPlanLimits size → IsSmallEnough d
small_enough d order size one is sized keeps other run =
    let orders : run.order ≡ order = order_one (IsDecision d.nodes) (ReliesOn d.nodes) run.order order run.is_order is in
    let same : size ≡ other = one d.nodes (run_plans d.nodes order) size other sized (subst (λ o. IsSizeOfRun d.nodes o other) orders run.is_size) in
    subst KeepsPlanLimits same keeps

-- ---- plans that are counted together
-- each of them has at most as many cells as the greatest
fits_greatest : (nodes : List NodeView) → OneGreedyOrder → (plans : List PlanView) (sizes : List Size) → AllZip (HasSize nodes) plans sizes → (plan : PlanView) → Contains plans plan
    → HasCellsAtMost nodes plan (greatest (map (λ (s : Size). s.cells) sizes))
fits_greatest nodes one [] sizes z plan (k, l, e) = absurd (omega arith)
fits_greatest nodes one (p ∷ plans) [] z plan m = absurd z
fits_greatest nodes one (p ∷ plans) (s ∷ sizes) z plan (zero, l, e) =
    let rest = greatest (map (λ (t : Size). t.cells) sizes) in
    subst (λ q. HasCellsAtMost nodes q (max s.cells rest)) e
    (more_room nodes p s.cells (max s.cells rest) (first s.cells rest) (made_room nodes p (record { plan = p; steps = z.0.0; size = s }) one z.0.1))
  where
    first : (a b : ℕ) → a ≤ max a b
    first a b = omega arith
fits_greatest nodes one (p ∷ plans) (s ∷ sizes) z plan (suc k, l, e) =
    let rest = greatest (map (λ (t : Size). t.cells) sizes) in
    more_room nodes plan rest (max s.cells rest) (second s.cells rest) (fits_greatest nodes one plans sizes z.1 plan (k, omega arith, e))
  where
    second : (a b : ℕ) → b ≤ max a b
    second a b = omega arith

pub plan_fits : (nodes : List NodeView) (plans : List PlanView) (size : Size) → OneGreedyOrder → IsSizeOfAll nodes plans size → (plan : PlanView) → Contains plans plan → HasCellsAtMost nodes plan size.cells
plan_fits nodes plans size one sized plan m = subst (HasCellsAtMost nodes plan) (sym sized.cells) (fits_greatest nodes one plans sized.sizes sized.each plan m)

-- ---- the plans of a run
contains_map : {X : Type 0} (f : ℕ → X) (v : ℕ) (vs : List ℕ) → Among v vs → Contains (map f vs) (f v)
contains_map f v [] h = absurd h
contains_map f v (u ∷ vs) (inl e) = (0, omega arith, ap f (sym e))
contains_map f v (u ∷ vs) (inr m) = let c = contains_map f v vs m in (suc c.0, omega (arith, c.1), c.2)

contains_flat : {X : Type 0} (f : ℕ → List X) (x : X) (v : ℕ) (vs : List ℕ) → Among v vs → Contains (f v) x → Contains (flat_map f vs) x
contains_flat f x v [] h m = absurd h
contains_flat f x v (u ∷ vs) (inl e) m = Contains-append_left (f u) (flat_map f vs) x (subst (λ w. Contains (f w) x) e m)
contains_flat f x v (u ∷ vs) (inr h) m = Contains-append_right (f u) (flat_map f vs) x (contains_flat f x v vs h m)

-- they are those of rows, then those of states, then those of worths
module _ (nodes : List NodeView) (order : List ℕ) (cells : ℕ) (tested : TestsDescent) (lists : ListsDecisions nodes order) (fits : (plan : PlanView) → Contains (run_plans nodes order) plan → HasCellsAtMost nodes plan cells) where
  abbrev rows : List PlanView
  rows = map (λ d. row_plan nodes d) order

  abbrev gains : List PlanView
  gains = flat_map (λ d. map (λ u. gain_plan nodes d u) (goal_list nodes d)) order

  abbrev worths : List PlanView
  worths = map (λ u. worth_plan u) (utility_list nodes)

  of_rows : (plan : PlanView) → Contains rows plan → HasCellsAtMost nodes plan cells
  of_rows plan m = fits plan (Contains-append_left (rows ++ gains) worths plan (Contains-append_left rows gains plan m))

  of_gains : (plan : PlanView) → Contains gains plan → HasCellsAtMost nodes plan cells
  of_gains plan m = fits plan (Contains-append_left (rows ++ gains) worths plan (Contains-append_right rows gains plan m))

  of_worths : (plan : PlanView) → Contains worths plan → HasCellsAtMost nodes plan cells
  of_worths plan m = fits plan (Contains-append_right (rows ++ gains) worths plan m)

  in_order : (d : ℕ) → IsDecision nodes d → Among d order
  in_order d k = among_from_contains order d ((lists.all d).1 k)

  goal_listed : (d u : ℕ) → IsGoal nodes d u → Among u (goal_list nodes d)
  goal_listed d u goal = filter_has (λ x. is_goal nodes d x) u (numbers_of nodes) (number nodes u goal.within) (λ i. (tested nodes d u).1 goal.below i && (ap is_utility goal.kind i && (any_is (agent_of nodes d) (owners_of nodes u)).1 goal.owner i))

  pub has_room : HasRoomForRun nodes cells
  has_room = record {
    decisions = λ d k. record {
      rows = of_rows (row_plan nodes d) (contains_map (λ e. row_plan nodes e) d order (in_order d k));
      goals = λ u goal. of_gains (gain_plan nodes d u)
          (contains_flat (λ e. map (λ x. gain_plan nodes e x) (goal_list nodes e)) (gain_plan nodes d u) d order (in_order d k)
          (contains_map (λ x. gain_plan nodes d x) u (goal_list nodes d) (goal_listed d u goal)));
    };
    worths = λ u l k. of_worths (worth_plan u)
        (contains_map (λ x. worth_plan x) u (utility_list nodes) (filter_has (λ x. is_utility (node_at nodes x).kind) u (numbers_of nodes) (number nodes u l) (ap is_utility k)));
  }

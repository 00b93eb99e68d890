-- The room that plans need.
use Rattle.std.proofs.Common.{◌≡◌, ◌∙◌, ℕ, ◌+◌, ◌<◌, ◌≤◌, max, All, List, get_or, length, sym, ap, subst, arith}
use Rattle.std.proofs.lemmas.List.{get_or_default}
use Rattle.std.proofs.Math.Decide.{ℕ_discrete}
use Rattle.maid_model.specs.Views.{NodeView}
use Rattle.plan_sums.specs.Plans.{PlanView, row_plan, gain_plan, worth_plan}
use Rattle.size_precheck.specs.Laws.{OneGreedyOrder}
use Rattle.size_precheck.specs.Sizes.{SizedPlan, IsMade, plan_cells}
use Rattle.rule_solver.specs.Rooms.{HasCellsAtMost, HasRoomForRun}

-- a plan has one greedy order, so as many cells as where it was made before
pub made_room : (nodes : List NodeView) (plan : PlanView) (made : SizedPlan) → OneGreedyOrder → IsMade nodes plan made → HasCellsAtMost nodes plan made.size.cells
made_room nodes plan made one is = λ other again. same _ _ (again.cells ∙ ap (plan_cells nodes plan) (one nodes plan other.steps made.steps again.greedy is.greedy) ∙ sym is.cells)
  where
    same : (a b : ℕ) → a ≡ b → a ≤ b
    same a b e = omega (arith, e)

-- more room is room
pub more_room : (nodes : List NodeView) (plan : PlanView) (a b : ℕ) → a ≤ b → HasCellsAtMost nodes plan a → HasCellsAtMost nodes plan b
more_room nodes plan a b h room made is = let l = room made is in omega (arith, h, l)

-- so it is for all plans of a run
pub more_rooms : (nodes : List NodeView) (a b : ℕ) → a ≤ b → HasRoomForRun nodes a → HasRoomForRun nodes b
more_rooms nodes a b h room = record {
  decisions = λ d is. record {
    rows = more_room nodes (row_plan nodes d) a b h (room.decisions d is).rows;
    goals = λ u goal. more_room nodes (gain_plan nodes d u) a b h ((room.decisions d is).goals u goal);
  };
  worths = λ u l e. more_room nodes (worth_plan u) a b h (room.worths u l e);
}

-- ---- the most cells of some plans
-- one plan more
pub more_cells : (plans : List SizedPlan) (i most cells both : ℕ) (plan : SizedPlan) → i < length plans → plan ≡ get_or plans i plan → cells ≡ plan.size.cells → both ≡ max most cells
    → ((k : ℕ) (e : SizedPlan) → k < i → (get_or plans k e).size.cells ≤ most) → (k : ℕ) (e : SizedPlan) → k < i + 1 → (get_or plans k e).size.cells ≤ both
more_cells plans i most cells both plan within at counted greater so k e h = go (ℕ_discrete k i)
  where
    here : (get_or plans i e).size.cells ≡ cells
    here = ap (λ (x : SizedPlan). x.size.cells) (get_or_default plans i e plan within ∙ sym at) ∙ sym counted

    left : (x : ℕ) → x ≤ most → x ≤ both
    left x f = omega (arith, f, greater)

    right : (x : ℕ) → x ≡ cells → x ≤ both
    right x f = omega (arith, f, greater)

    less : (k ≡ i → ⊥) → k < i
    less m = omega (arith, h)

    go : Dec (k ≡ i) → (get_or plans k e).size.cells ≤ both
    go (yes f) = subst (λ x. (get_or plans x e).size.cells ≤ both) (sym f) (right (get_or plans i e).size.cells here)
    go (no m) = left (get_or plans k e).size.cells (so k e (less m))

-- and a number that all have at most is not passed
pub least_cells : (plans : List SizedPlan) (i most cells both n : ℕ) (plan : SizedPlan) → i < length plans → plan ≡ get_or plans i plan → cells ≡ plan.size.cells → both ≡ max most cells
    → most ≤ n → All (λ (x : SizedPlan). x.size.cells ≤ n) plans → both ≤ n
least_cells plans i most cells both n plan within at counted greater few all =
    join (get_or plans i plan).size.cells (all i plan within) (ap (λ (x : SizedPlan). x.size.cells) (sym at) ∙ sym counted)
  where
    join : (x : ℕ) → x ≤ n → x ≡ cells → both ≤ n
    join x h e = omega (arith, h, e, greater, few)

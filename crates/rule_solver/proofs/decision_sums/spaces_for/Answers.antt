-- The cells of the largest of the decision's plans are room for all of them, and no fewer are.
use Rattle.std.proofs.Common.{ℕ, ◌≤◌, All, List, Result, Ok, Err, IfOk, sym, subst, arith}
use Rattle.maid_model.specs.declared.limits.TheConstants.{MOST_PLAN_CELLS}
use Rattle.size_precheck.specs.declared.sizes.Size.{Size}
use Rattle.size_precheck.specs.Sizes.{SizedPlan}
use Rattle.rule_solver.specs.Rooms.{AreReady, AreReadyForDecision}
use Rattle.rule_solver.proofs.GoalPlans.{kept_room, room_kept}
use Rattle.rule_solver.proofs.decision_sums.spaces_for.Goals as goal

-- what follows from two promises
both : {T E : Type 0} (r : Result T E) (P Q R : T → Type 0) → ((x : T) → P x → Q x → R x) → IfOk r P → IfOk r Q → IfOk r R
both (Ok x) P Q R law p q = law x p q
both (Err e) P Q R law p q = tt

more_than : (cells room n : ℕ) → cells ≤ room → n ≤ cells → n ≤ room
more_than cells room n more few = omega (arith, more, few)

pub with_room-requires-clause-limit : goal.with_room-requires-clause-limit
with_room-requires-clause-limit c =
    let both = room_kept c.args.diagram.now.nodes c.count-count.ensures.diagram.graph c.args.decision c.requires.decision c.args.plans.now.rows c.args.plans.now.goals.items c.requires.planned.of_rows c.requires.planned.of_goals MOST_PLAN_CELLS c.requires.room in
    c.most_cells-cells.ensures.least MOST_PLAN_CELLS
    (subst (λ (s : Size). s.cells ≤ MOST_PLAN_CELLS) (sym c.size.ensures) both.0)
    (subst (λ (l : List SizedPlan). All (λ (plan : SizedPlan). plan.size.cells ≤ MOST_PLAN_CELLS) l) (sym c.deref.ensures.value) both.1)

pub overflow_cast-cells : goal.overflow_cast-cells
overflow_cast-cells c = let few : c.most_cells-cells.result ≤ MOST_PLAN_CELLS = with_room-requires-clause-limit c in omega (arith, few)

pub returns : goal.returns
returns c =
    let nodes = c.args.diagram.now.nodes in
    let plans = c.args.plans.now in
    let cells = c.most_cells-cells.result in
    both c.with_room.result (λ spaces. AreReady spaces.cells spaces) (λ spaces. cells ≤ spaces.cells) (AreReadyForDecision nodes c.args.decision)
    (λ spaces ready more. (
      spaces.cells,
      ready,
      kept_room nodes c.count-count.ensures.diagram.graph c.args.decision c.requires.decision plans.rows plans.goals.items c.requires.planned.of_rows c.requires.planned.of_goals c.greedy_orders.ensures.one spaces.cells
          (more_than cells spaces.cells _ more (subst (λ (s : Size). s.cells ≤ cells) c.size.ensures c.most_cells-cells.ensures.fewest))
          (λ k d h. more_than cells spaces.cells _ more (subst (λ (l : List SizedPlan). All (λ (plan : SizedPlan). plan.size.cells ≤ cells) l) c.deref.ensures.value c.most_cells-cells.ensures.plans k d h)),
    ))
    c.with_room.ensures.ready c.with_room.ensures.room

use Rattle.std.proofs.Common.{◌∙◌, ◌⊎◌, ◌↔◌, ℕ, ◌≤◌, ◌^◌, List, Contains, inl, inr, length, refl, subst, sym, ap, arith}
use Rattle.std.proofs.lemmas.Result.{IfOk-from_err}
use Rattle.maid_model.specs.Views.{NodeView}
use Rattle.node_sets.specs.Sets.{IsIn}
use Rattle.plan_sums.specs.Plans.{PlanView}
use Rattle.size_precheck.specs.Joints.{AreStateCounts, IsRunOfPlan}
use Rattle.size_precheck.specs.Sizes.{plan_of, CanBePlanned}
use Rattle.size_precheck.proofs.Counting.{counted_few, stopped_few}
use Rattle.size_precheck.proofs.Orders.{order_of_greedy}
use Rattle.size_precheck.proofs.Planning.{kept_counted, last_cells, last_work}
use Rattle.size_precheck.proofs.Starting.{kept_known, step_known}
use Rattle.size_precheck.proofs.plans.plan_in.Goals as goal

pub set_of-kept-requires : goal.set_of-kept-requires
set_of-kept-requires c v m = let a = kept_known c.args.diagram.now.nodes _ c.requires.asked.is_plan v (subst (λ (xs : List ℕ). Contains xs v) c.deref-2.ensures.value m) in let b = c.count-count.ensures.diagram.limits.nodes in omega arith

pub insert_all-requires : goal.insert_all-requires
insert_all-requires c v m =
    let nodes : List NodeView = c.args.diagram.now.nodes in
    let plan : PlanView = record { keep = c.args.keep.items; without = c.args.without; utility = c.args.utility } in
    let made : IsRunOfPlan nodes plan c.in_ok-run.run' = subst (λ (xs : List ℕ). IsRunOfPlan nodes (plan_of xs c.args.without c.args.utility) c.in_ok-run.run') c.deref.ensures.value c.in_ok-run.ensures.run in
    let order = order_of_greedy nodes plan c.in_ok-run.run'.steps.items made.greedy in
    let known = step_known nodes plan v ((order.all v).0 (subst (λ (xs : List ℕ). Contains xs v) c.deref-3.ensures.value m)) in
    let few = c.count-count.ensures.diagram.limits.nodes in
    omega arith

pub add-cells-requires-clause-b : goal.add-cells-requires-clause-b
add-cells-requires-clause-b c = subst (λ (n : ℕ). n ≤ 10 ^ 18) (sym c.count_cells-last.ensures) (counted_few _ _)

pub count_cells-last-requires : goal.count_cells-last-requires
count_cells-last-requires c = ap (λ (xs : List ℕ). length xs) c.as_slice-states.ensures.value ∙ c.requires.planner.long

pub add-cells-requires-clause-a : goal.add-cells-requires-clause-a
add-cells-requires-clause-a c = c.in_ok-run.ensures.few

pub add-work-requires-clause-a : goal.add-work-requires-clause-a
add-work-requires-clause-a c = c.in_ok-run.ensures.little

pub add-work-requires-clause-b : goal.add-work-requires-clause-b
add-work-requires-clause-b c = subst (λ (n : ℕ). n ≤ 10 ^ 18) (sym c.multiply.ensures) (stopped_few _)

pub run_in-requires-clause-diagram : goal.run_in-requires-clause-diagram
run_in-requires-clause-diagram c = c.count-count.ensures.diagram

pub run_in-requires-clause-planner : goal.run_in-requires-clause-planner
run_in-requires-clause-planner c = c.requires.planner

pub run_in-requires-clause-asked : goal.run_in-requires-clause-asked
run_in-requires-clause-asked c =
    subst (λ (xs : List ℕ). CanBePlanned c.args.diagram.now.nodes (plan_of xs c.args.without c.args.utility)) (sym {A = List ℕ} c.deref.ensures.value) c.requires.asked

pub returns-in_err-run : goal.returns-in_err-run
returns-in_err-run c = IfOk-from_err _ _ c.from_residual.ensures.0

pub returns : goal.returns
returns c =
    let nodes : List NodeView = c.args.diagram.now.nodes in
    let plan : PlanView = record { keep = c.args.keep.items; without = c.args.without; utility = c.args.utility } in
    let states = c.as_slice-states.result.now in
    let are : AreStateCounts nodes states = subst (λ (xs : List ℕ). AreStateCounts nodes xs) (sym c.as_slice-states.ensures.value) c.requires.planner.states in
    let steps = c.in_ok-run.run'.steps.items in
    let made : IsRunOfPlan nodes plan c.in_ok-run.run' = subst (λ (xs : List ℕ). IsRunOfPlan nodes (plan_of xs c.args.without c.args.utility) c.in_ok-run.run') c.deref.ensures.value c.in_ok-run.ensures.run in
    let kept : (v : ℕ) → IsIn c.set_of-kept.result v ↔ Contains c.args.keep.items v = subst (λ (xs : List ℕ). (v : ℕ) → IsIn c.set_of-kept.result v ↔ Contains xs v) c.deref-2.ensures.value c.set_of-kept.ensures in
    let last = c.count_cells-last.ensures ∙ kept_counted nodes states c.args.keep.items c.set_of-kept.result are kept in
    record {
      plan = refl;
      greedy = made.greedy;
      order = order_of_greedy nodes plan steps made.greedy;
      cells = last_cells _ _ _ _ _ made.cells last c.add-cells.ensures;
      work = last_work _ _ _ _ _ _ _ _ made.work last made.live c.multiply.ensures c.add-work.ensures;
    }

-- the members are the kept nodes and the steps
pub invariant_of-result : goal.invariant_of-result
invariant_of-result c v =
    let keep = c.args.keep.items in
    let steps = c.in_ok-run.run'.steps.items in
    let all = c.insert_all.ensures.all v in
    let kept : IsIn c.set_of-kept.result v ↔ Contains keep v = subst (λ (xs : List ℕ). IsIn c.set_of-kept.result v ↔ Contains xs v) c.deref-2.ensures.value (c.set_of-kept.ensures v) in (
      (λ m. elim (all.0 m) as (λ _. Contains keep v ⊎ Contains steps v) [
        | inl k ↦ inl (kept.0 k)
        | inr s ↦ inr (subst (λ (xs : List ℕ). Contains xs v) c.deref-3.ensures.value s)
      ]),
      (λ m. all.1 (elim m as (λ _. IsIn c.set_of-kept.result v ⊎ Contains c.deref-3.result.now v) [
        | inl k ↦ inl (kept.1 k)
        | inr s ↦ inr (subst (λ (xs : List ℕ). Contains xs v) (sym c.deref-3.ensures.value) s)
      ])),
    )

use Rattle.std.proofs.Common.{◌≡◌, ◌∙◌, ◌+◌, ◌++◌, ◌∷◌, [], ℕ, List, map, take, sym, ap}
use Rattle.std.proofs.lemmas.List.{map-append, take_more, take_all}
use Rattle.size_precheck.specs.Sizes.{SizedPlan}
use Rattle.rule_solver.specs.Together.{goal_in}
use Rattle.rule_solver.proofs.joint_goals.list_goals.Goals as goal

pub loop-plan-preserved : goal.loop-plan-preserved
loop-plan-preserved c =
    let plans = c.args.plans.now in
    let k = c.loop-plan.plan-index in
    let plan = c.plan-item.result in
    let more : map goal_in (take (k + 1) plans) ≡ map goal_in (take k plans) ++ goal_in plan ∷ [] = ap (λ (l : List SizedPlan). map goal_in l) (take_more plans k plan c.loop-plan-test.true ∙ ap (λ (p : SizedPlan). take k plans ++ p ∷ []) (sym c.plan-item.is)) ∙ map-append goal_in (take k plans) (plan ∷ []) in
    ◌∙◌ {A = List ℕ} c.in_ok-push.ensures.items ((λ i. c.loop-plan.invariant i ++ c.goal_in.ensures i ∷ []) ∙ sym more)

pub loop-plan-init : goal.loop-plan-init
loop-plan-init c = c.in_ok-goals.ensures.items

pub returns : goal.returns
returns c =
    ◌∙◌ {A = List ℕ} c.loop-plan.invariant (ap (λ (l : List SizedPlan). map goal_in l) (take_all c.loop-plan.plan-index c.args.plans.now c.loop-plan-test.false))

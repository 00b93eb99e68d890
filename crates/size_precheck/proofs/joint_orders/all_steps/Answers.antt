use Rattle.std.proofs.Common.{◌⊎◌, ◌↔◌, ℕ, Contains, List, inr, subst, sym}
use Rattle.std.proofs.lemmas.List.{take_all}
use Rattle.node_sets.specs.Sets.{IsIn}
use Rattle.size_precheck.specs.Decisions.{IsStepOf}
use Rattle.size_precheck.specs.Sizes.{SizedPlan}
use Rattle.size_precheck.proofs.Ordering.{gathers_more}
use Rattle.size_precheck.proofs.joint_orders.all_steps.Goals as goal

pub insert_all-requires : goal.insert_all-requires
insert_all-requires c v m =
    c.requires v (c.plan-item.result, (c.loop-plan.plan-index, c.loop-plan-test.true, sym c.plan-item.is), inr (subst (λ (l : List ℕ). Contains l v) c.steps.ensures m))

pub loop-plan-preserved : goal.loop-plan-preserved
loop-plan-preserved c =
    gathers_more (λ (p : SizedPlan) v. Contains p.steps v) c.args.plans.now c.loop-plan.plan-index c.plan-item.result c.loop-plan.steps c.insert_all.new.self c.loop-plan-test.true c.plan-item.is c.loop-plan.invariant
    (λ v. subst (λ (l : List ℕ). IsIn c.insert_all.new.self v ↔ (IsIn c.loop-plan.steps v ⊎ Contains l v)) c.steps.ensures (c.insert_all.ensures.all v))

pub returns : goal.returns
returns c v = subst (λ (plans : List SizedPlan). IsIn c.loop-plan.steps v ↔ IsStepOf plans v) (take_all c.loop-plan.plan-index c.args.plans.now c.loop-plan-test.false) (c.loop-plan.invariant v)

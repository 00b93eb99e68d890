use Rattle.std.proofs.Common.{◌⊎◌, ◌↔◌, List, inl, inr, subst}
use Rattle.std.proofs.lemmas.List.{take_all}
use Rattle.node_sets.specs.Sets.{IsIn}
use Rattle.size_precheck.specs.Decisions.{IsNodeOf}
use Rattle.size_precheck.specs.Sizes.{IsMember, SizedPlan}
use Rattle.size_precheck.proofs.Ordering.{gathers_more}
use Rattle.size_precheck.proofs.joint_orders.all_members.Goals as goal

pub loop-plan-preserved : goal.loop-plan-preserved
loop-plan-preserved c =
    gathers_more IsMember c.args.plans.now c.loop-plan.plan-index c.plan-item.result c.loop-plan.members c.union-members.result c.loop-plan-test.true c.plan-item.is c.loop-plan.invariant (λ v. (
      (λ m. elim ((c.union-members.ensures v).0 m) as (λ _. IsIn c.loop-plan.members v ⊎ IsMember c.plan-item.result v) [ inl o ↦ inl o | inr n ↦ inr ((c.members.ensures v).0 n) ]),
      (λ h. (c.union-members.ensures v).1 (elim h as (λ _. IsIn c.loop-plan.members v ⊎ IsIn c.members.result v) [ inl o ↦ inl o | inr n ↦ inr ((c.members.ensures v).1 n) ])),
    ))

pub returns : goal.returns
returns c v = subst (λ (plans : List SizedPlan). IsIn c.loop-plan.members v ↔ IsNodeOf plans v) (take_all c.loop-plan.plan-index c.args.plans.now c.loop-plan-test.false) (c.loop-plan.invariant v)

use Rattle.std.proofs.Common.{◌∙◌, ◌++◌, ◌∷◌, [], sym}
use Rattle.std.proofs.lemmas.List.{take_all, take_more}
use Rattle.size_precheck.proofs.decisions.copy_plans.Goals as goal

pub loop-plan-init : goal.loop-plan-init
loop-plan-init c = c.in_ok-copies.ensures.items

pub loop-plan-preserved : goal.loop-plan-preserved
loop-plan-preserved c =
    let copied = c.in_ok-copy.ensures ∙ c.plan-item.is in
    c.in_ok-push.ensures.items ∙ (λ i. c.loop-plan.invariant i ++ copied i ∷ []) ∙ sym (take_more c.args.plans.now c.loop-plan.plan-index c.plan-item.result c.loop-plan-test.true)

pub returns : goal.returns
returns c = c.loop-plan.invariant ∙ take_all c.loop-plan.plan-index c.args.plans.now c.loop-plan-test.false

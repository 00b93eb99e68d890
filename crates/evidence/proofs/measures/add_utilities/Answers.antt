use borrow.Author.Count.{falls}
use Rattle.std.proofs.lemmas.Result.{IfOk-from_err}
use Rattle.std.proofs.Common.{◌∙◌, ◌+◌, None, arith, length, slice_index_or, sym, subst, ap, ◌<◌, ◌≡◌}
use Rattle.evidence.specs.Plans.{IsPlanIf}
use Rattle.evidence.proofs.Listed.{at_more, long_more}
use Rattle.evidence.proofs.Measured.{Counted, counted_first, counted_next, work_few}
use Rattle.evidence.proofs.measures.add_utilities.Goals as goal

pub loop-v-init : goal.loop-v-init
loop-v-init c = (
  λ plans is. counted_first c.args.diagram.now.nodes plans c.args.node c.args.size is,
  c.requires.few,
  ap (λ l. length l) c.in_ok-plans.ensures.items,
  λ u l. absurd (omega (arith, l)),
)

pub loop-v-preserved : goal.loop-v-preserved
loop-v-preserved c =
    let nodes = c.args.diagram.now.nodes in
    let x = c.args.node in
    let before = c.loop-v.plans.items in
    let count = c.loop-v.invariant.2 in (
      λ plans is. counted_next nodes plans x c.loop-v.v c.loop-v.all c.in_ok-plan.more (c.loop-v.invariant.0 plans is) c.in_ok-plan.ensures.size,
      work_few nodes x c.loop-v.v c.loop-v.all c.in_ok-plan.more c.in_ok-plan.ensures.size c.loop-v.invariant.1,
      ap (λ l. length l) c.in_ok-push.ensures.items ∙ long_more before c.in_ok-plan.plan ∙ ap (λ n. n + 1) count,
      λ u l.
          subst (λ items. IsPlanIf nodes x u (slice_index_or items u None)) (sym c.in_ok-push.ensures.items)
          (at_more (IsPlanIf nodes x) before c.in_ok-plan.plan None (λ v m. c.loop-v.invariant.3 v (omega (arith, m, count))) (λ n e. subst (λ v. IsPlanIf nodes x v c.in_ok-plan.plan) (sym (e ∙ count)) c.in_ok-plan.ensures.plan) u (omega (arith, l, count))),
    )

pub returns-in_err-plans-clause-plans : goal.returns-in_err-plans-clause-plans
returns-in_err-plans-clause-plans c = IfOk-from_err _ _ c.from_residual.ensures.0

pub returns-in_err-plans-clause-size : goal.returns-in_err-plans-clause-size
returns-in_err-plans-clause-size c = IfOk-from_err _ _ c.from_residual.ensures.0

pub returns-in_err-plan-clause-plans : goal.returns-in_err-plan-clause-plans
returns-in_err-plan-clause-plans c = IfOk-from_err _ _ c.from_residual-in_err-plan.ensures.0

pub returns-in_err-plan-clause-size : goal.returns-in_err-plan-clause-size
returns-in_err-plan-clause-size c = IfOk-from_err _ _ c.from_residual-in_err-plan.ensures.0

pub returns-in_err-push-clause-plans : goal.returns-in_err-push-clause-plans
returns-in_err-push-clause-plans c = IfOk-from_err _ _ c.from_residual-in_err-push.ensures.0

pub returns-in_err-push-clause-size : goal.returns-in_err-push-clause-size
returns-in_err-push-clause-size c = IfOk-from_err _ _ c.from_residual-in_err-push.ensures.0

pub add_utility-requires-clause-planner : goal.add_utility-requires-clause-planner
add_utility-requires-clause-planner c = c.requires.planner

pub add_utility-requires-clause-node : goal.add_utility-requires-clause-node
add_utility-requires-clause-node c = c.requires.within

pub add_utility-requires-clause-kind : goal.add_utility-requires-clause-kind
add_utility-requires-clause-kind c = c.requires.kind

pub add_utility-requires-clause-within : goal.add_utility-requires-clause-within
add_utility-requires-clause-within c = subst (λ n. c.loop-v.v < n) c.count-v-end.ensures.count c.loop-v-test.true

pub add_utility-requires-clause-few : goal.add_utility-requires-clause-few
add_utility-requires-clause-few c = c.loop-v.invariant.1

pub loop-v-smaller : goal.loop-v-smaller
loop-v-smaller c = falls _ _ c.loop-v-test.true

pub returns-clause-plans : goal.returns-clause-plans
returns-clause-plans c =
    let end : c.loop-v.v ≡ length c.args.diagram.now.nodes = omega (arith, c.loop-v-test.false, c.loop-v.auto.v-end, c.count-v-end.ensures.count) in
    record { count = c.loop-v.invariant.2 ∙ end; each = λ v l. c.loop-v.invariant.3 v (omega (arith, l, end)) }

pub returns-clause-size : goal.returns-clause-size
returns-clause-size c =
    let end : c.loop-v.v ≡ length c.args.diagram.now.nodes = omega (arith, c.loop-v-test.false, c.loop-v.auto.v-end, c.count-v-end.ensures.count) in
    λ plans is. subst (λ n. Counted c.args.diagram.now.nodes plans c.args.node n c.loop-v.all) end (c.loop-v.invariant.0 plans is)

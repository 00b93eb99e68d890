use Rattle.std.proofs.Common.{◌+◌, ℕ, List, [], take, subst, sym}
use Rattle.std.proofs.lemmas.List.{take_all}
use Rattle.std.proofs.lemmas.List.Elements.{Contains-get_or}
use Rattle.size_precheck.specs.declared.decisions.DecisionPlans.{DecisionPlans}
use Rattle.size_precheck.specs.Decisions.{ArePlans}
use Rattle.size_precheck.proofs.Kept.{plans_next}
use Rattle.size_precheck.proofs.keeping.plan_decisions.Goals as goal

pub decision_with-requires-clause-decision : goal.decision_with-requires-clause-decision
decision_with-requires-clause-decision c = (c.requires.order.all _).0 (Contains-get_or _ _ 0 c.loop-decision-test.true)

pub loop-decision-preserved : goal.loop-decision-preserved
loop-decision-preserved c =
    subst (ArePlans c.args.diagram.now.nodes (take (c.loop-decision.decision-index + 1) c.args.order.now)) (sym c.in_ok-push.ensures.items)
    (plans_next c.args.diagram.now.nodes c.args.order.now c.loop-decision.plans.items c.loop-decision.decision-index c.in_ok-of_one.of_one c.loop-decision-test.true c.loop-decision.invariant c.in_ok-of_one.ensures)

pub loop-decision-init : goal.loop-decision-init
loop-decision-init c = subst (λ (plans : List DecisionPlans). ArePlans c.args.diagram.now.nodes [] plans) (sym c.in_ok-plans.ensures.items) tt

pub decision_with-requires-clause-planner : goal.decision_with-requires-clause-planner
decision_with-requires-clause-planner c = c.requires.planner

pub decision_with-requires-clause-kept : goal.decision_with-requires-clause-kept
decision_with-requires-clause-kept c = c.requires.kept

pub returns : goal.returns
returns c = subst (λ (l : List ℕ). ArePlans c.args.diagram.now.nodes l c.loop-decision.plans.items) (take_all c.loop-decision.decision-index c.args.order.now c.loop-decision-test.false) c.loop-decision.invariant
